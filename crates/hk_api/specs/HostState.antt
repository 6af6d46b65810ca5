-- The state of the host of one execution. This project's own.
use Rattle.std.specs.Prelude.{ℕ, List, Option, refl}
use Rattle.std.specs.Coded.{Coded, code_by, coded×, coded_list, coded_option, coded_ℕ}
use Rattle.xo_fields.specs.declared.field.FieldId.{FieldId}
use Rattle.xo_fields.specs.contracts.field.FieldId as field
use Rattle.hk_emit.specs.declared.emission.Emission.{Emission}
use Rattle.hk_state.specs.declared.key.StateKey.{StateKey}
use Rattle.hk_state.specs.Entries.{Entries, coded_entries}
use Rattle.hk_state.specs.Ledger.{LedgerValue}
use Rattle.hk_slots.specs.Slots.{Slot, SlotMap, no_slots}
use Rattle.hk_draft.specs.Draft.{Draft, coded_draft, write_state, emits_too}
use Rattle.hk_api_parts.specs.declared.setting.Setting.{Setting}
use Rattle.hk_api_parts.specs.declared.place.Place.{Place}
use Rattle.hk_api_parts.specs.declared.chain_state.ChainState.{ChainState}
use Rattle.hk_api_parts.specs.declared.emitting.Emitting.{Emitting}
use Rattle.hk_api_parts.specs.Emitting.{nothing_emitted, with_emitted}
use Rattle.hk_api_parts.specs.Codes.{coded_setting, coded_place, coded_chain, coded_emitting}

-- what the hook runs on and where; the entries and the number of the next emission as the event began; what was written
-- so far; what hooks pass on; and this execution's slots and counters
pub record HostState : Type 0 where
  pub setting : Setting
  pub place : Place
  pub before : Entries
  pub next : ℕ
  pub draft : Draft
  pub chain : ChainState
  pub slots : SlotMap
  pub emitting : Emitting

abbrev coded_slot : Coded Slot
coded_slot =
    code_by (Option FieldId × List ℕ) (coded× (coded_option field.the_row.coded) (coded_list coded_ℕ))
    (λ s. (s.field, s.bytes)) (λ p. record { field = p.0; bytes = p.1 }) (λ _. refl)

abbrev pub coded_host : Coded HostState
coded_host =
    code_by (Setting × (Place × (Entries × (ℕ × (Draft × (ChainState × (SlotMap × Emitting)))))))
    (coded× coded_setting (coded× coded_place (coded× coded_entries (coded× coded_ℕ (coded× coded_draft
    (coded× coded_chain (coded× (coded_list (coded_option coded_slot)) coded_emitting)))))))
    (λ s. (s.setting, (s.place, (s.before, (s.next, (s.draft, (s.chain, (s.slots, s.emitting))))))))
    (λ p. record {
      setting = p.0;
      place = p.1.0;
      before = p.1.1.0;
      next = p.1.1.1.0;
      draft = p.1.1.1.1.0;
      chain = p.1.1.1.1.1.0;
      slots = p.1.1.1.1.1.1.0;
      emitting = p.1.1.1.1.1.1.1;
    })
    (λ _. refl)

-- an execution begins
abbrev pub begun : Setting → Place → LedgerValue → Draft → ChainState → HostState
begun setting place ledger draft chain = record {
  setting = setting;
  place = place;
  before = ledger.entries;
  next = ledger.next;
  draft = draft;
  chain = chain;
  slots = no_slots;
  emitting = nothing_emitted;
}

-- bytes that are written at a State key; no bytes remove the entry
pub record StateWrite : Type 0 where
  pub at : StateKey
  pub bytes : List ℕ

abbrev pub with_draft : HostState → Draft → HostState
with_draft s draft = record {
  setting = s.setting;
  place = s.place;
  before = s.before;
  next = s.next;
  draft = draft;
  chain = s.chain;
  slots = s.slots;
  emitting = s.emitting;
}

abbrev pub with_state : HostState → StateKey → List ℕ → HostState
with_state s q bytes = with_draft s (write_state q bytes s.draft)

abbrev pub with_write : HostState → StateWrite → HostState
with_write s w = with_state s w.at w.bytes

abbrev pub with_chain : HostState → ChainState → HostState
with_chain s chain = record {
  setting = s.setting;
  place = s.place;
  before = s.before;
  next = s.next;
  draft = s.draft;
  chain = chain;
  slots = s.slots;
  emitting = s.emitting;
}

abbrev pub with_slots : HostState → SlotMap → HostState
with_slots s slots = record {
  setting = s.setting;
  place = s.place;
  before = s.before;
  next = s.next;
  draft = s.draft;
  chain = s.chain;
  slots = slots;
  emitting = s.emitting;
}

abbrev pub with_emitting : HostState → Emitting → HostState
with_emitting s emitting = record {
  setting = s.setting;
  place = s.place;
  before = s.before;
  next = s.next;
  draft = s.draft;
  chain = s.chain;
  slots = s.slots;
  emitting = emitting;
}

-- an emission goes behind those so far, and uses up its nonce
abbrev pub with_emission : HostState → Emission → HostState
with_emission s e = record {
  setting = s.setting;
  place = s.place;
  before = s.before;
  next = s.next;
  draft = emits_too e s.draft;
  chain = s.chain;
  slots = s.slots;
  emitting = with_emitted s.emitting e.nonce;
}
