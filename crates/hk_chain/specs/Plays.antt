-- One hook's turn in a chain or a callback (this project's own). `before` are the entries as the event began, and
-- `number` that of the next emission then.
use Rattle.std.specs.Prelude.{ℕ, Bool, true, false, List, Option, Some, None, is_some}
use Rattle.std.specs.FinMap.{get}
use Rattle.hk_bound.specs.declared.fault.Export.{Export}
use Rattle.hk_bound.specs.declared.fault.Export.TheVariants.{Hook, Cbak}
use Rattle.wa_machine.specs.Runs.{Ending}
use Rattle.wa_exec.specs.Runs.{code_run}
use Rattle.hk_state.specs.declared.entry.Entry.{Entry}
use Rattle.hk_state.specs.declared.entry.Entry.TheVariants as entry
use Rattle.hk_state.specs.declared.key.Key.TheVariants as key
use Rattle.hk_state.specs.Entries.{Entries}
use Rattle.hk_slots.specs.Slots.{no_slots}
use Rattle.hk_draft.specs.Draft.{Draft}
use Rattle.hk_api_parts.specs.declared.chain_state.ChainState.{ChainState}
use Rattle.hk_api_parts.specs.declared.place.Place.{Place}
use Rattle.hk_api_parts.specs.declared.setting.Setting.{Setting}
use Rattle.hk_api_parts.specs.Emitting.{nothing_emitted}
use Rattle.hk_api.specs.HostState.{HostState}
use Rattle.hk_chain.specs.declared.turn.Turn.{Turn}
use Rattle.hk_chain.specs.declared.work.HookRun.{HookRun}
use Rattle.hk_chain.specs.Calls.{hook_meaning}

-- what passes from hook to hook
pub record Passing : Type 0 where
  pub draft : Draft
  pub chain : ChainState

-- nothing runs, or a hook runs and leaves this to the next
pub data Play : Type 0 where
  idle : Play
  plays : Passing → HookRun → Play

-- a run begins from what the hooks before left, over the entries and the number of the next emission as the event began
abbrev pub begins : Setting → ℕ → Entries → Place → Passing → HostState
begins setting number before place s = record {
  setting = setting;
  place = place;
  before = before;
  next = number;
  draft = s.draft;
  chain = s.chain;
  slots = no_slots;
  emitting = nothing_emitted;
}

abbrev pub leaves : HostState → Passing
leaves h = record { draft = h.draft; chain = h.chain }

abbrev pub ended : ℕ → Option (Ending HostState) → Play
ended bound None = idle
ended bound (Some e) = plays (leaves e.host) (record { outcome = e.outcome; count = e.count; bound = bound })

-- an export that is there, run by the *Run* of its code over all calls, from what the hooks before left
abbrev pub run_bounded : Setting → ℕ → Entries → Place → Passing → List ℕ → Export → ℕ → Option ℕ → Play
run_bounded setting number before place s code which argument None = idle
run_bounded setting number before place s code which argument (Some bound) =
    ended bound (code_run hook_meaning place.version code which argument (begins setting number before place s))

-- the bound of an export, where it is there
abbrev pub stored_bound : Export → ℕ → Option ℕ → Option ℕ
stored_bound Hook bound_hook bound_cbak = Some bound_hook
stored_bound Cbak bound_hook bound_cbak = bound_cbak

abbrev pub is_callback : Export → Bool
is_callback Hook = false
is_callback Cbak = true

-- where the turn's hook runs
abbrev pub place_of : Turn → ℕ → Option ℕ → Place
place_of t version bound_cbak = record {
  account = t.account;
  position = t.position;
  hash = t.hash;
  namespace = t.namespace;
  callback = is_callback t.which;
  has_cbak = is_some bound_cbak;
  version = version;
}

abbrev pub run_definition : Setting → ℕ → Entries → Turn → Passing → Option Entry → Play
run_definition setting number before t s (Some (entry.Definition code version bound_hook bound_cbak)) =
    run_bounded setting number before (place_of t version bound_cbak) s code t.which t.argument
    (stored_bound t.which bound_hook bound_cbak)
run_definition setting number before t s other = idle

-- a turn, by the Definition of its hash
unfoldable pub run_turn : Setting → ℕ → Entries → Turn → Passing → Play
run_turn setting number before t s =
    run_definition setting number before t s (get before (key.Definition t.hash))
