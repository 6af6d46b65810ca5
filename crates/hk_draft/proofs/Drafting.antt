-- An overlay's writes as a draft's.
use Rattle.std.proofs.Common.{◌≡◌, true, false, ◌||◌, if◌then◌else◌, List, [], ◌∷◌, ◌++◌, refl, ap, ◌∙◌, Option, None}
use Rattle.std.proofs.lemmas.List.Elements.{filter_map-append}
use Rattle.hk_emit.specs.declared.emission.Emission.{Emission}
use Rattle.hk_state.specs.declared.entry.Entry.{Entry}
use Rattle.hk_state.specs.declared.key.Key.{Key}
use Rattle.hk_state.specs.declared.key.Key.TheVariants as key
use Rattle.hk_state.specs.declared.key.StateKey.{StateKey}
use Rattle.hk_state.specs.Keys.{is_key, as_key}
use Rattle.hk_state.specs.Entries.{Entries, write}
use Rattle.hk_state.specs.Rules.{as_state_key, state_keys}
use Rattle.hk_state.specs.Writes.{Writes, written, note, with_writes, with_written}
use Rattle.hk_state.specs.Writes as writes
use Rattle.hk_draft.specs.Draft.{Draft, is_listed, noted, change_to}
use Rattle.hk_draft.specs.Drafted.{draft_of}
use Rattle.hk_draft.specs.Laws.{WritesSo}

listed_so : (q : StateKey) (keys : List Key) → writes.is_listed (as_key q) keys ≡ is_listed q (state_keys keys)
listed_so q [] = refl
listed_so q (key.State owner namespace k ∷ keys) =
    ap (λ b. is_key (as_key q) (key.State owner namespace k) || b) (listed_so q keys)
listed_so q (k ∷ keys) = listed_so q keys

noted_so : (q : StateKey) (keys : List Key) → state_keys (note (as_key q) keys) ≡ noted q (state_keys keys)
noted_so q keys =
    ap (λ b. state_keys (if b then keys else keys ++ as_key q ∷ [])) (listed_so q keys)
    ∙ elim (is_listed q (state_keys keys)) as (λ b.
    state_keys (if b then keys else keys ++ as_key q ∷ [])
    ≡ (if b then state_keys keys else state_keys keys ++ q ∷ [])) [
      | true ↦ refl
      | false ↦ filter_map-append as_state_key keys (as_key q ∷ [])
    ]

-- the draft after a change at one State key
abbrev changed : Draft → StateKey → Option Entry → Draft
changed d q change = record {
  entries = write d.entries (as_key q) change;
  written = noted q d.written;
  emissions = d.emissions;
}

changed_so : (m : Entries) (w : Writes) (es : List Emission) (q : StateKey) (change : Option Entry) →
    draft_of m (written w (as_key q) change) es ≡ changed (draft_of m w es) q change
changed_so m w es q change = λ i. record {
  entries = with_written m w (as_key q) change i;
  written = noted_so q w.listed i;
  emissions = es;
}

pub write_draft : WritesSo
write_draft m w es q [] = changed_so m w es q None
write_draft m w es q (b ∷ bs) = changed_so m w es q (change_to (b ∷ bs))
