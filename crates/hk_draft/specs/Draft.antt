-- What an event has written so far. This project's own.
use Rattle.std.specs.Prelude.{ℕ, Bool, List, [], ◌∷◌, ◌++◌, Option, Some, None, refl, if◌then◌else◌}
use Rattle.std.specs.List.{list_any}
use Rattle.std.specs.Coded.{Coded, code_by, coded×, coded_list}
use Rattle.std.specs.FinMap.{insert, remove}
use Rattle.hk_emit.specs.declared.emission.Emission.{Emission}
use Rattle.hk_emit.specs.contracts.emission.Emission as emission
use Rattle.hk_state.specs.declared.entry.Entry.{Entry}
use Rattle.hk_state.specs.declared.entry.Entry.TheVariants as entry
use Rattle.hk_state.specs.declared.key.StateKey.{StateKey}
use Rattle.hk_state.specs.contracts.key.StateKey as state_key
use Rattle.hk_state.specs.Keys.{is_key, as_key}
use Rattle.hk_state.specs.Entries.{Entries, coded_entries}

-- the entries so far, the State keys that were written, each once, by its first write, and the emissions so far
pub record Draft : Type 0 where
  pub entries : Entries
  pub written : List StateKey
  pub emissions : List Emission

abbrev pub coded_draft : Coded Draft
coded_draft =
    code_by (Entries × (List StateKey × List Emission))
    (coded× coded_entries (coded× (coded_list state_key.the_row.coded) (coded_list emission.the_row.coded)))
    (λ d. (d.entries, (d.written, d.emissions)))
    (λ p. record { entries = p.0; written = p.1.0; emissions = p.1.1 })
    (λ _. refl)

abbrev pub is_listed : StateKey → List StateKey → Bool
is_listed q qs = list_any (λ p. is_key (as_key q) (as_key p)) qs

-- a key goes last, where it isn't listed
abbrev pub noted : StateKey → List StateKey → List StateKey
noted q qs = if is_listed q qs then qs else qs ++ q ∷ []

-- nothing is written yet
abbrev pub draft_on : Entries → Draft
draft_on m = record { entries = m; written = []; emissions = [] }

-- the list begins anew, and nothing else changes
abbrev pub relisted : Draft → Draft
relisted d = record { entries = d.entries; written = []; emissions = d.emissions }

abbrev pub erased : StateKey → Draft → Draft
erased q d = record { entries = remove d.entries (as_key q); written = noted q d.written; emissions = d.emissions }

abbrev pub put_state : StateKey → List ℕ → Draft → Draft
put_state q bytes d =
    record {
      entries = insert d.entries (as_key q) (entry.State bytes);
      written = noted q d.written;
      emissions = d.emissions;
    }

-- what bytes make of a State entry: no bytes remove it
abbrev pub change_to : List ℕ → Option Entry
change_to [] = None
change_to (b ∷ bs) = Some (entry.State (b ∷ bs))

abbrev pub write_state : StateKey → List ℕ → Draft → Draft
write_state q [] d = erased q d
write_state q (b ∷ bs) d = put_state q (b ∷ bs) d

abbrev pub emits_too : Emission → Draft → Draft
emits_too m d = record { entries = d.entries; written = d.written; emissions = d.emissions ++ m ∷ [] }
