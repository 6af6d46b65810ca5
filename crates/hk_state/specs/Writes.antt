-- Writes to the entries of a ledger that aren't made yet. This project's own.
use Rattle.std.specs.Prelude.{◌≡◌, ℕ, ◌++◌, ◌∷◌, Bool, true, false, cond, if◌then◌else◌, List, [], slice_get, Option}
use Rattle.std.specs.Prelude.{Some, None, refl}
use Rattle.std.proofs.Common.{◌∙◌, ap, sym}
use Rattle.std.specs.Option.{option_map}
use Rattle.std.specs.List.{list_any}
use Rattle.std.specs.Coded.{Coded, code_by, coded×, coded_list, coded_option}
use Rattle.std.specs.FinMap as map
use Rattle.hk_state.specs.declared.key.Key.{Key}
use Rattle.hk_state.specs.declared.entry.Entry.{Entry}
use Rattle.hk_state.specs.contracts.entry.Entry as entry
use Rattle.hk_state.specs.Keys.{key_cmp, is_key, keys_total, exact_keys, coded_key}
use Rattle.hk_state.specs.Entries.{Entries, write, with_all, change_or, get-write, get-with_all}

-- the last change at each key, and the keys that were written since the last relist, by their first write there
pub record Writes : Type 0 where
  pub changes : map.FinMap key_cmp (Option Entry)
  pub listed : List Key

abbrev pub coded_writes : Coded Writes
coded_writes =
    code_by (map.FinMap key_cmp (Option Entry) × List Key)
    (coded× (map.code coded_key (coded_option entry.the_row.coded)) (coded_list coded_key))
    (λ w. (w.changes, w.listed)) (λ p. record { changes = p.0; listed = p.1 }) (λ _. refl)

abbrev pub new_writes : Writes
new_writes = record { changes = map.empty; listed = [] }

abbrev pub is_listed : Key → List Key → Bool
is_listed key keys = list_any (is_key key) keys

-- a key goes last, where it isn't listed
abbrev pub note : Key → List Key → List Key
note key keys = if is_listed key keys then keys else keys ++ key ∷ []

abbrev pub written : Writes → Key → Option Entry → Writes
written w key change = record { changes = map.insert w.changes key change; listed = note key w.listed }

abbrev pub relisted : Writes → Writes
relisted w = record { changes = w.changes; listed = [] }

-- the entries with all writes made
abbrev pub with_writes : Entries → Writes → Entries
with_writes m w = with_all m (map.entries w.changes)

-- the key at a place of the list, and the entry that its last write puts there, none for a removal
abbrev pub write_at : Writes → ℕ → Option (Key × Option Entry)
write_at w place = option_map (λ key. (key, change_or (map.get w.changes key) None)) (slice_get w.listed place)

-- an entry is written under a key that the map hasn't
pub record AddsKey (m : Entries) (w : Writes) : Type 0 where
  pub key : Key
  pub entry : Entry
  pub put : map.get w.changes key ≡ Some (Some entry)
  pub absent : map.get m key ≡ None

pub get-with_writes : (m : Entries) (w : Writes) (q : Key) →
    map.get (with_writes m w) q ≡ change_or (map.get w.changes q) (map.get m q)
get-with_writes m w q =
    get-with_all m (map.entries w.changes) q
    ∙ ap (λ found. change_or found (map.get m q)) (sym (map.get-entries w.changes q))

pub with_new : (m : Entries) → with_writes m new_writes ≡ m
with_new m =
    map.same_map keys_total exact_keys _ _
    (λ q. get-with_writes m new_writes q ∙ ap (λ found. change_or found (map.get m q)) (map.get-empty key_cmp q))

decided : (b : Bool) (change : Option Entry) (found : Option (Option Entry)) (old : Option Entry) →
    change_or (cond b (Some change) found) old ≡ cond b change (change_or found old)
decided true change found old = refl
decided false change found old = refl

pub with_written : (m : Entries) (w : Writes) (key : Key) (change : Option Entry) →
    with_writes m (written w key change) ≡ write (with_writes m w) key change
with_written m w key change = map.same_map keys_total exact_keys _ _ (λ q.
    get-with_writes m (written w key change) q
    ∙ ap (λ found. change_or found (map.get m q)) (map.get-insert keys_total w.changes key change q)
    ∙ decided (is_key q key) change (map.get w.changes q) (map.get m q)
    ∙ sym (get-write (with_writes m w) key change q ∙ ap (cond (is_key q key) change) (get-with_writes m w q)))
