-- Maps from keys to entries, and changes to them. This project's own.
use Rattle.std.specs.Prelude.{◌≡◌, ◌∷◌, Bool, true, false, cond, List, [], Option, Some, None, refl}
use Rattle.std.proofs.Common.{◌∙◌, ap}
use Rattle.std.specs.Coded.{Coded}
use Rattle.std.specs.FinMap as map
use Rattle.hk_state.specs.declared.key.Key.{Key}
use Rattle.hk_state.specs.declared.entry.Entry.{Entry}
use Rattle.hk_state.specs.contracts.entry.Entry as entry
use Rattle.hk_state.specs.Keys.{key_cmp, is_key, keys_total, coded_key}

abbrev pub Entries : Type 0
Entries = map.FinMap key_cmp Entry

abbrev pub coded_entries : Coded Entries
coded_entries = map.code coded_key entry.the_row.coded

-- one change at a key: an entry, or none to remove what is there
abbrev pub write : Entries → Key → Option Entry → Entries
write m key None = map.remove m key
write m key (Some entry) = map.insert m key entry

-- all changes of a list, of which the first to a key decides
abbrev pub with_all : Entries → List (Key × Option Entry) → Entries
with_all m [] = m
with_all m (change ∷ changes) = write (with_all m changes) change.0 change.1

-- what a change makes of what was there
abbrev pub change_or : Option (Option Entry) → Option Entry → Option Entry
change_or None old = old
change_or (Some change) old = change

pub get-write : (m : Entries) (key : Key) (change : Option Entry) (q : Key) →
    map.get (write m key change) q ≡ cond (is_key q key) change (map.get m q)
get-write m key None q = map.get-remove keys_total m key q
get-write m key (Some entry) q = map.get-insert keys_total m key entry q

chosen : (b : Bool) (change : Option Entry) (found : Option (Option Entry)) (old : Option Entry) →
    cond b change (change_or found old) ≡ change_or (cond b (Some change) found) old
chosen true change found old = refl
chosen false change found old = refl

pub get-with_all : (m : Entries) (changes : List (Key × Option Entry)) (q : Key) →
    map.get (with_all m changes) q ≡ change_or (map.find key_cmp q changes) (map.get m q)
get-with_all m [] q = refl
get-with_all m (change ∷ changes) q =
    get-write (with_all m changes) change.0 change.1 q
    ∙ ap (cond (is_key q change.0) change.1) (get-with_all m changes q)
    ∙ chosen (is_key q change.0) change.1 (map.find key_cmp q changes) (map.get m q)
