-- A map to which placeholders were added, so that entries can be written with no memory. This project's own.
use Rattle.std.specs.Prelude.{◌≡◌, Bool, true, false, List, Option, Some, None, IsSome}
use Rattle.std.specs.List.{list_any}
use Rattle.std.specs.FinMap.{get, find}
use Rattle.hk_state.specs.declared.key.Key.{Key}
use Rattle.hk_state.specs.declared.entry.Entry.{Entry}
use Rattle.hk_state.specs.Keys.{key_cmp, is_key}
use Rattle.hk_state.specs.Entries.{Entries}

-- m is base but at the added keys, which base hasn't, and which pass the test
pub record Adds (base : Entries) (puts : Key → Bool) (m : Entries) (added : List Key) : Type 0 where
  pub kept : (q : Key) → list_any (is_key q) added ≡ false → get m q ≡ get base q
  pub fresh : (q : Key) → list_any (is_key q) added ≡ true → get base q ≡ None
  pub among : (q : Key) → list_any (is_key q) added ≡ true → puts q ≡ true

abbrev pub is_entry : Option (Option Entry) → Bool
is_entry (Some (Some entry)) = true
is_entry other = false

-- whether a list of changes puts an entry at a key
abbrev pub is_put : List (Key × Option Entry) → Key → Bool
is_put changes key = is_entry (find key_cmp key changes)

-- each key at which an entry is put has one
abbrev pub IsReady : Entries → List (Key × Option Entry) → Type 0
IsReady m changes = (q : Key) → is_put changes q ≡ true → IsSome (get m q)

-- an entry is put at a key that the map hasn't
pub record AddsOne (m : Entries) (changes : List (Key × Option Entry)) : Type 0 where
  pub key : Key
  pub put : is_put changes key ≡ true
  pub absent : get m key ≡ None
