-- The least entry of a map whose key passes a test, as a relation: there is none before it. This project's own.
use Rattle.std.specs.Prelude.{◌≡◌, Bool, true, Option, Some, None}
use Rattle.std.specs.declared.cmp.Ordering.TheVariants.{Less}
use Rattle.std.specs.Ordering.{is_lt, is_le}
use Rattle.std.specs.FinMap.{get}
use Rattle.hk_state.specs.declared.key.Key.{Key}
use Rattle.hk_state.specs.declared.entry.Entry.{Entry}
use Rattle.hk_state.specs.Keys.{key_cmp}
use Rattle.hk_state.specs.Entries.{Entries}

-- whether a key isn't below another
abbrev pub is_from : Key → Key → Bool
is_from start key = is_le (key_cmp start key)

-- whether a key is above another
abbrev pub is_after : Key → Key → Bool
is_after start key = is_lt (key_cmp start key)

-- of what a look-up finds, this is at the least key that passes
pub record IsLeast (look : Key → Option Entry) (test : Key → Bool) (key : Key) (entry : Entry) : Type 0 where
  pub there : look key ≡ Some entry
  pub passes : test key ≡ true
  pub none_before : (q : Key) → test q ≡ true → key_cmp q key ≡ Less → look q ≡ None

-- the least, or that nothing is at a key that passes
abbrev pub LeastOf : (Key → Option Entry) → (Key → Bool) → Option (Key × Entry) → Type 0
LeastOf look test None = (q : Key) → test q ≡ true → look q ≡ None
LeastOf look test (Some found) = IsLeast look test found.0 found.1

-- the same of a map
abbrev pub Least : Entries → (Key → Bool) → Option (Key × Entry) → Type 0
Least m test found = LeastOf (get m) test found
