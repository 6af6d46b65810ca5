-- The least of two entries, and what a walk over writes has found so far. This project's own.
use Rattle.std.specs.Prelude.{Bool, if◌then◌else◌, Option, Some, None}
use Rattle.std.specs.Ordering.{is_lt}
use Rattle.hk_state.specs.declared.key.Key.{Key}
use Rattle.hk_state.specs.declared.entry.Entry.{Entry}
use Rattle.hk_state.specs.Keys.{key_cmp}

-- the entry of a change that is one
abbrev pub put_of : Option (Option Entry) → Option Entry
put_of None = None
put_of (Some change) = change

-- what was there, where there is no change
abbrev pub unless_changed : Option (Option Entry) → Option Entry → Option Entry
unless_changed None old = old
unless_changed (Some change) old = None

-- the one of two with the lesser key
abbrev pub lesser : Option (Key × Entry) → Option (Key × Entry) → Option (Key × Entry)
lesser None other = other
lesser (Some one) None = Some one
lesser (Some one) (Some other) = if is_lt (key_cmp other.0 one.0) then Some other else Some one

-- the same with what a change puts at a key that passes
abbrev pub with_put : (Key → Bool) → Option (Key × Entry) → Key → Option Entry → Option (Key × Entry)
with_put test least key None = least
with_put test least key (Some entry) = if test key then lesser least (Some (key, entry)) else least
