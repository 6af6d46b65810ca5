-- Laws of the definitions.
use Rattle.std.specs.Prelude.{◌≡◌, ℕ, List, length}
use Rattle.hk_api_pure.specs.Table.{pure_call}

-- a call keeps the memory's length
abbrev pub PureKeepsLength : Type 0
PureKeepsLength = (row : ℕ) (arguments m : List ℕ) → length (pure_call row arguments m).1 ≡ length m
