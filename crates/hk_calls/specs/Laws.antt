-- Laws of the definitions.
use Rattle.std.specs.Prelude.{◌≡◌, ℕ, List, length}
use Rattle.hk_calls.specs.Outputs.{Output, outcome, given}
use Rattle.hk_calls.specs.Rules.{OrCode}

-- a call keeps the memory's length
abbrev pub LengthStays : Type 0
LengthStays = (arguments m : List ℕ) (row : OrCode Output) → length (given m (outcome arguments m row)).1 ≡ length m
