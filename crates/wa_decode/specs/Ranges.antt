-- Ranges of numbers.
use Rattle.std.specs.Prelude.{ℕ, ℤ, pos, ◌-◌, ◌^◌, ◌<◌, ◌+ℤ◌, ◌≤ℤ◌, ◌<ℤ◌, List, [], ◌∷◌}

-- z lies from -(2 ^ (bits - 1)) to 2 ^ (bits - 1) - 1
abbrev pub InBits : ℕ → ℤ → Type 0
InBits bits z = (pos 0 ≤ℤ (z +ℤ pos (2 ^ (bits - 1)))) × (z <ℤ pos (2 ^ (bits - 1)))

abbrev pub IsBytes : List ℕ → Type 0
IsBytes [] = Unit {0}
IsBytes (b ∷ bs) = (b < 256) × IsBytes bs
