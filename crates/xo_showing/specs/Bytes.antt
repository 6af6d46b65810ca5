-- Bytes, and the number that they are.
use Rattle.std.specs.Prelude.{ℕ, ◌-◌, ◌<◌, List, [], ◌∷◌, ◌++◌, length, replicate, slice_index}
use Rattle.std.specs.Int.{w64, from_be_bytes}
use Rattle.xo_list.specs.Item.{Item}

-- every number of the list is a byte
abbrev pub AreBytes : List ℕ → Type 0
AreBytes bytes = (index : ℕ) → slice_index bytes index < 256

-- every field's value is made of bytes
abbrev pub HaveBytes : List Item → Type 0
HaveBytes [] = Unit {0}
HaveBytes (x ∷ xs) = AreBytes x.value × HaveBytes xs

-- at most eight bytes as a number, the first the highest
abbrev pub number_of_bytes : List ℕ → ℕ
number_of_bytes bytes = from_be_bytes w64 (replicate (8 - length bytes) 0 ++ bytes)
