-- Vectors and names as bytes (WebAssembly Core 1.0, binary format, "Vectors" and "Names").
use Rattle.std.specs.Prelude.{ℕ, List, ◌++◌, length, flat_map}
use Rattle.wa_encode.specs.Numbers.{number}

-- the count of the items, and each of them spelled so
abbrev pub vector : {A : Type 0} → (A → List ℕ) → List A → List ℕ
vector spell xs = number (length xs) ++ flat_map spell xs

-- bytes behind their number: a name, the bytes of a segment, or a part behind its size
abbrev pub text : List ℕ → List ℕ
text bytes = number (length bytes) ++ bytes
