-- Linear memory as a list of bytes (WebAssembly Core 1.0, "Memory Instructions" and "Storage" under "Numerics"):
-- numbers stand in it with the lowest byte first.
use Rattle.std.specs.Prelude.{ℕ, zero, suc, ◌+◌, ◌*◌, ◌/◌, ◌%◌, Bool, ◌==◌, ◌||◌, nat_le, if◌then◌else◌, List, [], ◌∷◌}
use Rattle.std.specs.Prelude.{◌++◌, length, take, drop, Option, Some, None}

-- the widths of accesses, in bytes
abbrev pub is_width : ℕ → Bool
is_width n = n == 1 || n == 2 || n == 4 || n == 8

-- the number that bytes spell
abbrev pub little : List ℕ → ℕ
little [] = 0
little (b ∷ bs) = b + 256 * little bs

-- the lowest bytes of a number, so many
abbrev pub cells : ℕ → ℕ → List ℕ
cells zero n = []
cells (suc k) n = n % 256 ∷ cells k (n / 256)

-- so many bytes from this place on end within the memory
abbrev pub fits : List ℕ → ℕ → ℕ → Bool
fits m at width = nat_le (at + width) (length m)

-- the number in the bytes at this place; none where they pass the end
abbrev pub loaded : List ℕ → ℕ → ℕ → Option ℕ
loaded m at width = if fits m at width then Some (little (take width (drop at m))) else None

-- the memory with these bytes at this place; as it was where they pass the end
abbrev pub written : List ℕ → ℕ → List ℕ → List ℕ
written m at bytes = if fits m at (length bytes) then take at m ++ bytes ++ drop (at + length bytes) m else m
