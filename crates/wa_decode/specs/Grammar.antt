-- Numbers, vectors and names as bytes (WebAssembly Core 1.0, binary format, "Values" and "Conventions").
-- Each definition is a relation between a value and the whole of the bytes that spell it.
use Rattle.std.specs.Prelude.{ℕ, ℤ, pos, ◌≡◌, ◌+◌, ◌-◌, ◌*◌, ◌^◌, ◌<◌, ◌≤◌, ◌+ℤ◌, ◌-ℤ◌, ◌*ℤ◌, ◌⊎◌, List, [], ◌∷◌, ◌++◌}
use Rattle.std.specs.Prelude.{length}

-- An unsigned number of so many bits in LEB128, the lowest seven bits first ("Integers", uN).
-- The width falls by seven with each byte that goes on, so there are at most ceil(bits / 7) of them, and the last
-- possible one has zeros in its unused bits.
abbrev pub IsUnsigned : ℕ → ℕ → List ℕ → Type 0
IsUnsigned bits n [] = ⊥
IsUnsigned bits n (b ∷ bs) =
    ((b < 128) × (b < 2 ^ bits) × (n ≡ b) × (bs ≡ []))
    ⊎ ((128 ≤ b) × (7 < bits) × (high : ℕ) × (n ≡ (b - 128) + 128 * high) × IsUnsigned (bits - 7) high bs)

-- A signed number of so many bits in LEB128 ("Integers", sN): the last byte is below 64, or stands for itself less 128.
-- In the last possible byte the unused bits are copies of the sign.
abbrev pub IsSigned : ℕ → ℤ → List ℕ → Type 0
IsSigned bits z [] = ⊥
IsSigned bits z (b ∷ bs) =
    ((b < 64) × (b < 2 ^ (bits - 1)) × (z ≡ pos b) × (bs ≡ []))
    ⊎ ((64 ≤ b) × (b < 128) × (128 ≤ b + 2 ^ (bits - 1)) × (z ≡ (pos b -ℤ pos 128)) × (bs ≡ []))
    ⊎ ((128 ≤ b) × (7 < bits) × (high : ℤ) × (z ≡ (pos (b - 128) +ℤ (pos 128 *ℤ high))) × IsSigned (bits - 7) high bs)

-- a number of so many bits, more than none, takes at most ceil(bits / 7) bytes
pub record NumberLengths : Type 0 where
  pub unsigned : (bits n : ℕ) (bytes : List ℕ) → 0 < bits → IsUnsigned bits n bytes → 7 * length bytes ≤ bits + 6
  pub signed : (bits : ℕ) (z : ℤ) (bytes : List ℕ) → 0 < bits → IsSigned bits z bytes → 7 * length bytes ≤ bits + 6

-- what the first spells, and behind it what the second does
abbrev pub Then : (List ℕ → Type 0) → (List ℕ → Type 0) → List ℕ → Type 0
Then First Second bytes = (front : List ℕ) × (rest : List ℕ) × First front × Second rest × (bytes ≡ front ++ rest)

-- the same behind this one byte
abbrev pub After : ℕ → (List ℕ → Type 0) → List ℕ → Type 0
After byte Second bytes = (rest : List ℕ) × Second rest × (bytes ≡ byte ∷ rest)

-- one spelling of each, one behind the other
abbrev pub SpellsAll : {A : Type 0} → (A → List ℕ → Type 0) → List A → List ℕ → Type 0
SpellsAll Spelling [] bytes = bytes ≡ []
SpellsAll Spelling (x ∷ xs) bytes = Then (Spelling x) (SpellsAll Spelling xs) bytes

-- a vector: the count of its items, and the items ("Vectors")
abbrev pub SpellsVector : {A : Type 0} → (A → List ℕ → Type 0) → List A → List ℕ → Type 0
SpellsVector Spelling xs bytes = Then (IsUnsigned 32 (length xs)) (SpellsAll Spelling xs) bytes

-- a vector of bytes; a name is one ("Names"), whatever its bytes are
abbrev pub SpellsBytes : List ℕ → List ℕ → Type 0
SpellsBytes text bytes = Then (IsUnsigned 32 (length text)) (λ rest. rest ≡ text) bytes

-- what is spelled so, behind its size in bytes
abbrev pub SpellsSized : (List ℕ → Type 0) → List ℕ → Type 0
SpellsSized Spelling bytes = (body : List ℕ) × Spelling body × SpellsBytes body bytes
