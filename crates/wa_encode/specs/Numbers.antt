-- Numbers in LEB128 in as few bytes as can be (WebAssembly Core 1.0, binary format, "Integers"; that none is longer is
-- this project's own).
use Rattle.std.specs.Prelude.{ℕ, zero, suc, ℤ, pos, negsuc, ◌≡◌, ◌+◌, ◌/◌, ◌%◌, ◌^◌, ◌<◌, ◌≤◌, ◌⊎◌, ◌&&◌, Bool, nat_lt}
use Rattle.std.specs.Prelude.{int_le, int_lt, unsigned_abs, if◌then◌else◌, List, [], ◌∷◌, length}
use Rattle.std.specs.Int.{int_div_euclid, int_rem_euclid}
use Rattle.wa_decode.specs.Grammar.{IsUnsigned, IsSigned}
use Rattle.wa_decode.specs.Ranges.{InBits, IsBytes}

-- Seven bits in each byte, the lowest first, and 128 more in each but the last. The first number says how many bytes
-- may follow the first.
unfoldable pub shortest : ℕ → ℕ → List ℕ
shortest zero n = n ∷ []
shortest (suc more) n = if nat_lt n 128 then n ∷ [] else (128 + n % 128) ∷ shortest more (n / 128)

-- z lies from -64 to 63: one byte spells it
abbrev pub is_short : ℤ → Bool
is_short z = int_le (negsuc 63) z && int_lt z (pos 64)

-- the lowest seven bits of z, and what is above them
abbrev pub low_bits : ℤ → ℕ
low_bits z = unsigned_abs (int_rem_euclid z (pos 128))

abbrev pub high_bits : ℤ → ℤ
high_bits z = int_div_euclid z (pos 128)

-- The same for a signed number: the last byte has the sign in its bit of value 64.
unfoldable pub shortest_signed : ℕ → ℤ → List ℕ
shortest_signed zero z = low_bits z ∷ []
shortest_signed (suc more) z =
    if is_short z then low_bits z ∷ [] else (128 + low_bits z) ∷ shortest_signed more (high_bits z)

-- a number of at most 64 bits takes at most ten bytes
abbrev pub number : ℕ → List ℕ
number n = shortest 9 n

abbrev pub signed : ℤ → List ℕ
signed z = shortest_signed 9 z

-- the second bytes are the first ones, or more
abbrev pub IsShortest : List ℕ → List ℕ → Type 0
IsShortest short bytes = (bytes ≡ short) ⊎ (length short < length bytes)

-- a number of 1 to 64 bits is spelled so, and each other spelling of it is longer
abbrev pub UnsignedShortest : Type 0
UnsignedShortest = (bits n : ℕ) → 0 < bits → bits ≤ 64 → n < 2 ^ bits
    → IsUnsigned bits n (number n) ×
    ((bytes : List ℕ) → IsBytes bytes → IsUnsigned bits n bytes → IsShortest (number n) bytes)

abbrev pub SignedShortest : Type 0
SignedShortest = (bits : ℕ) (z : ℤ) → 0 < bits → bits ≤ 64 → InBits bits z
    → IsSigned bits z (signed z) ×
    ((bytes : List ℕ) → IsBytes bytes → IsSigned bits z bytes → IsShortest (signed z) bytes)
