-- The numbers of a line of text (this project's own).
use Rattle.std.specs.Prelude.{ℕ, ℤ, pos, negsuc, ◌-◌, ◌<◌, ◌==◌, if◌then◌else◌, List, [], ◌∷◌, Option, None, option_map}
use Rattle.std.specs.Int.{w32, cast_signed}
use Rattle.hk_lines.specs.Words.{number_of}

-- a number of 32 bits
abbrev pub word_of : List ℕ → Option ℕ
word_of word = number_of 0 4294967295 word

-- a signed number from -half to half - 1: a number, or byte 45, a minus, and a number other than 0
abbrev pub signed_of : ℕ → List ℕ → Option ℤ
signed_of half [] = None
signed_of half (byte ∷ bytes) =
    if byte == 45 then option_map (λ n. negsuc (n - 1)) (number_of 1 half bytes) else
    option_map (λ n. pos n) (number_of 0 (half - 1) (byte ∷ bytes))

-- the numbers from -half to half - 1
abbrev pub IsBelow : ℕ → ℤ → Type 0
IsBelow half (pos n) = n < half
IsBelow half (negsuc n) = n < half

-- 32 bits, read as a signed number
abbrev pub signed_word : ℕ → ℤ
signed_word n = cast_signed w32 n
