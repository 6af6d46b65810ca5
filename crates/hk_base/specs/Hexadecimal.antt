-- Hex text: two digits for each byte, the first of them its high four bits.
use Rattle.std.specs.Prelude.{ℕ, ◌+◌, ◌-◌, ◌*◌, ◌/◌, ◌%◌, ◌&&◌, nat_le, if◌then◌else◌, List, [], ◌∷◌, slice_index}
use Rattle.std.specs.Prelude.{codes, Option, Some, None}

-- the number of a digit of either case: `0` to `9` are the characters 48 to 57, `A` to `F` 65 to 70, `a` to `f` 97 to
-- 102 (ASCII)
abbrev pub digit_value : ℕ → Option ℕ
digit_value character =
    if nat_le 48 character && nat_le character 57 then Some (character - 48)
    else if nat_le 65 character && nat_le character 70 then Some (character - 55)
    else if nat_le 97 character && nat_le character 102 then Some (character - 87)
    else None

-- the byte of two digits, where both are digits
abbrev pub pair_value : Option ℕ → Option ℕ → Option ℕ
pair_value (Some high) (Some low) = Some (high * 16 + low)
pair_value high low = None

-- a byte and those after it, where all are there
abbrev pub all_of : Option ℕ → Option (List ℕ) → Option (List ℕ)
all_of (Some byte) (Some bytes) = Some (byte ∷ bytes)
all_of byte bytes = None

-- the bytes of a hex text (RFC 4648, section 8, in either case): none where a last digit stands alone or a character is
-- no digit
abbrev pub hex_bytes : List ℕ → Option (List ℕ)
hex_bytes [] = Some []
hex_bytes (high ∷ []) = None
hex_bytes (high ∷ low ∷ text) = all_of (pair_value (digit_value high) (digit_value low)) (hex_bytes text)

-- the digit of a number below 16, in lower case
abbrev pub lower_digit : ℕ → ℕ
lower_digit number = slice_index (codes "0123456789abcdef") number

-- the hex text of bytes, in lower case
abbrev pub hex_text : List ℕ → List ℕ
hex_text [] = []
hex_text (byte ∷ bytes) = lower_digit (byte / 16) ∷ lower_digit (byte % 16) ∷ hex_text bytes
