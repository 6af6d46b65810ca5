-- The values of an XFL, the ledger's decimal number (this project's own, after the XFL of the XRPL Hooks).
use Rattle.std.specs.Prelude.{ℕ, ◌≡◌, ◌*◌, ◌^◌, ◌<◌, ◌≤◌, ◌⊎◌, ◌==◌, Bool, false, not, ℤ, pos, negsuc, neg_ℤ, ◌+ℤ◌}
use Rattle.std.specs.Prelude.{◌-ℤ◌, ◌≤ℤ◌, ◌/◌, ◌%◌, unsigned_abs, if◌then◌else◌}
use Rattle.xo_fields.specs.Decimal.{decimal_bits, IsDecimal}

-- a decimal is mantissa * 10 ^ exponent, with a sign
pub record Decimal : Type 0 where
  pub negative : Bool
  pub mantissa : ℕ
  pub exponent : ℤ

-- 0
abbrev pub nought : Decimal
nought = record { negative = false; mantissa = 0; exponent = pos 0 }

-- 1, as an XFL has it
abbrev pub one : Decimal
one = record { negative = false; mantissa = 10 ^ 15; exponent = negsuc 14 }

-- a decimal other than 0 that an XFL can have: its mantissa has sixteen digits, its exponent is from -96 to 80
pub record IsNumber (x : Decimal) : Type 0 where
  pub low : 10 ^ 15 ≤ x.mantissa
  pub high : x.mantissa < 10 ^ 16
  pub least : negsuc 95 ≤ℤ x.exponent
  pub greatest : x.exponent ≤ℤ pos 80

-- what an XFL can be
abbrev pub IsXfl : Decimal → Type 0
IsXfl x = (x ≡ nought) ⊎ IsNumber x

-- the decimal with the other sign; 0 has none
abbrev pub negated : Decimal → Decimal
negated x = if x.mantissa == 0 then nought else record x { negative = not x.negative }

-- 10 ^ z where z is 0 or more, else 1
abbrev pub tens : ℤ → ℕ
tens (pos n) = 10 ^ n
tens (negsuc n) = 1

-- n, or -n
abbrev pub signed : Bool → ℕ → ℤ
signed negative n = if negative then neg_ℤ (pos n) else pos n

-- the value of an XFL times 10 ^ 96, a whole number
abbrev pub scaled : Decimal → ℤ
scaled x = signed x.negative (x.mantissa * tens (x.exponent +ℤ pos 96))

-- the bits of an XFL
abbrev pub bits_of : Decimal → ℤ
bits_of x =
    if x.mantissa == 0 then pos 0
    else pos (decimal_bits (if x.negative then 0 else 1) (unsigned_abs (x.exponent +ℤ pos 97)) x.mantissa)

-- the bits, as a signed number, are those of an XFL
abbrev pub IsXflBits : ℤ → Type 0
IsXflBits bits = (number : ℕ) × (bits ≡ pos number) × IsDecimal number

-- the decimal of bits that are those of an XFL
abbrev pub decimal_of : ℤ → Decimal
decimal_of (pos bits) =
    if bits == 0 then nought
    else record {
      negative = bits / 2 ^ 62 == 0;
      mantissa = bits % 2 ^ 54;
      exponent = pos (bits / 2 ^ 54 % 256) -ℤ pos 97;
    }
decimal_of (negsuc bits) = nought

-- the bits of an XFL are an XFL's, and give it back
abbrev pub BitsGiveBack : Type 0
BitsGiveBack = (x : Decimal) → IsXfl x → IsXflBits (bits_of x) × (decimal_of (bits_of x) ≡ x)

-- the decimal of an XFL's bits is an XFL, and gives them back
abbrev pub DecimalGivesBack : Type 0
DecimalGivesBack = (bits : ℤ) → IsXflBits bits → IsXfl (decimal_of bits) × (bits_of (decimal_of bits) ≡ bits)
