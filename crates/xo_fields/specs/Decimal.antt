-- The bits of a decimal, as amounts and hooks keep it (this project's own, after the XRPL's issued amounts).
use Rattle.std.specs.Prelude.{ℕ, ◌≡◌, ◌+◌, ◌*◌, ◌<◌, ◌≤◌, ◌⊎◌}

-- bit 62 is 1 for a positive number, then come 8 bits of exponent + 97 and 54 bits of mantissa
abbrev pub decimal_bits : ℕ → ℕ → ℕ → ℕ
decimal_bits positive biased mantissa = positive * 4611686018427387904 + biased * 18014398509481984 + mantissa

-- the bits are those of a number other than 0: its exponent is from -96 to 80, its mantissa has 16 digits
pub record IsDecimalOf (bits positive biased mantissa : ℕ) : Type 0 where
  pub sign : positive < 2
  pub exponent_low : 1 ≤ biased
  pub exponent_high : biased ≤ 177
  pub mantissa_low : 1000000000000000 ≤ mantissa
  pub mantissa_high : mantissa < 10000000000000000
  pub is : bits ≡ decimal_bits positive biased mantissa

-- the bits are those of a decimal
abbrev pub IsDecimal : ℕ → Type 0
IsDecimal bits =
    (bits ≡ 0) ⊎ ((positive : ℕ) × (biased : ℕ) × (mantissa : ℕ) × IsDecimalOf bits positive biased mantissa)
