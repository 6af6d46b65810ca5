-- Rows 10 to 21: decimals, by their bits (this project's own, after the XRPL Hooks).
use Rattle.std.specs.Prelude.{ℕ, ◌/◌, ◌%◌, ◌==◌, ◌||◌, not, nat_lt, Bool, ℤ, pos, Ok, if◌then◌else◌}
use Rattle.std.specs.Ordering.{int_cmp}
use Rattle.std.specs.declared.cmp.Ordering.{Ordering}
use Rattle.std.specs.declared.cmp.Ordering.TheVariants.{Less, Equal, Greater}
use Rattle.xfl.specs.Operations.{whole, product, total, rounded, divided, ratio_of, to_int_of}
use Rattle.xfl.specs.Value.{one, negated, scaled, bits_of}
use Rattle.hk_calls.specs.declared.code.Code.TheVariants as code
use Rattle.hk_calls.specs.Rules.{OrCode, ◌>>=◌, ◌>>◌, refuse}
use Rattle.hk_api_pure.specs.Floats.{float, calculated, bits}

-- 10
abbrev pub float_one : OrCode ℤ
float_one = Ok (pos 6089866696204910592)

-- 11
abbrev pub float_set : ℤ → ℤ → OrCode ℤ
float_set exponent mantissa =
    bits (rounded (whole mantissa exponent))

-- 12
abbrev pub float_multiply : ℤ → ℤ → OrCode ℤ
float_multiply x y = do
  a ← float x
  b ← float y
  bits (rounded (product a b))

-- 13
abbrev pub float_mulratio : ℤ → ℕ → ℕ → ℕ → OrCode ℤ
float_mulratio x up num den = do
  a ← float x
  bits (ratio_of a (not (up == 0)) num den)

-- 14
abbrev pub float_divide : ℤ → ℤ → OrCode ℤ
float_divide x y = do
  a ← float x
  b ← float y
  bits (divided a b)

-- 15
abbrev pub float_invert : ℤ → OrCode ℤ
float_invert x = do
  a ← float x
  bits (divided one a)

-- 16
abbrev pub float_sum : ℤ → ℤ → OrCode ℤ
float_sum x y = do
  a ← float x
  b ← float y
  bits (rounded (total a b))

-- 17
abbrev pub float_negate : ℤ → OrCode ℤ
float_negate x = do
  a ← float x
  Ok (bits_of (negated a))

-- bit 1 of a mode asks for equal, bit 2 for less, bit 4 for greater
abbrev pub asks : ℕ → Ordering → Bool
asks mode Equal = mode % 2 == 1
asks mode Less = mode / 2 % 2 == 1
asks mode Greater = mode / 4 % 2 == 1

-- 18
abbrev pub float_compare : ℤ → ℤ → ℕ → OrCode ℤ
float_compare x y mode = do
  a ← float x
  b ← float y
  refuse (mode == 0 || nat_lt 6 mode) code.InvalidArgument
  Ok (if asks mode (int_cmp (scaled a) (scaled b)) then pos 1 else pos 0)

-- 19
abbrev pub float_mantissa : ℤ → OrCode ℤ
float_mantissa x = do
  a ← float x
  Ok (pos a.mantissa)

-- 20
abbrev pub float_sign : ℤ → OrCode ℤ
float_sign x = do
  a ← float x
  Ok (if a.negative then pos 1 else pos 0)

-- 21
abbrev pub float_int : ℤ → ℕ → ℕ → OrCode ℤ
float_int x places absolute = do
  a ← float x
  calculated (to_int_of a places (not (absolute == 0)))
