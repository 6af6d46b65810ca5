-- What each operation on decimals answers: the exact result, cut, then the range rule (this project's own).
use Rattle.std.specs.Prelude.{ℕ, ◌+◌, ◌-◌, ◌*◌, ◌/◌, ◌^◌, ◌==◌, ◌&&◌, nat_lt, Bool, true, false, not, ℤ, pos, negsuc}
use Rattle.std.specs.Prelude.{neg_ℤ, ◌+ℤ◌, ◌-ℤ◌, unsigned_abs, int_lt, if◌then◌else◌, Result, Ok, Err}
use Rattle.xfl.specs.declared.fault.XflFault.{XflFault}
use Rattle.xfl.specs.declared.fault.XflFault.TheVariants.{DivisionByZero, Overflow, BadPlaces, Negative, TooBig}
use Rattle.xfl.specs.Value.{Decimal, nought, scaled, tens}
use Rattle.xfl.specs.Cut.{cut16, is_exact}

-- an exact result, numerator / denominator * 10 ^ exponent, with a sign
pub record Exact : Type 0 where
  pub negative : Bool
  pub numerator : ℕ
  pub denominator : ℕ
  pub exponent : ℤ

-- one of the two holds, and not both
abbrev pub differ : Bool → Bool → Bool
differ true b = not b
differ false b = b

-- m * 10 ^ e for a whole number m
abbrev pub whole : ℤ → ℤ → Exact
whole m e = record { negative = int_lt m (pos 0); numerator = unsigned_abs m; denominator = 1; exponent = e }

-- x * y
abbrev pub product : Decimal → Decimal → Exact
product x y = record {
  negative = differ x.negative y.negative;
  numerator = x.mantissa * y.mantissa;
  denominator = 1;
  exponent = x.exponent +ℤ y.exponent;
}

-- x / y
abbrev pub quotient : Decimal → Decimal → Exact
quotient x y = record {
  negative = differ x.negative y.negative;
  numerator = x.mantissa;
  denominator = y.mantissa;
  exponent = x.exponent -ℤ y.exponent;
}

-- x + y, as a whole number of times 10 ^ -96
abbrev pub total : Decimal → Decimal → Exact
total x y = whole (scaled x +ℤ scaled y) (negsuc 95)

-- x * part / all
abbrev pub share : Decimal → ℕ → ℕ → Exact
share x part all = record {
  negative = x.negative;
  numerator = x.mantissa * part;
  denominator = all;
  exponent = x.exponent;
}

-- the range rule: an exponent below -96 gives 0, one above 80 a fault
abbrev pub ranged : Bool → ℕ → ℤ → Result Decimal XflFault
ranged negative m e =
    if int_lt e (negsuc 95) then Ok nought
    else (if int_lt (pos 80) e then Err Overflow else Ok (record { negative = negative; mantissa = m; exponent = e }))

-- the answer for an exact result: cut toward zero, then the range rule
abbrev pub rounded : Exact → Result Decimal XflFault
rounded exact =
    if exact.numerator == 0 then Ok nought
    else (let (m, e) = cut16 exact.numerator exact.denominator exact.exponent in ranged exact.negative m e)

-- the next greater number of sixteen digits after m * 10 ^ e, then the range rule
abbrev pub next_ranged : Bool → ℕ → ℤ → Result Decimal XflFault
next_ranged negative m e =
    if m + 1 == 10 ^ 16 then ranged negative (10 ^ 15) (e +ℤ pos 1) else ranged negative (m + 1) e

-- the answer for an exact result: itself where it has sixteen digits, else the next greater number that has,
-- then the range rule
abbrev pub rounded_up : Exact → Result Decimal XflFault
rounded_up exact =
    if exact.numerator == 0 then Ok nought
    else (let (m, e) = cut16 exact.numerator exact.denominator exact.exponent in
    if is_exact exact.numerator exact.denominator exact.exponent m e then ranged exact.negative m e
    else next_ranged exact.negative m e)

-- x / y
abbrev pub divided : Decimal → Decimal → Result Decimal XflFault
divided x y = if y.mantissa == 0 then Err DivisionByZero else rounded (quotient x y)

-- x * part / all, toward zero or away from it
abbrev pub ratio_of : Decimal → Bool → ℕ → ℕ → Result Decimal XflFault
ratio_of x up part all =
    if all == 0 then Err DivisionByZero
    else (if up then rounded_up (share x part all) else rounded (share x part all))

-- the whole part of |x| * 10 ^ places
abbrev pub whole_part : Decimal → ℕ → ℕ
whole_part x places = x.mantissa * tens (x.exponent +ℤ pos places) / tens (neg_ℤ (x.exponent +ℤ pos places))

-- a whole number as a signed number of 64 bits
abbrev pub fitted : ℕ → Result ℤ XflFault
fitted n = if nat_lt (2 ^ 63 - 1) n then Err TooBig else Ok (pos n)

-- |x| as a whole number of times 10 ^ -places, cut toward zero
abbrev pub to_int_of : Decimal → ℕ → Bool → Result ℤ XflFault
to_int_of x places absolute =
    if nat_lt 15 places then Err BadPlaces
    else (if x.negative && not absolute then Err Negative else fitted (whole_part x places))
