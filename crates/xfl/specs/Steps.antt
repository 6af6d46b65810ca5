-- What private steps of the code show. No public contract cites these.
use Rattle.std.specs.Prelude.{ℕ, ◌≡◌, ◌+◌, ◌*◌, ◌^◌, ◌<◌, ◌==◌, ℤ, pos, ◌+ℤ◌, unsigned_abs, if◌then◌else◌, Result, Ok}
use Rattle.xfl.specs.declared.fault.XflFault.{XflFault}
use Rattle.xfl.specs.declared.rounding.Quotient.{Quotient}
use Rattle.xfl.specs.Value.{Decimal, nought, signed}
use Rattle.xfl.specs.Cut.{IsCut, IsExact}
use Rattle.xfl.specs.Operations.{Exact, ranged, next_ranged}

-- the exact result that a quotient is
abbrev pub exact_of : Quotient → Exact
exact_of of = record {
  negative = of.negative;
  numerator = of.numerator;
  denominator = of.denominator;
  exponent = of.exponent;
}

-- some cut of the exact result gives the answer, by the range rule
pub record IsRounded (exact : Exact) (result : Result Decimal XflFault) : Type 0 where
  pub nothing : exact.numerator ≡ 0 → result ≡ Ok nought
  pub something : 0 < exact.numerator →
      (m : ℕ) × (e : ℤ) × IsCut exact.numerator exact.denominator exact.exponent m e
      × (result ≡ ranged exact.negative m e)

-- the answer is the exact result itself where it has sixteen digits, else the next greater number that has, then the
-- range rule
pub record IsRoundedUp (exact : Exact) (result : Result Decimal XflFault) : Type 0 where
  pub nothing : exact.numerator ≡ 0 → result ≡ Ok nought
  pub something : 0 < exact.numerator → (m : ℕ) × (e : ℤ) × IsCut exact.numerator exact.denominator exact.exponent m e
      × (IsExact exact.numerator exact.denominator exact.exponent m e → result ≡ ranged exact.negative m e)
      × ((IsExact exact.numerator exact.denominator exact.exponent m e → ⊥) → result ≡ next_ranged exact.negative m e)

-- a whole number by which XFLs are ordered as their values are
abbrev pub rank_of : Decimal → ℤ
rank_of x =
    if x.mantissa == 0 then pos 0
    else signed x.negative (unsigned_abs (x.exponent +ℤ pos 97) * 10 ^ 16 + x.mantissa)
