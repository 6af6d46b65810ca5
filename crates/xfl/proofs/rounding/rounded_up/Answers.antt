use Rattle.std.proofs.Common.{arith, rules}
use Rattle.std.proofs.lemmas.Int.{ints}
use Rattle.xfl.proofs.Results.{sum64, of_exact_digits, of_cut_digits}
use Rattle.xfl.proofs.rounding.rounded_up.Goals as goal

pub returns-then-digits : goal.returns-then-digits
returns-then-digits c =
    of_exact_digits c.args.of.negative c.args.of.numerator c.args.of.denominator c.args.of.exponent
    c.cut_quotient-digits.result.mantissa c.cut_quotient-digits.result.exponent
    (sum64 c.args.of.exponent c.cut_quotient-digits.result.exponent) c.in_range.result c.if-of-eq0.false
    c.cut_quotient-digits.ensures.cut (c.cut_quotient-digits.ensures.exact.0 (search rules)) c.in_range.ensures
    (omega (arith, ints))

pub returns-else-digits : goal.returns-else-digits
returns-else-digits c =
    of_cut_digits c.args.of.negative c.args.of.numerator c.args.of.denominator c.args.of.exponent
    c.cut_quotient-digits.result.mantissa c.cut_quotient-digits.result.exponent
    (sum64 c.args.of.exponent c.cut_quotient-digits.result.exponent) c.next_in_range.result c.if-of-eq0.false
    c.cut_quotient-digits.ensures.cut (λ h. let t = c.cut_quotient-digits.ensures.exact.1 h in absurd (search rules))
    c.next_in_range.ensures (omega (arith, ints))
