use Rattle.std.proofs.Common.{arith}
use Rattle.std.proofs.lemmas.Int.{ints}
use Rattle.xfl.proofs.Results.{sum64, of_digits}
use Rattle.xfl.proofs.rounding.rounded_quotient.Goals as goal

pub returns : goal.returns
returns c =
    of_digits c.args.of.negative c.args.of.numerator c.args.of.denominator c.args.of.exponent
    c.cut_quotient-digits.result.mantissa c.cut_quotient-digits.result.exponent
    (sum64 c.args.of.exponent c.cut_quotient-digits.result.exponent) c.in_range.result c.if-of-eq0.false
    c.cut_quotient-digits.ensures.cut c.in_range.ensures (omega (arith, ints))
