use Rattle.std.proofs.Common.{arith}
use Rattle.std.proofs.lemmas.Int.{ints}
use Rattle.xfl.proofs.Results.{sum64, of_digits}
use Rattle.xfl.proofs.rounding.rounded.Goals as goal

pub returns : goal.returns
returns c =
    of_digits c.args.negative c.args.whole 1 c.args.exponent c.cut-digits.result.mantissa c.cut-digits.result.exponent
    (sum64 c.args.exponent c.cut-digits.result.exponent) c.in_range.result c.if-whole-eq0.false c.cut-digits.ensures.cut
    c.in_range.ensures (omega (arith, ints))
