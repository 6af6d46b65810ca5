use Rattle.std.proofs.Common.{arith, inr, ◌<◌}
use Rattle.xfl.proofs.Wholes.{byte_below}
use Rattle.xfl.proofs.value.number_bits.Goals as goal

pub returns-clause-valid : goal.returns-clause-valid
returns-clause-valid c =
    let sign : c.from.result < 2 = omega (arith, c.from.ensures, byte_below c.args.positive) in
    inr (
      c.from.result,
      c.args.biased,
      c.args.mantissa,
      record {
        sign = sign;
        exponent_low = c.requires.exponent_low;
        exponent_high = c.requires.exponent_high;
        mantissa_low = c.requires.mantissa_low;
        mantissa_high = c.requires.mantissa_high;
        is = omega arith;
      },
    )
