use Rattle.std.proofs.Common.{arith}
use Rattle.xfl.proofs.Results.{short_low, short_high, long_power}
use Rattle.xfl.proofs.rounding.cut.Goals as goal

pub lengthen-requires-clause-low : goal.lengthen-requires-clause-low
lengthen-requires-clause-low c =
    short_low c.args.whole c.ilog10-place.result (omega arith) c.ilog10-place.ensures.power_le

pub lengthen-requires-clause-high : goal.lengthen-requires-clause-high
lengthen-requires-clause-high c =
    short_high c.args.whole c.ilog10-place.result (omega arith) c.ilog10-place.ensures.next_power_gt

pub shorten-requires-clause-low : goal.shorten-requires-clause-low
shorten-requires-clause-low c = omega (arith, long_power c.ilog10-place.result (omega arith))

pub shorten-requires-clause-high : goal.shorten-requires-clause-high
shorten-requires-clause-high c = omega (arith, long_power c.ilog10-place.result (omega arith))
