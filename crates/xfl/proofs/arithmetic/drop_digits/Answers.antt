use Rattle.std.proofs.Common.{arith, ap, sym, pos}
use Rattle.xfl.proofs.Cuts.{ten_pos}
use Rattle.xfl.proofs.Wholes.{all_dropped}
use Rattle.xfl.proofs.arithmetic.drop_digits.Goals as goal

pub nonzero_div-result : goal.nonzero_div-result
nonzero_div-result c = omega (arith, c.pow.ensures, ten_pos c.args.dropped)

pub returns-then-dropped-gt16 : goal.returns-then-dropped-gt16
returns-then-dropped-gt16 c =
    ap pos (sym (all_dropped c.args.mantissa c.args.dropped c.requires c.if-dropped-gt16.true))
