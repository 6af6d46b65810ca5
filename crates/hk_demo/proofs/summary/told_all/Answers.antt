use Rattle.std.proofs.Common.{rules}
use Rattle.hk_demo.proofs.Playing.{next_told}
use Rattle.hk_demo.proofs.summary.told_all.Goals as goal

pub loop-line-preserved : goal.loop-line-preserved
loop-line-preserved c =
    next_told c.args.lines.now c.loop-line.line-index c.line-item.result _ _ _
    (search rules) c.line-item.is c.loop-line.invariant (search rules)
