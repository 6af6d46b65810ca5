use Rattle.std.proofs.Common.{rules}
use Rattle.hk_replay.proofs.Texts.{next_text}
use Rattle.hk_replay.proofs.replaying.print_lines.Goals as goal

pub loop-line-preserved : goal.loop-line-preserved
loop-line-preserved c =
    next_text c.args.lines.now c.loop-line.line-index c.line-item.result _ _ _
    (search rules) c.line-item.is c.loop-line.invariant c.in_ok-print_line.ensures.ok
