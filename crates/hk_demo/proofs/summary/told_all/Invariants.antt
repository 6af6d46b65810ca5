use Rattle.std.proofs.Common.{◌≡◌, take}
use Rattle.hk_demo.specs.Summary.{told_all}
use Rattle.hk_demo.proofs.summary.told_all.Given as goal

-- the lines so far are told
abbrev pub invariant-loop-line : goal.invariant-loop-line
invariant-loop-line l = l.after ≡ told_all l.fn.before (take l.line-index l.lines)
