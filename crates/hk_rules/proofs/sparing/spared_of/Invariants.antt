use Rattle.std.proofs.Common.{reverse}
use Rattle.hk_rules.proofs.CheaperArms.{Sparing}
use Rattle.hk_rules.proofs.sparing.spared_of.Given as goal

abbrev pub invariant-loop-place : goal.invariant-loop-place
invariant-loop-place l = Sparing l.ops l.place (reverse l.found.items) l.arms
