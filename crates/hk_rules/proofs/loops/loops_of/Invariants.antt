use Rattle.hk_rules.proofs.Looping.{Found}
use Rattle.hk_rules.proofs.loops.loops_of.Given as goal

abbrev pub invariant-loop-place : goal.invariant-loop-place
invariant-loop-place l = Found l.ops l.place l.loops
