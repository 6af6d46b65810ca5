use Rattle.hk_bound.proofs.Summing.{Adding}
use Rattle.hk_bound.proofs.weighing.total.Given as goal

abbrev pub invariant-loop-place : goal.invariant-loop-place
invariant-loop-place l = Adding l.loops l.ops l.innermost l.place l.sum
