use Rattle.hk_bound.proofs.Savings.{Saving}
use Rattle.hk_bound.proofs.weighing.savings.Given as goal

abbrev pub invariant-loop-place : goal.invariant-loop-place
invariant-loop-place l = Saving l.loops l.innermost l.spared l.place l.sum
