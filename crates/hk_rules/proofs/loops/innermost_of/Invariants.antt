use Rattle.hk_rules.proofs.Looping.{Marked}
use Rattle.hk_rules.proofs.loops.innermost_of.Given as goal

abbrev pub invariant-loop-op : goal.invariant-loop-op
invariant-loop-op l = Marked l.ops l.op-index l.found l.open
