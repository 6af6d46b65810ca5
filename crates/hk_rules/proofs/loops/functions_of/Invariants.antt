use Rattle.hk_rules.proofs.Looping.{Gathered}
use Rattle.hk_rules.proofs.loops.functions_of.Given as goal

abbrev pub invariant-loop-code : goal.invariant-loop-code
invariant-loop-code l = Gathered l.codes l.code-index l.functions
