use Rattle.hk_rules.proofs.Repeats.{Met}
use Rattle.hk_rules.proofs.exports.has_repeats.Given as goal

abbrev pub invariant-loop-export : goal.invariant-loop-export
invariant-loop-export l = Met l.exports l.export-index l.met.keys
