use Rattle.std.proofs.Common.{take}
use Rattle.xo_object.specs.Transaction.{Differs}
use Rattle.xo_object.proofs.lists.has_name.Given as goal

abbrev pub invariant-loop-parameter : goal.invariant-loop-parameter
invariant-loop-parameter l = Differs l.name (take l.parameter-index l.parameters)
