use Rattle.std.proofs.Common.{◌≡◌, take}
use Rattle.xo_object.proofs.transaction.copy_parameters.Given as goal

abbrev pub invariant-loop-parameter : goal.invariant-loop-parameter
invariant-loop-parameter l = l.copied ≡ take l.parameter-index l.parameters
