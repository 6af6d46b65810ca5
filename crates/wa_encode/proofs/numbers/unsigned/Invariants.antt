use Rattle.std.proofs.Common.{◌++◌}
use Rattle.wa_encode.specs.Numbers.{number}
use Rattle.wa_encode.proofs.Writing.{Goes}
use Rattle.wa_encode.proofs.numbers.unsigned.Given as goal

abbrev pub invariant-loop-rest : goal.invariant-loop-rest
invariant-loop-rest l = Goes (l.initial.out.items ++ number l.value) l.out.items l.rest

abbrev pub decreases-loop-rest : goal.decreases-loop-rest
decreases-loop-rest l = l.rest
