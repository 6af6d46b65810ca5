use Rattle.std.proofs.Common.{◌++◌, unsigned_abs}
use Rattle.wa_encode.specs.Numbers.{signed}
use Rattle.wa_encode.proofs.Writing.{GoesSigned}
use Rattle.wa_encode.proofs.numbers.signed.Given as goal

abbrev pub invariant-loop-rest : goal.invariant-loop-rest
invariant-loop-rest l = GoesSigned (l.initial.out.items ++ signed l.value) l.out.items l.rest

abbrev pub decreases-loop-rest : goal.decreases-loop-rest
decreases-loop-rest l = unsigned_abs l.rest
