use Rattle.std.proofs.Common.{length}
use Rattle.wa_decode.specs.Views.{views}
use Rattle.wa_decode.proofs.Loops.{Splitting}
use Rattle.wa_decode.proofs.sections.sections.Given as goal

abbrev pub invariant-loop-rest : goal.invariant-loop-rest
invariant-loop-rest l = Splitting l.bytes (views l.sections.items) l.rest

abbrev pub decreases-loop-rest : goal.decreases-loop-rest
decreases-loop-rest l = length l.rest
