use Rattle.std.proofs.Common.{length}
use Rattle.wa_decode.proofs.Loops.{Reading}
use Rattle.wa_decode.proofs.codes.expression.Given as goal

abbrev pub invariant-loop-around : goal.invariant-loop-around
invariant-loop-around l = Reading l.bytes l.ops l.around l.rest

abbrev pub decreases-loop-around : goal.decreases-loop-around
decreases-loop-around l = length l.rest
