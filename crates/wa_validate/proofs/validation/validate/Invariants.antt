use Rattle.wa_validate.proofs.Judging.{Judged}
use Rattle.wa_validate.proofs.validation.validate.Given as goal

abbrev pub invariant-loop-function : goal.invariant-loop-function
invariant-loop-function l = Judged l.module l.function l.depths
