use Rattle.wa_validate.proofs.Judging.{Going}
use Rattle.wa_validate.proofs.body.type_body.Given as goal

abbrev pub invariant-loop-place : goal.invariant-loop-place
invariant-loop-place l = Going l.scope l.ops l.place l.regions l.most
