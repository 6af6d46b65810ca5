use Rattle.std.proofs.Common.{◌≡◌, ◌++◌, replicate}
use Rattle.wa_validate.proofs.scope.add_run.Given as goal

abbrev pub invariant-loop : goal.invariant-loop
invariant-loop l = l.locals ≡ l.initial.locals ++ replicate l.counter l.kind
