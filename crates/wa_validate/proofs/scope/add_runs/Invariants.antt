use Rattle.std.proofs.Common.{◌≡◌, ◌++◌, drop}
use Rattle.wa_ops.specs.Contexts.{expanded}
use Rattle.wa_validate.proofs.scope.add_runs.Given as goal

abbrev pub invariant-loop-run : goal.invariant-loop-run
invariant-loop-run l = l.locals ++ expanded (drop l.run-index l.runs) ≡ l.initial.locals ++ expanded l.runs
