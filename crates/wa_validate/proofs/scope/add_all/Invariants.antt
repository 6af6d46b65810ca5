use Rattle.std.proofs.Common.{◌≡◌, ◌++◌, take}
use Rattle.wa_validate.proofs.scope.add_all.Given as goal

abbrev pub invariant-loop-kind : goal.invariant-loop-kind
invariant-loop-kind l = l.locals ≡ l.initial.locals ++ take l.kind-index l.kinds
