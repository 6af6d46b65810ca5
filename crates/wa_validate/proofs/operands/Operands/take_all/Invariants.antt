use Rattle.std.proofs.Common.{◌≡◌, reverse}
use Rattle.wa_ops.specs.Typing.{pop_all}
use Rattle.wa_validate.proofs.operands.Operands.take_all.Given as goal

abbrev pub invariant-loop-kind : goal.invariant-loop-kind
invariant-loop-kind l =
    (goal.iterator-loop-kind).can_next l.kind-iterator ×
    (goal.iterator-loop-kind).is_finite l.kind-iterator ×
    (pop_all (reverse l.kinds) l.initial.self ≡ pop_all (reverse l.kind-iterator.iter.rest.now) l.self)
