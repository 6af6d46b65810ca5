use Rattle.std.proofs.Common.{◌≡◌, drop}
use Rattle.wa_ops.specs.Typing.{all_carry}
use Rattle.wa_validate.proofs.labels.Labels.all_carry.Given as goal

abbrev pub invariant-loop-label : goal.invariant-loop-label
invariant-loop-label l = all_carry l.self l.carried l.labels ≡ all_carry l.self l.carried (drop l.label-index l.labels)
