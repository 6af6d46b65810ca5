use Rattle.std.proofs.Common.{◌∙◌, Some, None, if◌then◌else◌, ap, arith}
use Rattle.wa_validate.proofs.Judging.{going_past, going_fails, going_ends}
use Rattle.wa_validate.proofs.body.type_body.Goals as goal

pub depth-requires-clause-operands : goal.depth-requires-clause-operands
depth-requires-clause-operands c = omega (arith, c.loop-place.invariant.few.inner, c.requires.short)

pub depth-requires-clause-labels : goal.depth-requires-clause-labels
depth-requires-clause-labels c = omega (arith, c.loop-place.invariant.few.labels, c.requires.short)

pub returns-then-not-branch : goal.returns-then-not-branch
returns-then-not-branch c = record {
  verdict =
      (going_fails c.args.scope.now c.args.ops.now c.loop-place.place c.index-ops-place.result c.loop-place.regions
      c.loop-place.most c.loop-place-test.true c.index-ops-place.is c.loop-place.invariant
      (c.in_ok-step.ensures.step ∙ ap (λ b. if b then Some c.step.new.self else None) c.if-not-branch.true)).on_tree;
}

pub loop-place-preserved : goal.loop-place-preserved
loop-place-preserved c =
    going_past c.args.scope.now c.args.ops.now c.loop-place.place c.index-ops-place.result c.loop-place.regions
    c.step.new.self c.loop-place.most c.depth.result c.deeper-most.result
    c.loop-place-test.true c.index-ops-place.is c.loop-place.invariant
    (c.in_ok-step.ensures.step ∙ ap (λ b. if b then Some c.step.new.self else None) c.if-not-branch.false)
    c.depth.ensures.depth c.deeper-most.ensures.deeper

pub returns : goal.returns
returns c = record {
  verdict =
      (going_ends c.args.scope.now c.args.ops.now c.loop-place.place c.loop-place.regions c.loop-place.most
      c.loop-place-test.false c.loop-place.invariant).on_tree;
}
