use Rattle.std.proofs.Common.{ℕ, ◌≡◌, ◌+◌, ◌≤◌, ◌<◌, ◌*◌, ◌^◌, ◌∙◌, ap, arith}
use Rattle.std.specs.Prelude.{slice_get}
use Rattle.hk_bound.specs.Weights.{inner_of, savings, weight}
use Rattle.hk_bound.proofs.Savings.{saving_all, saving_next, saving_none, saving_within}
use Rattle.hk_bound.proofs.weighing.savings.Goals as goal

pub loop-place-init : goal.loop-place-init
loop-place-init c = saving_none _ _ _

pub spared_at-sum-requires : goal.spared_at-sum-requires
spared_at-sum-requires c =
    let within : c.loop-place.sum +
    weight c.args.loops.now (inner_of (slice_get c.args.innermost.now c.loop-place.place)) * c.cost_at-cost.result
    ≤ savings c.args.loops.now c.args.innermost.now c.args.spared.now =
    saving_within c.args.loops.now c.args.innermost.now c.args.spared.now c.loop-place.place c.loop-place.sum
    c.cost_at-cost.result c.cost_at-cost.ensures.cost c.loop-place.invariant in
    let small : savings c.args.loops.now c.args.innermost.now c.args.spared.now < 2 ^ 64 = c.requires.small in
    record {
      small =
          omega
          (arith, within, small, ap (λ o. weight c.args.loops.now o * c.cost_at-cost.result) c.inner_at.ensures.inner);
    }

pub overflow_add-sum : goal.overflow_add-sum
overflow_add-sum c =
    let within : c.loop-place.sum +
    weight c.args.loops.now (inner_of (slice_get c.args.innermost.now c.loop-place.place)) * c.cost_at-cost.result
    ≤ savings c.args.loops.now c.args.innermost.now c.args.spared.now =
    saving_within c.args.loops.now c.args.innermost.now c.args.spared.now c.loop-place.place c.loop-place.sum
    c.cost_at-cost.result c.cost_at-cost.ensures.cost c.loop-place.invariant in
    let small : savings c.args.loops.now c.args.innermost.now c.args.spared.now < 2 ^ 64 = c.requires.small in
    omega (
      arith,
      within,
      small,
      c.spared_at-sum.ensures.spared,
      ap (λ o. weight c.args.loops.now o * c.cost_at-cost.result) c.inner_at.ensures.inner,
    )

pub loop-place-preserved : goal.loop-place-preserved
loop-place-preserved c =
    saving_next c.args.loops.now c.args.innermost.now c.args.spared.now c.loop-place.place c.loop-place.sum
    c.spared_at-sum.result c.cost_at-cost.result
    c.cost_at-cost.ensures.cost
    (c.spared_at-sum.ensures.spared
    ∙ ap (λ o. weight c.args.loops.now o * c.cost_at-cost.result) c.inner_at.ensures.inner)
    c.loop-place.invariant

pub returns : goal.returns
returns c = record {
  savings =
      saving_all c.args.loops.now c.args.innermost.now c.args.spared.now c.loop-place.place c.loop-place.sum
      c.loop-place-test.false c.loop-place.invariant;
}
