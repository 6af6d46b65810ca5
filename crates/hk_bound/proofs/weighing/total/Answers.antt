use Rattle.std.proofs.Common.{◌≡◌, ◌≤◌, ◌<◌, ◌*◌, ◌∙◌, length, ap, arith}
use Rattle.hk_bound.specs.Weights.{counted, weight}
use Rattle.hk_bound.proofs.Summing.{adding_none, adding_next, adding_all}
use Rattle.hk_bound.proofs.weighing.total.Goals as goal

pub loop-place-init : goal.loop-place-init
loop-place-init c = adding_none _ _ _

pub loop-place-preserved : goal.loop-place-preserved
loop-place-preserved c =
    adding_next c.args.loops.now c.args.ops.now c.args.innermost.now c.loop-place.place c.loop-place.sum
    c.from-sum.result c.index-ops-place.result
    c.loop-place-test.true c.index-ops-place.is
    (c.from-sum.ensures
    ∙ c.counted.ensures.counted
    ∙ ap (counted c.index-ops-place.result)
    (c.weight-times.ensures.weight ∙ ap (weight c.args.loops.now) c.inner_at.ensures.inner))
    (let e : c.from-sum.result ≡ c.counted.result = c.from-sum.ensures in
    let few : c.counted.result < 4294967296 = c.counted.type_inv in
    omega (arith, e, few))
    c.loop-place.invariant

pub returns : goal.returns
returns c = record {
  total =
      adding_all c.args.loops.now c.args.ops.now c.args.innermost.now c.loop-place.place c.loop-place.sum
      c.loop-place-test.false c.loop-place.invariant;
  small =
      let small : c.loop-place.sum ≤ c.loop-place.place * 4294967295 = c.loop-place.invariant.small in
      let end : c.loop-place.place ≤ length c.args.ops.now = c.loop-place.auto.place-end in
      let few : length c.args.ops.now < 4294967296 = c.requires.counted in
      omega (arith, small, end, few);
}
