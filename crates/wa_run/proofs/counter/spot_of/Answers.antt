use Rattle.std.proofs.Common.{◌<◌, ◌≡◌, Some, inl, inr, slice_get, slice_index_or}
use Rattle.std.proofs.lemmas.Option.{slice_get-get_or}
use Rattle.wa_run.proofs.Counters.{finds_first, comes_first, finds_on, comes_on, goes_ahead}
use Rattle.wa_run.proofs.counter.spot_of.Goals as goal

pub loop-place-init : goal.loop-place-init
loop-place-init c = record {
  inside = c.requires.tree.some;
  finds = finds_first c.args.counters.now c.args.id c.requires.tree;
  comes = comes_first c.args.counters.now c.args.id;
}

pub loop-place-preserved : goal.loop-place-preserved
loop-place-preserved c =
    let g =
    slice_get-get_or c.args.counters.now c.loop-place.place (record { id = 0; passes = 0; even = 0; odd = 0 })
    c.loop-place.invariant.inside in
    record {
      inside =
          (goes_ahead c.args.counters.now c.loop-place.place c.loop-place.bits c.child-next.result _ c.requires.tree g
          c.child-next.ensures.child c.if-next-eq0.false).1;
      finds =
          finds_on c.args.counters.now c.args.id c.loop-place.place c.loop-place.bits c.child-next.result _ g
          c.if-counter-id.false c.child-next.ensures.child c.loop-place.invariant.finds;
      comes =
          comes_on c.args.counters.now c.args.id c.loop-place.place c.loop-place.bits c.child-next.result _ g
          c.if-counter-id.false c.child-next.ensures.child c.if-next-eq0.false c.loop-place.invariant.comes;
    }
