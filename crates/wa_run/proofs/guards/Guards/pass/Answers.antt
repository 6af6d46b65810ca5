use Rattle.std.proofs.Common.{◌≡◌, ◌+◌, length, sym, ◌∙◌, ap, subst, refl, arith}
use Rattle.std.proofs.lemmas.Option.{slice_get_within}
use Rattle.wa_machine.specs.Machine.{counted}
use Rattle.wa_run.specs.Guards.{Guards, IsTree, passes_of}
use Rattle.wa_run.proofs.Counters.{spot_here, goes_nowhere, never_passed, passed_so, is_less, is_not_less, added_tree}
use Rattle.wa_run.proofs.Counters.{added_long, added_more, counted_tree, counted_more}
use Rattle.wa_run.proofs.guards.Guards.pass.Goals as goal

pub invariant_of-self : goal.invariant_of-self
invariant_of-self c =
    let h =
    spot_here c.as_slice.result.now c.self.inside.counters.items c.args.id c.spot_of-spot.result
    c.index-counter.result.now c.spot_of-spot.ensures.spot c.as_slice.ensures.value c.index-counter.ensures in (
      subst IsTree (sym (c.add.ensures.items c.index-counter.result.now h.got))
          (added_tree c.self.inside.counters.items c.args.id c.spot_of-spot.result c.index-counter.result.now h.got
          c.if-counter-id.true
          (goes_nowhere c.self.inside.counters.items c.args.id c.spot_of-spot.result c.index-counter.result.now h
          c.if-counter-id.true) h.comes c.self.invariant.0),
      omega (arith, c.self.invariant.1, c.add.ensures.room),
    )

pub returns-then-counter-id-clause-passes : goal.returns-then-counter-id-clause-passes
returns-then-counter-id-clause-passes c =
    let h =
    spot_here c.as_slice.result.now c.self.inside.counters.items c.args.id c.spot_of-spot.result
    c.index-counter.result.now c.spot_of-spot.ensures.spot c.as_slice.ensures.value c.index-counter.ensures in
    is_less (passes_of c.args.self.now.items c.args.id) c.args.limit (omega (
      arith,
      never_passed c.self.inside.counters.items c.args.id c.spot_of-spot.result c.index-counter.result.now h
          c.if-counter-id.true,
      ap (λ (g : Guards). passes_of g.items c.args.id) c.self.view_is,
      c.if-limit-eq0.false,
    ))

pub returns-then-counter-id-clause-counts : goal.returns-then-counter-id-clause-counts
returns-then-counter-id-clause-counts c =
    let h =
    spot_here c.as_slice.result.now c.self.inside.counters.items c.args.id c.spot_of-spot.result
    c.index-counter.result.now c.spot_of-spot.ensures.spot c.as_slice.ensures.value c.index-counter.ensures in
    λ t other.
    ap (λ xs. passes_of xs other) (c.add.ensures.items c.index-counter.result.now h.got)
    ∙ added_more c.self.inside.counters.items c.spot_of-spot.result c.index-counter.result.now c.args.id h.got other
    ∙ ap (λ (g : Guards). counted c.args.id (passes_of g.items) other) c.self.view_is

pub returns-then-counter-id-clause-items : goal.returns-then-counter-id-clause-items
returns-then-counter-id-clause-items c =
    let h =
    spot_here c.as_slice.result.now c.self.inside.counters.items c.args.id c.spot_of-spot.result
    c.index-counter.result.now c.spot_of-spot.ensures.spot c.as_slice.ensures.value c.index-counter.ensures in
    omega (
      arith,
      ap length (c.add.ensures.items c.index-counter.result.now h.got),
      added_long c.self.inside.counters.items c.spot_of-spot.result c.index-counter.result.now c.args.id,
      ap (λ (g : Guards). length g.items) c.self.view_is,
    )

pub returns-then-limit-counter-clause-passes : goal.returns-then-limit-counter-clause-passes
returns-then-limit-counter-clause-passes c =
    let h =
    spot_here c.as_slice.result.now c.self.inside.counters.items c.args.id c.spot_of-spot.result
    c.index-counter.result.now c.spot_of-spot.ensures.spot c.as_slice.ensures.value c.index-counter.ensures in
    is_not_less (passes_of c.args.self.now.items c.args.id) c.args.limit (omega (
      arith,
      passed_so c.self.inside.counters.items c.args.id c.spot_of-spot.result c.index-counter.result.now h
          (omega (arith, c.if-counter-id.false)),
      ap (λ (g : Guards). passes_of g.items c.args.id) c.self.view_is,
      c.if-limit-counter.true,
    ))

pub index_mut-requires : goal.index_mut-requires
index_mut-requires c =
    let h =
    spot_here c.as_slice.result.now c.self.inside.counters.items c.args.id c.spot_of-spot.result
    c.index-counter.result.now c.spot_of-spot.ensures.spot c.as_slice.ensures.value c.index-counter.ensures in
    omega (
      arith,
      slice_get_within c.self.inside.counters.items c.spot_of-spot.result.place c.index-counter.result.now h.got,
      ap length c.as_slice.ensures.value,
      c.as_slice.ensures.len,
    )

pub invariant_of-self-2 : goal.invariant_of-self-2
invariant_of-self-2 c =
    let h =
    spot_here c.as_slice.result.now c.self.inside.counters.items c.args.id c.spot_of-spot.result
    c.index-counter.result.now c.spot_of-spot.ensures.spot c.as_slice.ensures.value c.index-counter.ensures in (
      counted_tree c.self.inside.counters.items c.spot_of-spot.result.place c.index-counter.result.now _ h.got refl refl
          refl c.self.invariant.0,
      c.self.invariant.1,
    )

pub returns-clause-passes : goal.returns-clause-passes
returns-clause-passes c =
    let h =
    spot_here c.as_slice.result.now c.self.inside.counters.items c.args.id c.spot_of-spot.result
    c.index-counter.result.now c.spot_of-spot.ensures.spot c.as_slice.ensures.value c.index-counter.ensures in
    is_less (passes_of c.args.self.now.items c.args.id) c.args.limit (omega (
      arith,
      passed_so c.self.inside.counters.items c.args.id c.spot_of-spot.result c.index-counter.result.now h
          (omega (arith, c.if-counter-id.false)),
      ap (λ (g : Guards). passes_of g.items c.args.id) c.self.view_is,
      c.if-limit-counter.false,
    ))

pub returns-clause-counts : goal.returns-clause-counts
returns-clause-counts c =
    let h =
    spot_here c.as_slice.result.now c.self.inside.counters.items c.args.id c.spot_of-spot.result
    c.index-counter.result.now c.spot_of-spot.ensures.spot c.as_slice.ensures.value c.index-counter.ensures in
    λ t other.
    counted_more c.self.inside.counters.items c.spot_of-spot.result.place c.index-counter.result.now _ c.args.id h.got
    (omega (arith, c.if-counter-id.false)) (omega (arith, c.if-counter-id.false)) refl other
    ∙ ap (λ (g : Guards). counted c.args.id (passes_of g.items) other) c.self.view_is
