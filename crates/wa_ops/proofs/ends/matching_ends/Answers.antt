use Rattle.std.proofs.Common.{◌≡◌, ◌+◌, ◌-◌, ℕ, ◌∙◌, subst, arith}
use Rattle.wa_ops.proofs.Marking.{Marking, all_marked, nested_unbroken, one_more}
use Rattle.wa_ops.proofs.ends.matching_ends.Goals as goal

pub loop-place-preserved : goal.loop-place-preserved
loop-place-preserved c =
    let e : c.loop-place.place ≡ c.loop-place.place - 1 + 1 = omega arith in
    let P : ℕ → Type 0 = λ n. Marking c.args.ops.now n c.loop-place.ends c.loop-place.open_ends in
    rw (c.in_ok-mark.ensures.entry, c.in_ok-mark.ensures.open) (one_more c.args.ops.now (c.loop-place.place - 1)
    c.index-ops-place.result c.loop-place.ends c.loop-place.open_ends (nested_unbroken c.args.ops.now c.requires.nested)
    (omega arith) c.index-ops-place.is (subst P e c.loop-place.invariant))

pub returns : goal.returns
returns c = record {
  ends =
      λ code r.
      c.into_newest_first.ensures.places
      ∙ all_marked c.args.ops.now c.loop-place.place c.loop-place.ends c.loop-place.open_ends code (omega arith)
      c.loop-place.invariant r;
}
