use Rattle.std.proofs.Common.{◌+◌, ◌∙◌, sym, subst, arith}
use Rattle.hk_rules.proofs.Looping.{Found, found_one, found_other, found_all}
use Rattle.hk_rules.proofs.loops.loops_of.Goals as goal
use Rattle.hk_rules.proofs.loops.loops_of.Goals.{then-is_loop+in_ok-push, else-is_loop}

pub loop-place-preserved : goal.loop-place-preserved
loop-place-preserved c = elim c.if-is_loop.branch [
  | then-is_loop+in_ok-push w ↦
      subst (Found c.args.ops.now (c.loop-place.place + 1)) (sym (w.loops-is ∙ w.in_ok-push.ensures.pushed))
      (found_one c.args.ops.now c.loop-place.place c.index-ops-place.result w.guard_at.result c.loop-place.loops
      c.loop-place-test.true c.index-ops-place.is (sym c.is_loop.ensures.is ∙ w.if-is_loop.true)
      w.guard_at.ensures.guard c.loop-place.invariant)
  | else-is_loop w ↦ subst (Found c.args.ops.now (c.loop-place.place + 1)) (sym w.loops-is)
      (found_other c.args.ops.now c.loop-place.place c.index-ops-place.result c.loop-place.loops
      c.loop-place-test.true c.index-ops-place.is (sym c.is_loop.ensures.is ∙ w.if-is_loop.false)
      c.loop-place.invariant)
]

pub returns : goal.returns
returns c = record {
  loops =
      λ body reads.
      found_all c.args.ops.now c.loop-place.place c.loop-place.loops body (omega arith) c.loop-place.invariant reads;
}
