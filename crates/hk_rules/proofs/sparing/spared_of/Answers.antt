use Rattle.std.proofs.Common.{◌≡◌, ◌+◌, ◌-◌, ◌∷◌, ◌++◌, ◌∙◌, ℕ, [], reverse, ap, sym, subst, arith}
use Rattle.std.proofs.lemmas.List.{reverse-append}
use Rattle.wa_ops.proofs.Marking.{nested_unbroken}
use Rattle.hk_rules.proofs.CheaperArms.{Sparing, all_spared, one_more}
use Rattle.hk_rules.proofs.sparing.spared_of.Goals as goal

pub loop-place-preserved : goal.loop-place-preserved
loop-place-preserved c =
    let e : c.loop-place.place ≡ c.loop-place.place - 1 + 1 = omega arith in
    let P : ℕ → Type 0 = λ n. Sparing c.args.ops.now n (reverse c.loop-place.found.items) c.loop-place.arms in
    let pushed : reverse c.push.new.self.items ≡ c.in_ok-saving.field-0 ∷ reverse c.loop-place.found.items =
    ap reverse c.in_ok-push.ensures.items ∙ reverse-append c.loop-place.found.items (c.in_ok-saving.field-0 ∷ []) in
    rw (pushed, c.in_ok-saving.ensures.saving, c.in_ok-saving.ensures.arms)
    (one_more c.args.ops.now (c.loop-place.place - 1) c.index-ops-place.result (reverse c.loop-place.found.items)
    c.loop-place.arms
    (nested_unbroken c.args.ops.now c.requires.nested) (omega arith) c.index-ops-place.is
    (subst P e c.loop-place.invariant))

pub returns : goal.returns
returns c = record {
  spared = λ body reads. c.from_vec.ensures.items ∙ c.reverse.ensures.items
      ∙ all_spared c.args.ops.now c.loop-place.place (reverse c.loop-place.found.items) c.loop-place.arms body
      (omega arith) c.loop-place.invariant reads;
}
