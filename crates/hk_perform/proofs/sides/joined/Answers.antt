use Rattle.std.proofs.Common.{◌∙◌, ◌++◌, ◌∷◌, [], ap, sym, arith, append_assoc, append-nil}
use Rattle.std.proofs.lemmas.List.{nil_from_length}
use Rattle.hk_perform.proofs.sides.joined.Goals as goal

pub loop-line-init : goal.loop-line-init
loop-line-init c =
    ap (λ lines. c.args.earlier ++ lines)
    (c.into_iter-line-iterator.ensures.into_iter_gives.0 ∙ c.into_vec-line-items.ensures.items)

pub loop-line-preserved : goal.loop-line-preserved
loop-line-preserved c =
    ap (λ lines. lines ++ c.next.new.self.rest.items) c.in_ok-push.ensures.ok
    ∙ append_assoc c.loop-line.all (c.in-Some.line ∷ []) c.next.new.self.rest.items
    ∙ sym (ap (λ lines. c.loop-line.all ++ lines) c.in-Some.ensures.steps.0)
    ∙ c.loop-line.invariant

pub returns : goal.returns
returns c =
    let none = c.in-None.ensures.steps.0 in
    let ok = c.loop-line.line-iterator.rest.ok in
    record {
      joined =
          sym (append-nil c.loop-line.all)
          ∙ sym (ap (λ lines. c.loop-line.all ++ lines)
          (nil_from_length c.loop-line.line-iterator.rest.items (omega (arith, none, ok))))
          ∙ c.loop-line.invariant;
    }
