use Rattle.std.proofs.Common.{◌≡◌, ◌-◌, Ok, Err, Some, IfSome, sym, ap, subst, ◌∙◌, rules}
use Rattle.std.proofs.lemmas.List.Elements.{All-set}
use Rattle.hk_slots.specs.Slots.{with_part}
use Rattle.hk_slots.specs.Part.{slot_of, part_of, IsPart}
use Rattle.hk_slots.proofs.Shown.{all_found, no_target}
use Rattle.hk_slots.proofs.slots.Slots.share.Goals as goal

pub returns-in_err-number-clause-part : goal.returns-in_err-number-clause-part
returns-in_err-number-clause-part c =
    let e : with_part (part_of c.args.step) c.args.self.now c.args.slot c.args.into ≡ Err c.in_err-number.field-0.0 =
    ap (λ m. with_part (part_of c.args.step) m c.args.slot c.args.into) (sym c.self.view_is)
    ∙ no_target (part_of c.args.step) c.self.inside.blobs.items c.self.inside.parts c.args.slot c.args.into
    c.in_ok-is_number.field-0 c.in_ok-is_number-2.field-0 c.in_ok-whole.whole c.in_ok-part.part
    c.in_err-number.field-0.0
    c.in_ok-is_number.ensures.number c.in_ok-is_number-2.ensures.number c.in_ok-whole.ensures.part
    (subst (λ bs. part_of c.args.step (slot_of bs c.in_ok-whole.whole) ≡ Ok (slot_of bs c.in_ok-part.part))
    c.as_slice.ensures.value c.in_ok-part.ensures.part) c.in_err-number.ensures.target in search (rules, e)

pub returns-clause-part : goal.returns-clause-part
returns-clause-part c =
    ap (λ m. with_part (part_of c.args.step) m c.args.slot c.args.into) (sym c.self.view_is)
    ∙ all_found (part_of c.args.step) c.self.inside.blobs.items c.self.inside.parts c.args.slot c.args.into
    c.in_ok-is_number.field-0 c.in_ok-is_number-2.field-0 c.in_ok-whole.whole c.in_ok-part.part c.in_ok-number.number
    c.in_ok-is_number.ensures.number c.in_ok-is_number-2.ensures.number c.in_ok-whole.ensures.part
    (subst (λ bs. part_of c.args.step (slot_of bs c.in_ok-whole.whole) ≡ Ok (slot_of bs c.in_ok-part.part))
    c.as_slice.ensures.value c.in_ok-part.ensures.part) c.in_ok-number.ensures.target

pub invariant_of-self : goal.invariant_of-self
invariant_of-self c =
    All-set (λ p. IfSome p (IsPart c.self.inside.blobs.items)) c.self.inside.parts (c.in_ok-number.number - 1)
    (Some c.in_ok-part.part)
    (subst (λ bs. IsPart bs c.in_ok-part.part) c.as_slice.ensures.value c.in_ok-part.ensures.fits) c.self.invariant
