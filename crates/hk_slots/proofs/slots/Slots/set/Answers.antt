use Rattle.std.proofs.Common.{◌≡◌, Err, sym, ap, ◌∙◌, rules}
use Rattle.hk_slots.specs.Slots.{with_object}
use Rattle.hk_slots.proofs.Shown.{object_put, no_object_put}
use Rattle.hk_slots.proofs.slots.Slots.set.Goals as goal

pub returns-in_err-into : goal.returns-in_err-into
unfolding with_object
returns-in_err-into c =
    let e : with_object c.args.self.now c.args.slot c.args.blob.now ≡ Err c.in_err-into.field-0.0 =
    ap (λ m. with_object m c.args.slot c.args.blob.now) (sym c.self.view_is)
    ∙ no_object_put c.self.inside.blobs.items c.self.inside.parts c.args.slot c.args.blob.now c.in_ok-is_number.field-0
    c.in_err-into.field-0.0 c.in_ok-is_number.ensures.number c.in_err-into.ensures.target in record {
      set = search (rules, e);
    }

pub returns : goal.returns
unfolding with_object
returns c = record {
  set =
      ap (λ m. with_object m c.args.slot c.args.blob.now) (sym c.self.view_is)
      ∙ object_put c.keep.new.blobs.items c.in-Ok.place c.args.blob.now c.in-Ok.ensures.kept c.self.inside.blobs.items
      c.self.inside.parts c.args.slot c.in_ok-is_number.field-0 c.in_ok-into.into
      c.in_ok-is_number.ensures.number c.in_ok-into.ensures.target c.in-Ok.ensures.shown;
}
