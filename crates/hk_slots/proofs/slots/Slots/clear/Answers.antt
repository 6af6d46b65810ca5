use Rattle.std.proofs.Common.{◌≡◌, Ok, Err, None, sym, ap, ◌∙◌, rules}
use Rattle.hk_slots.specs.Slots.{put, cleared}
use Rattle.hk_slots.proofs.Shown.{reads, reads_none, put_shown}
use Rattle.hk_slots.proofs.slots.Slots.clear.Goals as goal

pub returns-in_err-held_at : goal.returns-in_err-held_at
unfolding cleared
returns-in_err-held_at c =
    let e : cleared c.args.self.now c.args.slot ≡ Err c.in_err-held_at.field-0.0 =
    reads_none (λ slot. Ok (put c.args.self.now c.args.slot None)) c.args.self.now c.self.inside.blobs.items
    c.self.inside.parts c.args.slot c.self.view_is c.in_err-held_at.field-0.0 c.in_err-held_at.ensures.part in
    record { clear = search (rules, e) }

pub returns : goal.returns
unfolding cleared
returns c = record {
  clear =
      reads (λ slot. Ok (put c.args.self.now c.args.slot None)) c.args.self.now c.self.inside.blobs.items
      c.self.inside.parts c.args.slot c.self.view_is c.in_ok-held_at.field-0 c.in_ok-held_at.ensures.part
      ∙ ap (λ m. Ok (put m c.args.slot None)) (sym c.self.view_is)
      ∙ ap (λ m. Ok m) (sym (put_shown c.self.inside.blobs.items c.self.inside.parts c.args.slot None));
}
