use Rattle.std.proofs.Common.{◌≡◌, Ok, Err, sym, ap, ◌∙◌, rules}
use Rattle.hk_slots.specs.Slots.{bytes_at}
use Rattle.hk_slots.specs.Part.{slot_of}
use Rattle.hk_slots.proofs.Shown.{reads, reads_none}
use Rattle.hk_slots.proofs.slots.Slots.take.Goals as goal

pub returns-in_err-part : goal.returns-in_err-part
unfolding bytes_at
returns-in_err-part c =
    let e : bytes_at c.args.self.now c.args.slot ≡ Err c.in_err-part.field-0.0 =
    reads_none (λ slot. Ok slot.bytes) c.args.self.now c.self.inside.blobs.items c.self.inside.parts c.args.slot
    c.self.view_is c.in_err-part.field-0.0 c.in_err-part.ensures.part in
    record { take = search (rules, e) }

pub returns : goal.returns
unfolding bytes_at
returns c = record {
  take =
      reads (λ slot. Ok slot.bytes) c.args.self.now c.self.inside.blobs.items c.self.inside.parts c.args.slot
      c.self.view_is c.in_ok-part.part c.in_ok-part.ensures.part
      ∙ ap (λ b. Ok b)
      (sym (c.bytes_of.ensures.bytes ∙ ap (λ bs. (slot_of bs c.in_ok-part.part).bytes) c.as_slice.ensures.value));
}
