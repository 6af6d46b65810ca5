use Rattle.std.proofs.Common.{◌≡◌, Ok, Err, sym, ap, ◌∙◌, length, rules}
use Rattle.hk_slots.specs.Slots.{size_at}
use Rattle.hk_slots.specs.Part.{slot_of}
use Rattle.hk_slots.proofs.Shown.{reads, reads_none}
use Rattle.hk_slots.proofs.slots.Slots.size.Goals as goal

pub returns-in_err-part : goal.returns-in_err-part
unfolding size_at
returns-in_err-part c =
    let e : size_at c.args.self.now c.args.slot ≡ Err c.in_err-part.field-0.0 =
    reads_none (λ slot. Ok (length slot.bytes)) c.args.self.now c.self.inside.blobs.items c.self.inside.parts
    c.args.slot c.self.view_is c.in_err-part.field-0.0 c.in_err-part.ensures.part in
    record { size = search (rules, e) }

pub returns : goal.returns
unfolding size_at
returns c = record {
  size =
      ap (λ b. Ok (length b))
      (c.bytes_of.ensures.bytes ∙ ap (λ bs. (slot_of bs c.in_ok-part.part).bytes) c.as_slice.ensures.value)
      ∙ sym (reads (λ slot. Ok (length slot.bytes)) c.args.self.now c.self.inside.blobs.items c.self.inside.parts
      c.args.slot c.self.view_is c.in_ok-part.part c.in_ok-part.ensures.part);
}
