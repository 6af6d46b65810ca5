use Rattle.std.proofs.Common.{◌≡◌, Ok, Err, sym, ap, subst, ◌∙◌, not, true, length, rules}
use Rattle.xo_list.specs.Value.{IsArray, HasElements}
use Rattle.hk_slots.specs.declared.fault.SlotFault.TheVariants.{NotAnArray}
use Rattle.hk_slots.specs.Slots.{◌>>◌, refuse, is_array, elements, count_at}
use Rattle.hk_slots.specs.Part.{slot_of, IsPart}
use Rattle.hk_slots.proofs.Finding.{elements_counted}
use Rattle.hk_slots.proofs.Shown.{reads, reads_none}
use Rattle.hk_slots.proofs.slots.Slots.count.Goals as goal

pub returns-in_err-part : goal.returns-in_err-part
unfolding count_at
returns-in_err-part c =
    let e : count_at c.args.self.now c.args.slot ≡ Err c.in_err-part.field-0.0 =
    reads_none (λ slot. refuse (not (is_array slot.field)) NotAnArray >> Ok (length (elements slot))) c.args.self.now
    c.self.inside.blobs.items c.self.inside.parts c.args.slot c.self.view_is c.in_err-part.field-0.0
    c.in_err-part.ensures.part in
    record { count = search (rules, e) }

pub returns-then-not-is_array : goal.returns-then-not-is_array
unfolding count_at
returns-then-not-is_array c = record {
  count =
      sym (reads (λ slot. refuse (not (is_array slot.field)) NotAnArray >> Ok (length (elements slot))) c.args.self.now
      c.self.inside.blobs.items c.self.inside.parts c.args.slot c.self.view_is c.in_ok-part.part
      c.in_ok-part.ensures.part
      ∙ ap
      (λ b. refuse (not b) NotAnArray >> Ok (length (elements (slot_of c.self.inside.blobs.items c.in_ok-part.part))))
      (sym c.is_array.ensures.array ∙ c.if-not-is_array.true));
}

pub returns : goal.returns
unfolding count_at
returns c =
    let array : is_array c.in_ok-part.part.field ≡ true = sym c.is_array.ensures.array ∙ c.if-not-is_array.false in
    let is : IsPart c.self.inside.blobs.items c.in_ok-part.part =
    c.in_ok-part.ensures.is c.self.inside.blobs.items c.self.invariant in
    let has : HasElements (slot_of c.self.inside.blobs.items c.in_ok-part.part).bytes = is.fits.array array in
    let same : c.bytes_of.result.now ≡ (slot_of c.self.inside.blobs.items c.in_ok-part.part).bytes =
    c.bytes_of.ensures.bytes ∙ ap (λ bs. (slot_of bs c.in_ok-part.part).bytes) c.as_slice.ensures.value in
    record {
      count =
          ap (λ n. Ok n)
          (c.count_elements.ensures.count has.0 (subst (IsArray has.0) (sym same) has.1)
          ∙ sym (elements_counted (slot_of c.self.inside.blobs.items c.in_ok-part.part) has.0 has.1))
          ∙ sym (reads (λ slot. refuse (not (is_array slot.field)) NotAnArray >> Ok (length (elements slot)))
          c.args.self.now c.self.inside.blobs.items c.self.inside.parts c.args.slot c.self.view_is c.in_ok-part.part
          c.in_ok-part.ensures.part
          ∙ ap (λ b.
          refuse (not b) NotAnArray >> Ok (length (elements (slot_of c.self.inside.blobs.items c.in_ok-part.part))))
          array);
    }
