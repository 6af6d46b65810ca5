use Rattle.std.proofs.Common.{◌≡◌, Ok, Err, sym, rules}
use Rattle.hk_slots.specs.Slots.{kind_at}
use Rattle.hk_slots.proofs.Shown.{reads, reads_none}
use Rattle.hk_slots.proofs.slots.Slots.kind.Goals as goal

pub returns-in_err-part : goal.returns-in_err-part
unfolding kind_at
returns-in_err-part c =
    let e : kind_at c.args.self.now c.args.slot ≡ Err c.in_err-part.field-0.0 =
    reads_none (λ slot. Ok slot.field) c.args.self.now c.self.inside.blobs.items c.self.inside.parts c.args.slot
    c.self.view_is c.in_err-part.field-0.0 c.in_err-part.ensures.part in
    record { kind = search (rules, e) }

pub returns : goal.returns
unfolding kind_at
returns c = record {
  kind =
      sym (reads (λ slot. Ok slot.field) c.args.self.now c.self.inside.blobs.items c.self.inside.parts c.args.slot
      c.self.view_is c.in_ok-part.part c.in_ok-part.ensures.part);
}
