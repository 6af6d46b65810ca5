use Rattle.std.proofs.Common.{◌∙◌, sym}
use Rattle.hk_state.specs.Writes.{with_writes}
use Rattle.hk_state.specs.Native.{payment_rows, received}
use Rattle.hk_base.specs.Rows.{first_row}
use Rattle.hk_state.proofs.Fits.{receiver_fits}
use Rattle.hk_state.proofs.Paid.{paid}
use Rattle.hk_state.proofs.native.pay.Goals as goal

pub receive-received-requires : goal.receive-received-requires
receive-received-requires c = record {
  fits =
      rw c.in_drops-drops.ensures.drops
      (receiver_fits (with_writes c.args.ledger.now.entries c.args.overlay) c.args.transaction.now c.args.to.now
      c.args.amount.now c.args.sender c.reserve-kept.result c.holding-receiver.result
      c.requires.sender c.holding-receiver.ensures.holding c.requires.sum
      (sym c.refusal.ensures.rows ∙ c.in_default.is));
}

pub returns : goal.returns
returns c = record {
  meaning =
      paid c.args.ledger.now.entries c.args.ledger.now.header c.args.overlay c.put_holding.new.self
      c.put_holding-2.new.self c.args.transaction.now c.args.to.now c.args.amount.now c.args.sender
      c.receive-received.result c.in_drops-drops.result
      ((λ i.
      first_row (payment_rows c.args.transaction.now c.args.to.now c.args.amount.now c.args.sender
      (sym c.reserve-kept.ensures.reserve i) (sym c.holding-receiver.ensures.holding i)))
      ∙ sym c.refusal.ensures.rows
      ∙ c.in_default.is)
      c.in_drops-drops.ensures.drops
      (c.receive-received.ensures.received
      ∙ (λ i.
      received (c.in_drops-drops.ensures.drops i) (c.header.ensures.header i).seq
      (c.holding-receiver.ensures.holding i)))
      (record { written = c.in_ok-put_holding.ensures.ok; made = c.in_ok-put_holding.ensures.made })
      (record { written = c.in_ok-put_holding-2.ensures.ok; made = c.in_ok-put_holding-2.ensures.made });
}
