use Rattle.std.proofs.Common.{◌∙◌, ap, not}
use Rattle.hk_state.specs.Fees.{positions}
use Rattle.hk_state.proofs.Bounds.{one_more, no_more}
use Rattle.hk_state.proofs.fees.chain_fee.Goals as goal

pub loop-position-preserved : goal.loop-position-preserved
loop-position-preserved c = record {
  fee =
      one_more c.args.ledger.now.entries c.args.kind c.args.account.now _ _ _ _ c.loop-position.invariant.fee
      c.fired_bound-fee.ensures.bound c.install_at.ensures.entry;
  next = c.install_at.ensures.next;
}

pub returns-then-is_none : goal.returns-then-is_none
returns-then-is_none c = record {
  fee =
      no_more c.args.ledger.now.entries c.args.kind c.args.account.now _ c.loop-position.position positions _
      c.loop-position.auto.position-end c.loop-position.invariant.fee c.loop-position.invariant.next
      (c.is_none.ensures ∙ ap not c.if-is_none.true);
}
