use Rattle.std.proofs.Common.{refl}
use Rattle.xo_list.proofs.OneList.{never_true}
use Rattle.xo_object.proofs.Values.{same_account, same_amount, paid_same}
use Rattle.xo_object.proofs.transact.paid_of.Goals as goal

pub returns-then-not-is_payment-clause-malformed : goal.returns-then-not-is_payment-clause-malformed
returns-then-not-is_payment-clause-malformed c e destination amount r =
    never_true (c.if-not-is_payment.ensures.payment.1
    (paid_same c.args.kind c.args.kind c.account_at-destination.result destination c.amount_at-amount.result amount refl
    (same_account c.account_at-destination.result destination _ c.account_at-destination.ensures.account
    r.destination_is)
    (same_amount c.one_amount.ensures.law _ c.amount_at-amount.result amount c.amount_at-amount.ensures.amount
    r.amount_is) r.payment))
