use Rattle.std.proofs.Common.{◌≡◌, sym, ap, length, ok_or}
use Rattle.xo_fields.specs.declared.amount.AmountRead.TheVariants.{Cut, Bad, Amount as Whole}
use Rattle.hk_calls.specs.declared.code.Code.TheVariants as code
use Rattle.hk_api_parts.proofs.Amounts.{amount_whole, amount_none}
use Rattle.hk_api_parts.proofs.slot_rows.amount_of.Goals as goal

pub returns-in-Cut-clause-amount : goal.returns-in-Cut-clause-amount
returns-in-Cut-clause-amount c =
    ap (λ o. ok_or o code.NotAnAmount)
    (sym (amount_none c.one_amount_read.ensures.law c.args.bytes.now Cut c.in-Cut.ensures.read (λ a e. cc)))

pub returns-in-Bad-clause-amount : goal.returns-in-Bad-clause-amount
returns-in-Bad-clause-amount c =
    ap (λ o. ok_or o code.NotAnAmount)
    (sym (amount_none c.one_amount_read.ensures.law c.args.bytes.now Bad c.in-Bad.ensures.read (λ a e. cc)))

pub returns-then-size-bytes-clause-amount : goal.returns-then-size-bytes-clause-amount
returns-then-size-bytes-clause-amount c =
    ap (λ o. ok_or o code.NotAnAmount) (sym
    (amount_whole c.args.bytes.now c.in-Amount.amount c.in-Amount.size c.if-size-bytes.true c.in-Amount.ensures.read))

pub returns-else-size-bytes-clause-amount : goal.returns-else-size-bytes-clause-amount
returns-else-size-bytes-clause-amount c =
    ap (λ o. ok_or o code.NotAnAmount) (sym (amount_none c.one_amount_read.ensures.law c.args.bytes.now
    (Whole c.in-Amount.amount c.in-Amount.size) c.in-Amount.ensures.read
    (λ a e. let same : c.in-Amount.size ≡ length c.args.bytes.now = cc in absurd (c.if-size-bytes.false same))))
