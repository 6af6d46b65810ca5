use Rattle.std.proofs.Common.{[], sym, append-nil}
use Rattle.xo_showing.proofs.Amounts.{amount_taken}
use Rattle.xo_showing.proofs.amount.amount_in.Goals as goal

pub unreachable-requires-in-Bad : goal.unreachable-requires-in-Bad
unreachable-requires-in-Bad c =
    c.in-Bad.ensures.read.0 (c.args.bytes.now, [], c.requires, sym (append-nil c.args.bytes.now))

pub returns-clause-amount : goal.returns-clause-amount
returns-clause-amount c =
    amount_taken c.one_amount.ensures.law c.args.bytes.now c.in-Amount.amount c.in-Amount.size c.requires
    c.in-Amount.ensures.read.0 c.in-Amount.ensures.read.2
