use Rattle.xo_list.proofs.Building.{amount_refused, amount_whole}
use Rattle.xo_json.proofs.amount.is_amount.Goals as goal

pub returns-in-Bad : goal.returns-in-Bad
returns-in-Bad c = record { amount = amount_refused c.args.bytes.now c.in-Bad.ensures.read }

pub returns-in-Amount : goal.returns-in-Amount
returns-in-Amount c = record {
  amount =
      amount_whole c.one_amount.ensures.law c.args.bytes.now c.in-Amount.amount c.in-Amount.size
      c.in-Amount.ensures.read;
}
