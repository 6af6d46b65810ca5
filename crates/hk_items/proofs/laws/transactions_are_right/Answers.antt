use Rattle.hk_items.proofs.Right.{transactions_right}
use Rattle.hk_items.proofs.laws.transactions_are_right.Goals as goal

pub returns : goal.returns
returns c = record { law = transactions_right }
