use Rattle.xo_fields.proofs.OneAnswer.{one_amount_begins}
use Rattle.xo_fields.proofs.laws.one_amount.Goals as goal

pub returns : goal.returns
returns c = record { law = one_amount_begins }
