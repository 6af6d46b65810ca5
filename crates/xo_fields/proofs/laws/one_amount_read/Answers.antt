use Rattle.xo_fields.proofs.OneAnswer.{one_amount_answer}
use Rattle.xo_fields.proofs.laws.one_amount_read.Goals as goal

pub returns : goal.returns
returns c = record { law = one_amount_answer c.one_amount.ensures.law }
