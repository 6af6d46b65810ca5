use Rattle.xo_fields.proofs.OneAnswer.{one_length_answer}
use Rattle.xo_fields.proofs.laws.one_length_read.Goals as goal

pub returns : goal.returns
returns c = record { law = one_length_answer c.one_length.ensures.law }
