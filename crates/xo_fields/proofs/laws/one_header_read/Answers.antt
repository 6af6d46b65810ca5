use Rattle.xo_fields.proofs.OneAnswer.{one_header_answer}
use Rattle.xo_fields.proofs.laws.one_header_read.Goals as goal

pub returns : goal.returns
returns c = record { law = one_header_answer c.one_header.ensures.law }
