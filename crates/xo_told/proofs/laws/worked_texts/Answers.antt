use Rattle.xo_told.proofs.Worked.{worked}
use Rattle.xo_told.proofs.laws.worked_texts.Goals as goal

pub returns : goal.returns
returns c = record { law = worked }
