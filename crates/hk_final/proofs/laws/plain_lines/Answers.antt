use Rattle.hk_final.proofs.Plain.{plain}
use Rattle.hk_final.proofs.laws.plain_lines.Goals as goal

pub returns : goal.returns
returns c = record { law = plain }
