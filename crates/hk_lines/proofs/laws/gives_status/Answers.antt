use Rattle.hk_lines.proofs.Ending.{gives_status_law}
use Rattle.hk_lines.proofs.laws.gives_status.Goals as goal

pub returns : goal.returns
returns g c = record { law = gives_status_law g.T.LineByLine.turn }
