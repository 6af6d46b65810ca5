use Rattle.hk_lines.proofs.Due.{stays_due_law}
use Rattle.hk_lines.proofs.laws.stays_due.Goals as goal

pub returns : goal.returns
returns g c = record {
  law = stays_due_law g.T.LineByLine.turn;
}
