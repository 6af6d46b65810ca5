use Rattle.hk_lines.proofs.Fusing.{fuses_law}
use Rattle.hk_lines.proofs.laws.fuses.Goals as goal

pub returns : goal.returns
returns g c = record {
  law = fuses_law g.M.LineMachine.read g.M.LineMachine.machine;
}
