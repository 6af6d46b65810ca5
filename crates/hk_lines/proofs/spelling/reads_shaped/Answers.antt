use Rattle.hk_lines.proofs.Spelled.{reads_shaped_law}
use Rattle.hk_lines.proofs.spelling.reads_shaped.Goals as goal

pub returns : goal.returns
returns c = record {
  law = reads_shaped_law;
}
