use Rattle.hk_lines.proofs.Spelled.{reads_spelled_law}
use Rattle.hk_lines.proofs.spelling.reads_spelled.Goals as goal

pub returns : goal.returns
returns c = record {
  law = reads_spelled_law;
}
