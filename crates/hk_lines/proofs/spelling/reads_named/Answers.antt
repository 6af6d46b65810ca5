use Rattle.hk_lines.proofs.Spelled.{reads_named_law}
use Rattle.hk_lines.proofs.spelling.reads_named.Goals as goal

pub returns : goal.returns
returns c = record {
  law = reads_named_law;
}
