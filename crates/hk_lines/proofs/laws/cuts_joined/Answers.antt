use Rattle.hk_lines.proofs.CutLemmas.{cut_joined}
use Rattle.hk_lines.proofs.laws.cuts_joined.Goals as goal

pub returns : goal.returns
returns c = record {
  law = cut_joined;
}
