use Rattle.hk_lines.proofs.HeldLemmas.{cuts_pieces_law}
use Rattle.hk_lines.proofs.laws.cuts_pieces.Goals as goal

pub returns : goal.returns
returns c = record {
  law = cuts_pieces_law;
}
