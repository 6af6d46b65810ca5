use Rattle.xo_list.proofs.ListLemmas.{edits_fit}
use Rattle.xo_list.proofs.laws.edits.Goals as goal

pub returns : goal.returns
returns c = record { law = edits_fit }
