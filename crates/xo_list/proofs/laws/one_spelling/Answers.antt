use Rattle.xo_list.proofs.ListLemmas.{spelling_one}
use Rattle.xo_list.proofs.laws.one_spelling.Goals as goal

pub returns : goal.returns
returns c = record { law = spelling_one }
