use Rattle.xo_list.proofs.ListLemmas.{array_one}
use Rattle.xo_list.proofs.laws.one_array.Goals as goal

pub returns : goal.returns
returns c = record { law = array_one }
