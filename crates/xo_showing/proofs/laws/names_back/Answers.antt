use Rattle.xo_showing.proofs.Names.{names_back}
use Rattle.xo_showing.proofs.laws.names_back.Goals as goal

pub returns : goal.returns
returns c = record { law = names_back }
