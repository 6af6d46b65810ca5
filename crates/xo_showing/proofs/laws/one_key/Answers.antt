use Rattle.xo_showing.proofs.Keys.{one_key}
use Rattle.xo_showing.proofs.laws.one_key.Goals as goal

pub returns : goal.returns
returns c = record { law = one_key }
