use Rattle.xo_showing.proofs.Values.{one_showing, one_shown}
use Rattle.xo_showing.proofs.laws.one_showing.Goals as goal

pub returns : goal.returns
returns c = record { showing = one_showing; text = one_shown }
