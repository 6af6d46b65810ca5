use Rattle.xo_showing.proofs.Members.{any_order}
use Rattle.xo_showing.proofs.laws.any_order.Goals as goal

pub returns : goal.returns
returns c = record { law = any_order }
