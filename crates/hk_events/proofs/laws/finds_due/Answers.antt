use Rattle.hk_events.proofs.Settling.{finds_due, finds_none}
use Rattle.hk_events.proofs.laws.finds_due.Goals as goal

pub returns : goal.returns
returns c = record { law = finds_due; none = finds_none }
