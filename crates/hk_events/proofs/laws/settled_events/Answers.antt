use Rattle.hk_events.proofs.Settling.{settled_law}
use Rattle.hk_events.proofs.laws.settled_events.Goals as goal

pub returns : goal.returns
returns c = record { law = settled_law }
