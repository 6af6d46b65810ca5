use Rattle.hk_events.proofs.Applying.{applied_law}
use Rattle.hk_events.proofs.laws.applied_events.Goals as goal

pub returns : goal.returns
returns c = record { law = applied_law }
