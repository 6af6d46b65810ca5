use Rattle.hk_events.proofs.Staying.{stays_law}
use Rattle.hk_events.proofs.laws.stays_complete.Goals as goal

pub returns : goal.returns
returns c = record { law = stays_law }
