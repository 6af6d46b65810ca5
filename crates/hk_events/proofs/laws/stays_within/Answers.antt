use Rattle.hk_events.proofs.Staying.{within_law}
use Rattle.hk_events.proofs.laws.stays_within.Goals as goal

pub returns : goal.returns
returns c = record { law = within_law }
