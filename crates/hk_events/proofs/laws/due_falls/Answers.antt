use Rattle.hk_events.proofs.Settling.{due_law}
use Rattle.hk_events.proofs.laws.due_falls.Goals as goal

pub returns : goal.returns
returns c = record { law = due_law }
