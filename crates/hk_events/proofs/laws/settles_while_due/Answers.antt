use Rattle.hk_events.proofs.Settling.{while_law}
use Rattle.hk_events.proofs.laws.settles_while_due.Goals as goal

pub returns : goal.returns
returns c = record { law = while_law }
