use Rattle.hk_events.proofs.Fitting.{fitting_law}
use Rattle.hk_events.proofs.laws.transactions_fit.Goals as goal

pub returns : goal.returns
returns c = record { law = fitting_law }
