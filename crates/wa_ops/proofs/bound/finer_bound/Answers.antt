use Rattle.wa_ops.proofs.FinerBound.{finer_bound}
use Rattle.wa_ops.proofs.bound.finer_bound.Goals as goal

pub returns : goal.returns
returns c = record { law = finer_bound }
