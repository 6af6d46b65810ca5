use Rattle.hk_bound.proofs.Keeping.{typables}
use Rattle.hk_bound.proofs.laws.typables.Goals as goal

pub returns : goal.returns
returns c = record { law = typables }
