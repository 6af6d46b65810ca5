use Rattle.hk_draft.proofs.Granted.{may_write_means}
use Rattle.hk_draft.proofs.laws.granting.Goals as goal

pub returns : goal.returns
returns c = record { law = may_write_means }
