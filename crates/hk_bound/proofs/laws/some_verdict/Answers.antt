use Rattle.hk_bound.proofs.Acceptance.{some_verdict}
use Rattle.hk_bound.proofs.laws.some_verdict.Goals as goal

pub returns : goal.returns
returns c = record { law = some_verdict }
