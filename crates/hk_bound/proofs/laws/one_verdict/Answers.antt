use Rattle.hk_bound.proofs.Verdicts.{one_verdict}
use Rattle.hk_bound.proofs.laws.one_verdict.Goals as goal

pub returns : goal.returns
returns c = record { law = one_verdict }
