use Rattle.hk_bound.proofs.Verdicts.{one_refusal}
use Rattle.hk_bound.proofs.laws.one_refusal.Goals as goal

pub returns : goal.returns
returns c = record { law = one_refusal }
