use Rattle.hk_bound.proofs.Acceptance.{accepted_is_hook}
use Rattle.hk_bound.proofs.laws.accepted_is_hook.Goals as goal

pub returns : goal.returns
returns c = record { law = accepted_is_hook }
