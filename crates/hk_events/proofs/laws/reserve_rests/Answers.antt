use Rattle.hk_events.proofs.Limiting.{reserve_rests}
use Rattle.hk_events.proofs.laws.reserve_rests.Goals as goal

pub returns : goal.returns
returns c = record { law = reserve_rests }
