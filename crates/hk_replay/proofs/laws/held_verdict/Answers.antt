use Rattle.hk_replay.proofs.Deciding.{held_verdict}
use Rattle.hk_replay.proofs.laws.held_verdict.Goals as goal

pub returns : goal.returns
returns c = record { law = held_verdict }
