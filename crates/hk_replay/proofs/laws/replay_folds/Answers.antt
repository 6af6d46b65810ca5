use Rattle.hk_replay.proofs.Folding.{replay_folds}
use Rattle.hk_replay.proofs.laws.replay_folds.Goals as goal

pub returns : goal.returns
returns c = record { law = replay_folds }
