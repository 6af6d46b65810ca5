use Rattle.hk_replay.proofs.HookFolding.{hook_folds}
use Rattle.hk_replay.proofs.laws.hook_folds.Goals as goal

pub returns : goal.returns
returns c = record { law = hook_folds }
