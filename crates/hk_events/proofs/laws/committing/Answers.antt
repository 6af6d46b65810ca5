use Rattle.hk_events.proofs.Writing.{overlays_mean, commits_so}
use Rattle.hk_events.proofs.laws.committing.Goals as goal

pub returns : goal.returns
returns c = record { overlays = overlays_mean; commits = commits_so }
