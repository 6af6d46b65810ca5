use Rattle.hk_replay.proofs.Deciding.{each_verdict}
use Rattle.hk_replay.proofs.laws.each_verdict.Goals as goal

pub returns : goal.returns
returns c = record { law = each_verdict }
