use Rattle.hk_replay.proofs.Giving.{one_answer}
use Rattle.hk_replay.proofs.laws.one_answer.Goals as goal

pub returns : goal.returns
returns c = record { law = one_answer c.one_ending.ensures.law }
