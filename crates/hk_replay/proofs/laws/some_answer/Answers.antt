use Rattle.hk_replay.proofs.Answering.{some_answer}
use Rattle.hk_replay.proofs.laws.some_answer.Goals as goal

pub returns : goal.returns
returns c = record { law = some_answer c.runs_within.ensures.law }
