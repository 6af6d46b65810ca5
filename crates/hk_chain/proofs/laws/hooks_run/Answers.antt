use Rattle.hk_chain.proofs.Counting.{hooks_run}
use Rattle.hk_chain.proofs.laws.hooks_run.Goals as goal

pub returns : goal.returns
returns c = record { law = hooks_run c.codes_run.ensures.law }
