use Rattle.hk_chain.proofs.Counting.{callbacks_run}
use Rattle.hk_chain.proofs.laws.callbacks_run.Goals as goal

pub returns : goal.returns
returns c = record { law = callbacks_run c.codes_run.ensures.law }
