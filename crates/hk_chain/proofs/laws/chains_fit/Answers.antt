use Rattle.hk_chain.proofs.ChainFits.{chains_fit, chains_show}
use Rattle.hk_chain.proofs.laws.chains_fit.Goals as goal

pub returns : goal.returns
returns c = record { law = chains_fit c.calls_lead.ensures.law; lines = chains_show }
