use Rattle.hk_chain.proofs.CallbackFits.{callbacks_fit, callbacks_show}
use Rattle.hk_chain.proofs.laws.callbacks_fit.Goals as goal

pub returns : goal.returns
returns c = record { law = callbacks_fit c.calls_lead.ensures.law; lines = callbacks_show }
