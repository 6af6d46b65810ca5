use Rattle.hk_engine.proofs.Engines.{engines_lawful}
use Rattle.hk_engine.proofs.laws.engines_lawful.Goals as goal

pub returns : goal.returns
returns c = record { law = engines_lawful c.chains_fit.ensures.law c.callbacks_fit.ensures.law }
