use Rattle.hk_engine.proofs.Engines.{engines_measured}
use Rattle.hk_engine.proofs.laws.engines_measured.Goals as goal

pub returns : goal.returns
returns c = record { law = engines_measured c.reserve_rests.ensures.law }
