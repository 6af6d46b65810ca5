use Rattle.hk_engine.proofs.Engines.{engines_careful}
use Rattle.hk_engine.proofs.laws.engines_careful.Goals as goal

pub returns : goal.returns
returns c = record {
  law = engines_careful c.transactions_fit.ensures.law c.reads_one_way.ensures.so c.transactions_found.ensures.law;
}
