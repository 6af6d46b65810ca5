use Rattle.hk_engine.proofs.Called.{calls_keep}
use Rattle.hk_engine.proofs.laws.calls_keep.Goals as goal

pub returns : goal.returns
returns c = record { law = calls_keep }
