use Rattle.hk_bound.proofs.Guarding.{ruled_guarded}
use Rattle.hk_bound.proofs.laws.guarded_loops.Goals as goal

pub returns : goal.returns
returns c = record { law = ruled_guarded }
