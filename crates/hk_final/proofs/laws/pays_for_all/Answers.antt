use Rattle.hk_final.proofs.Reserved.{pays, few}
use Rattle.hk_final.proofs.laws.pays_for_all.Goals as goal

pub returns : goal.returns
returns c = record { law = pays; few = few }
