use Rattle.hk_final.proofs.Counted.{queue_told}
use Rattle.hk_final.proofs.laws.queue_told.Goals as goal

pub returns : goal.returns
returns c = record { law = queue_told }
