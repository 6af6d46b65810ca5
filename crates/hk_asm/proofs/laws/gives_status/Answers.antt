use Rattle.hk_asm.proofs.Telling.{gives_status}
use Rattle.hk_asm.proofs.laws.gives_status.Goals as goal

pub returns : goal.returns
returns c = record { law = gives_status }
