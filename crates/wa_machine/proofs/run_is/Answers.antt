use Rattle.wa_machine.proofs.Endings.{run_is}
use Rattle.wa_machine.proofs.run_is.Goals as goal

pub returns : goal.returns
returns g c = record { law = run_is _ }
