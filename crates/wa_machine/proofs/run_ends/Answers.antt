use Rattle.wa_machine.proofs.Endings.{run_ends}
use Rattle.wa_machine.proofs.run_ends.Goals as goal

pub returns : goal.returns
returns g c = record { law = run_ends _ }
