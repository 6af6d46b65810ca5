use Rattle.wa_machine.proofs.Runs.{within_bound}
use Rattle.wa_machine.proofs.within_the_bound.Goals as goal

pub returns : goal.returns
returns g c = record { law = within_bound _ }
