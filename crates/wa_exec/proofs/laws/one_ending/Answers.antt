use Rattle.wa_exec.proofs.OneEnding.{one_ending}
use Rattle.wa_exec.proofs.laws.one_ending.Goals as goal

pub returns : goal.returns
returns g c = record { law = one_ending _ }
