use Rattle.wa_exec.proofs.Ready.{runs_within}
use Rattle.wa_exec.proofs.laws.runs_within.Goals as goal

pub returns : goal.returns
returns g c = record { law = runs_within _ c.within_the_bound.ensures.law }
