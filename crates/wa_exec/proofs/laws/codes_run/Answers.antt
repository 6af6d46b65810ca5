use Rattle.wa_exec.proofs.CodeRuns.{codes_run}
use Rattle.wa_exec.proofs.laws.codes_run.Goals as goal

pub returns : goal.returns
returns g c = record { law = codes_run _ c.within_the_bound.ensures.law }
