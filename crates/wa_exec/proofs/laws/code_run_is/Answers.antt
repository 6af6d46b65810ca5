use Rattle.wa_exec.proofs.CodeRuns.{code_run_is}
use Rattle.wa_exec.proofs.laws.code_run_is.Goals as goal

pub returns : goal.returns
returns g c = record { law = code_run_is _ c.within_the_bound.ensures.law }
