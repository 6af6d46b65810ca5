use Rattle.wa_exec.proofs.CodeRuns.{code_run_ends}
use Rattle.wa_exec.proofs.laws.code_run_ends.Goals as goal

pub returns : goal.returns
returns g c = record { law = code_run_ends _ }
