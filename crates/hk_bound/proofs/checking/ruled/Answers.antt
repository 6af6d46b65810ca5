use Rattle.std.proofs.Common.{sym, subst}
use Rattle.hk_bound.specs.Checks.{BreaksRules}
use Rattle.hk_bound.proofs.Refusing.{breaks_by}
use Rattle.hk_bound.proofs.checking.ruled.Goals as goal

pub returns-in-Err-clause-fault : goal.returns-in-Err-clause-fault
returns-in-Err-clause-fault c =
    subst (BreaksRules c.args.module.now) (sym c.fault_of.ensures.fault)
    (breaks_by c.args.module.now c.in-Err.found c.in-Err.ensures.first)
