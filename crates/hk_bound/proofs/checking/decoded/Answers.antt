use Rattle.std.proofs.Common.{sym, ◌∙◌}
use Rattle.hk_bound.specs.Checks.{IsUnspelled}
use Rattle.hk_bound.proofs.Refusing.{exits_with, spelled_in, unspelled}
use Rattle.hk_bound.proofs.checking.decoded.Goals as goal

pub returns-in_err-module-clause-fault : goal.returns-in_err-module-clause-fault
returns-in_err-module-clause-fault c =
    exits_with (IsUnspelled c.args.version c.args.code.now) _ _ c.from_residual.ensures.1 (λ e q. q)
    (c.in_err-module.ensures.fault c.args.version)

pub returns-then-is_too_new-clause-fault : goal.returns-then-is_too_new-clause-fault
returns-then-is_too_new-clause-fault c =
    unspelled c.args.version c.args.code.now c.in_ok-module.module c.in_ok-module.ensures.spelled
    (sym c.is_too_new.ensures.new ∙ c.if-is_too_new.true)

pub returns-clause-spelled : goal.returns-clause-spelled
returns-clause-spelled c =
    spelled_in c.args.version c.args.code.now c.in_ok-module.module c.in_ok-module.ensures.spelled
    (sym c.is_too_new.ensures.new ∙ c.if-is_too_new.false)
