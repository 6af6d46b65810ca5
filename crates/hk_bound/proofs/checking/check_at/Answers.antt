use Rattle.hk_bound.specs.Checks.{IsRefused}
use Rattle.hk_bound.proofs.Refusing.{exits_with, refused_cbak, refused_hook, refused_typing}
use Rattle.hk_bound.proofs.checking.check_at.Goals as goal

pub returns-in_err-typed-clause-refused : goal.returns-in_err-typed-clause-refused
returns-in_err-typed-clause-refused c =
    exits_with (IsRefused c.args.version c.args.code.now) _ _ c.from_residual-in_err-typed.ensures.1 (λ e q. q)
    (refused_typing c.args.version c.args.code.now c.in_ok-module.module _
    (record { short = c.if-code-gt65535.false; spelled = c.in_ok-module.ensures.spelled })
    c.in_ok-guards.ensures.ruled c.in_err-typed.ensures.fault)

pub returns-in_err-bound_hook-clause-refused : goal.returns-in_err-bound_hook-clause-refused
returns-in_err-bound_hook-clause-refused c =
    exits_with (IsRefused c.args.version c.args.code.now) _ _ c.from_residual-in_err-bound_hook.ensures.1 (λ e q. q)
    (refused_hook c.args.version c.args.code.now c.in_ok-module.module _
    (record { short = c.if-code-gt65535.false; spelled = c.in_ok-module.ensures.spelled })
    c.in_ok-guards.ensures.ruled c.in_ok-typed.ensures.typed c.in_err-bound_hook.ensures.fault)

pub returns-in_err-bound_cbak-clause-refused : goal.returns-in_err-bound_cbak-clause-refused
returns-in_err-bound_cbak-clause-refused c =
    exits_with (IsRefused c.args.version c.args.code.now) _ _ c.from_residual-in_err-bound_cbak.ensures.1 (λ e q. q)
    (refused_cbak c.args.version c.args.code.now c.in_ok-module.module _
    (record { short = c.if-code-gt65535.false; spelled = c.in_ok-module.ensures.spelled })
    c.in_ok-guards.ensures.ruled c.in_ok-typed.ensures.typed c.in_ok-bound_hook.ensures.small
    c.in_err-bound_cbak.ensures.fault)
