use Rattle.std.proofs.Common.{◌≡◌, ◌<◌, ◌^◌, length, sym, ap, arith}
use Rattle.wa_ops.specs.HookRules.{hook_rules}
use Rattle.hk_rules.proofs.Least.{exits_known}
use Rattle.hk_rules.proofs.Whole.{all_kept, as_many, first_float, first_import, first_other, hook_kept}
use Rattle.hk_rules.proofs.judging.rules.Goals as goal

pub returns-in_err-check_floats-clause-first : goal.returns-in_err-check_floats-clause-first
returns-in_err-check_floats-clause-first c =
    exits_known (hook_rules c.args.module.now) _ _ c.from_residual.ensures.1 (λ e q. q)
    (λ known. first_float c.args.module.now _ c.in_err-check_floats.ensures.rules)

pub returns-in_err-rows-clause-first : goal.returns-in_err-rows-clause-first
returns-in_err-rows-clause-first c =
    exits_known (hook_rules c.args.module.now) _ _ c.from_residual-in_err-rows.ensures.1 (λ e q. q)
    (λ known. first_import c.args.module.now _ c.in_ok-check_floats.ensures.rules (c.in_err-rows.ensures.first known))

pub returns-in_err-check_others-clause-first : goal.returns-in_err-check_others-clause-first
returns-in_err-check_others-clause-first c =
    exits_known (hook_rules c.args.module.now) _ _ c.from_residual-in_err-check_others.ensures.1 (λ e q. q)
    (λ known. first_other c.args.module.now c.in_ok-rows.rows _ c.in_ok-check_floats.ensures.rules
    c.in_ok-rows.ensures.rows
    (rw (sym c.as_slice-2.ensures.items) c.in_err-check_others.ensures.rules))

pub returns-clause-ruled : goal.returns-clause-ruled
returns-clause-ruled c =
    all_kept c.args.module.now c.in_ok-rows.rows c.in_ok-check_floats.ensures.rules c.in_ok-rows.ensures.rows
    (rw (sym c.as_slice-2.ensures.items) c.in_ok-check_others.ensures.rules)

pub check_others-requires-clause-counted : goal.check_others-requires-clause-counted
check_others-requires-clause-counted c =
    let n : length c.in_ok-rows.rows ≡ length c.args.module.now.imports =
    as_many c.args.module.now.imports c.in_ok-rows.rows c.in_ok-rows.ensures.rows.named in
    let m : length c.as_slice-2.result.now ≡ length c.in_ok-rows.rows = ap length c.as_slice-2.ensures.items in
    let most : length c.args.module.now.imports < 2 ^ 32 = c.requires.sound.imports.counted in
    omega (arith, n, m, most)

pub guards_of-requires-clause-counted : goal.guards_of-requires-clause-counted
guards_of-requires-clause-counted c =
    let n : length c.in_ok-rows.rows ≡ length c.args.module.now.imports =
    as_many c.args.module.now.imports c.in_ok-rows.rows c.in_ok-rows.ensures.rows.named in
    let most : length c.args.module.now.imports < 2 ^ 32 = c.requires.sound.imports.counted in
    omega (arith, n, most)

pub guards_of-requires-clause-hook : goal.guards_of-requires-clause-hook
guards_of-requires-clause-hook c = hook_kept c.args.module.now _ _ c.in_ok-check_others.ensures.rules
