use Rattle.hk_rules.proofs.Least.{exits_at, judges_tail}
use Rattle.wa_ops.specs.HookRules.{guard_rules}
use Rattle.wa_ops.specs.Contexts.{callees}
use Rattle.hk_rules.proofs.codes.check_guards.Goals as goal

pub returns-in_err-check_codes : goal.returns-in_err-check_codes
returns-in_err-check_codes c = record {
  rules =
      exits_at (guard_rules (callees c.args.rows.now) c.args.module.now) _ _ c.from_residual.ensures.1 (λ e q. q)
      c.in_err-check_codes.ensures.rule;
}

pub returns : goal.returns
returns c = record {
  rules = judges_tail (guard_rules (callees c.args.rows.now) c.args.module.now) _ c.in_ok-check_codes.ensures.rule
      (c.check_codes-2.ensures.rule);
}
