use Rattle.hk_rules.proofs.Least.{exits_at, judges_tail, tail_rules}
use Rattle.wa_ops.specs.HookRules.{float_rules}
use Rattle.hk_rules.proofs.floats.check_floats.Goals as goal

pub returns-in_err-check_items : goal.returns-in_err-check_items
returns-in_err-check_items c = record {
  rules =
      exits_at (float_rules c.args.module.now) _ _ c.from_residual.ensures.1 (λ e q. q)
      c.in_err-check_items.ensures.rule;
}

pub returns-in_err-check_items-2 : goal.returns-in_err-check_items-2
returns-in_err-check_items-2 c = record {
  rules = judges_tail (float_rules c.args.module.now) _ c.in_ok-check_items.ensures.rule
      (exits_at (tail_rules (float_rules c.args.module.now)) _ _ c.from_residual-in_err-check_items-2.ensures.1
      (λ e q. q) c.in_err-check_items-2.ensures.rule);
}

pub returns-in_err-check_items-3 : goal.returns-in_err-check_items-3
returns-in_err-check_items-3 c = record {
  rules = judges_tail (float_rules c.args.module.now) _ c.in_ok-check_items.ensures.rule
      (judges_tail (tail_rules (float_rules c.args.module.now)) _ c.in_ok-check_items-2.ensures.rule
      (exits_at (tail_rules (tail_rules (float_rules c.args.module.now))) _ _
      c.from_residual-in_err-check_items-3.ensures.1 (λ e q. q) c.in_err-check_items-3.ensures.rule));
}

pub returns : goal.returns
returns c = record {
  rules = judges_tail (float_rules c.args.module.now) _ c.in_ok-check_items.ensures.rule
      (judges_tail (tail_rules (float_rules c.args.module.now)) _ c.in_ok-check_items-2.ensures.rule
      (judges_tail (tail_rules (tail_rules (float_rules c.args.module.now))) _ c.in_ok-check_items-3.ensures.rule
      (c.check_codes.ensures.rule)));
}
