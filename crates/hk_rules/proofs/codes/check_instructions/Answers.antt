use Rattle.hk_rules.proofs.Least.{exits_at, judges_tail, tail_rules}
use Rattle.wa_ops.specs.HookRules.{code_rules}
use Rattle.wa_ops.specs.Contexts.{callees}
use Rattle.hk_rules.proofs.codes.check_instructions.Goals as goal

pub returns-in_err-check_items : goal.returns-in_err-check_items
returns-in_err-check_items c = record {
  rules =
      exits_at (code_rules (callees c.args.rows.now) c.args.module.now) _ _ c.from_residual.ensures.1 (λ e q. q)
      c.in_err-check_items.ensures.rule;
}

pub returns-in_err-check_codes : goal.returns-in_err-check_codes
returns-in_err-check_codes c = record {
  rules = judges_tail (code_rules (callees c.args.rows.now) c.args.module.now) _ c.in_ok-check_items.ensures.rule
      (exits_at (tail_rules (code_rules (callees c.args.rows.now) c.args.module.now)) _ _
      c.from_residual-in_err-check_codes.ensures.1 (λ e q. q) c.in_err-check_codes.ensures.rule);
}

pub returns-in_err-check_codes-2 : goal.returns-in_err-check_codes-2
returns-in_err-check_codes-2 c = record {
  rules = judges_tail (code_rules (callees c.args.rows.now) c.args.module.now) _ c.in_ok-check_items.ensures.rule
      (judges_tail (tail_rules (code_rules (callees c.args.rows.now) c.args.module.now)) _
      c.in_ok-check_codes.ensures.rule
      (exits_at (tail_rules (tail_rules (code_rules (callees c.args.rows.now) c.args.module.now))) _ _
      c.from_residual-in_err-check_codes-2.ensures.1 (λ e q. q) c.in_err-check_codes-2.ensures.rule));
}

pub returns : goal.returns
returns c = record {
  rules = judges_tail (code_rules (callees c.args.rows.now) c.args.module.now) _ c.in_ok-check_items.ensures.rule
      (judges_tail (tail_rules (code_rules (callees c.args.rows.now) c.args.module.now)) _
      c.in_ok-check_codes.ensures.rule
      (judges_tail (tail_rules (tail_rules (code_rules (callees c.args.rows.now) c.args.module.now))) _
      c.in_ok-check_codes-2.ensures.rule
      (c.check_codes-3.ensures.rule)));
}
