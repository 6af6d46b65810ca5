use Rattle.hk_rules.proofs.Least.{exits_at, judges_tail, tail_rules}
use Rattle.wa_ops.specs.HookRules.{link_rules}
use Rattle.hk_rules.proofs.exports.check_links.Goals as goal

pub returns-in_err-check_exports : goal.returns-in_err-check_exports
returns-in_err-check_exports c = record {
  rules =
      exits_at (link_rules c.args.imported c.args.module.now) _ _ c.from_residual.ensures.1 (λ e q. q)
      c.in_err-check_exports.ensures.rule;
}

pub returns-in_err-check_start : goal.returns-in_err-check_start
returns-in_err-check_start c = record {
  rules = judges_tail (link_rules c.args.imported c.args.module.now) _ c.in_ok-check_exports.ensures.rule
      (exits_at (tail_rules (link_rules c.args.imported c.args.module.now)) _ _
      c.from_residual-in_err-check_start.ensures.1 (λ e q. q) c.in_err-check_start.ensures.rule);
}

pub returns-in_err-check_elements : goal.returns-in_err-check_elements
returns-in_err-check_elements c = record {
  rules = judges_tail (link_rules c.args.imported c.args.module.now) _ c.in_ok-check_exports.ensures.rule
      (judges_tail (tail_rules (link_rules c.args.imported c.args.module.now)) _ c.in_ok-check_start.ensures.rule
      (exits_at (tail_rules (tail_rules (link_rules c.args.imported c.args.module.now))) _ _
      c.from_residual-in_err-check_elements.ensures.1 (λ e q. q) c.in_err-check_elements.ensures.rule));
}

pub returns : goal.returns
returns c = record {
  rules = judges_tail (link_rules c.args.imported c.args.module.now) _ c.in_ok-check_exports.ensures.rule
      (judges_tail (tail_rules (link_rules c.args.imported c.args.module.now)) _ c.in_ok-check_start.ensures.rule
      (judges_tail (tail_rules (tail_rules (link_rules c.args.imported c.args.module.now))) _
      c.in_ok-check_elements.ensures.rule
      (c.check_items.ensures.rule)));
}
