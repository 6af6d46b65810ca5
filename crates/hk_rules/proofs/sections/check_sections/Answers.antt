use Rattle.hk_rules.proofs.Least.{exits_at, judges_tail, tail_rules}
use Rattle.wa_ops.specs.HookRules.{section_rules}
use Rattle.hk_rules.proofs.sections.check_sections.Goals as goal

pub returns-in_err-check_items : goal.returns-in_err-check_items
returns-in_err-check_items c = record {
  rules =
      exits_at (section_rules c.args.module.now) _ _ c.from_residual.ensures.1 (λ e q. q)
      c.in_err-check_items.ensures.rule;
}

pub returns-in_err-check_items-2 : goal.returns-in_err-check_items-2
returns-in_err-check_items-2 c = record {
  rules = judges_tail (section_rules c.args.module.now) _ c.in_ok-check_items.ensures.rule
      (exits_at (tail_rules (section_rules c.args.module.now)) _ _ c.from_residual-in_err-check_items-2.ensures.1
      (λ e q. q) c.in_err-check_items-2.ensures.rule);
}

pub returns-in_err-check_tables : goal.returns-in_err-check_tables
returns-in_err-check_tables c = record {
  rules = judges_tail (section_rules c.args.module.now) _ c.in_ok-check_items.ensures.rule
      (judges_tail (tail_rules (section_rules c.args.module.now)) _ c.in_ok-check_items-2.ensures.rule
      (exits_at (tail_rules (tail_rules (section_rules c.args.module.now))) _ _
      c.from_residual-in_err-check_tables.ensures.1 (λ e q. q) c.in_err-check_tables.ensures.rule));
}

pub returns-in_err-check_memories : goal.returns-in_err-check_memories
returns-in_err-check_memories c = record {
  rules = judges_tail (section_rules c.args.module.now) _ c.in_ok-check_items.ensures.rule
      (judges_tail (tail_rules (section_rules c.args.module.now)) _ c.in_ok-check_items-2.ensures.rule
      (judges_tail (tail_rules (tail_rules (section_rules c.args.module.now))) _ c.in_ok-check_tables.ensures.rule
      (exits_at (tail_rules (tail_rules (tail_rules (section_rules c.args.module.now)))) _ _
      c.from_residual-in_err-check_memories.ensures.1 (λ e q. q) c.in_err-check_memories.ensures.rule)));
}

pub returns : goal.returns
returns c = record {
  rules = judges_tail (section_rules c.args.module.now) _ c.in_ok-check_items.ensures.rule
      (judges_tail (tail_rules (section_rules c.args.module.now)) _ c.in_ok-check_items-2.ensures.rule
      (judges_tail (tail_rules (tail_rules (section_rules c.args.module.now))) _ c.in_ok-check_tables.ensures.rule
      (judges_tail (tail_rules (tail_rules (tail_rules (section_rules c.args.module.now)))) _
      c.in_ok-check_memories.ensures.rule
      (c.check_items-3.ensures.rule))));
}
