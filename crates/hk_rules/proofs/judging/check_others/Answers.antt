use Rattle.std.proofs.Common.{length, ◌++◌}
use Rattle.hk_rules.proofs.Least.{exits_front, judges_behind}
use Rattle.wa_ops.specs.Contexts.{callees}
use Rattle.wa_ops.specs.HookRules.{section_rules, link_rules, code_rules, guard_rules}
use Rattle.hk_rules.proofs.judging.check_others.Goals as goal

pub returns-in_err-check_sections : goal.returns-in_err-check_sections
returns-in_err-check_sections c = record {
  rules =
      exits_front (section_rules c.args.module.now)
      ((link_rules (length c.args.rows.now) c.args.module.now) ++
      ((code_rules (callees c.args.rows.now) c.args.module.now) ++
      (guard_rules (callees c.args.rows.now) c.args.module.now))) _ _ c.from_residual.ensures.1 (λ e q. q)
      c.in_err-check_sections.ensures.rules;
}

pub returns-in_err-check_links : goal.returns-in_err-check_links
returns-in_err-check_links c = record {
  rules =
      judges_behind (section_rules c.args.module.now)
      ((link_rules (length c.args.rows.now) c.args.module.now) ++
      ((code_rules (callees c.args.rows.now) c.args.module.now) ++
      (guard_rules (callees c.args.rows.now) c.args.module.now))) _ c.in_ok-check_sections.ensures.rules
      (exits_front (link_rules (length c.args.rows.now) c.args.module.now)
      ((code_rules (callees c.args.rows.now) c.args.module.now) ++
      (guard_rules (callees c.args.rows.now) c.args.module.now)) _ _ c.from_residual-in_err-check_links.ensures.1
      (λ e q. q) c.in_err-check_links.ensures.rules);
}

pub returns-in_err-check_instructions : goal.returns-in_err-check_instructions
returns-in_err-check_instructions c = record {
  rules =
      judges_behind (section_rules c.args.module.now)
      ((link_rules (length c.args.rows.now) c.args.module.now) ++
      ((code_rules (callees c.args.rows.now) c.args.module.now) ++
      (guard_rules (callees c.args.rows.now) c.args.module.now))) _ c.in_ok-check_sections.ensures.rules
      (judges_behind (link_rules (length c.args.rows.now) c.args.module.now)
      ((code_rules (callees c.args.rows.now) c.args.module.now) ++
      (guard_rules (callees c.args.rows.now) c.args.module.now)) _ c.in_ok-check_links.ensures.rules
      (exits_front (code_rules (callees c.args.rows.now) c.args.module.now)
      (guard_rules (callees c.args.rows.now) c.args.module.now) _ _ c.from_residual-in_err-check_instructions.ensures.1
      (λ e q. q) c.in_err-check_instructions.ensures.rules));
}

pub returns : goal.returns
returns c = record {
  rules =
      judges_behind (section_rules c.args.module.now)
      ((link_rules (length c.args.rows.now) c.args.module.now) ++
      ((code_rules (callees c.args.rows.now) c.args.module.now) ++
      (guard_rules (callees c.args.rows.now) c.args.module.now))) _ c.in_ok-check_sections.ensures.rules
      (judges_behind (link_rules (length c.args.rows.now) c.args.module.now)
      ((code_rules (callees c.args.rows.now) c.args.module.now) ++
      (guard_rules (callees c.args.rows.now) c.args.module.now)) _ c.in_ok-check_links.ensures.rules
      (judges_behind (code_rules (callees c.args.rows.now) c.args.module.now)
      (guard_rules (callees c.args.rows.now) c.args.module.now) _ c.in_ok-check_instructions.ensures.rules
      c.check_guards.ensures.rules));
}
