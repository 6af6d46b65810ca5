use Rattle.std.proofs.Common.{◌∙◌, sym}
use Rattle.wa_ops.specs.declared.rule_fault.RuleFault.TheVariants as fault
use Rattle.hk_rules.proofs.Least.{module_found, module_kept}
use Rattle.hk_rules.proofs.sections.check_memories.Goals as goal

pub returns-then-broken : goal.returns-then-broken
returns-then-broken c = record {
  rule = module_found fault.BadMemory _ (sym c.are_bad_memories-broken.ensures.bad ∙ c.if-broken.true);
}

pub returns : goal.returns
returns c = record {
  rule = module_kept fault.BadMemory _ (sym c.are_bad_memories-broken.ensures.bad ∙ c.if-broken.false);
}
