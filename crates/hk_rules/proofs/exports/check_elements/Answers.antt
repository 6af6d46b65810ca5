use Rattle.std.proofs.Common.{◌∙◌, sym}
use Rattle.wa_ops.specs.declared.rule_fault.RuleFault.TheVariants as fault
use Rattle.hk_rules.proofs.Least.{module_found, module_kept}
use Rattle.hk_rules.proofs.exports.check_elements.Goals as goal

pub returns-then-broken : goal.returns-then-broken
returns-then-broken c = record {
  rule = module_found fault.Elements _ (sym c.has_elements-broken.ensures.bad ∙ c.if-broken.true);
}

pub returns : goal.returns
returns c = record { rule = module_kept fault.Elements _ (sym c.has_elements-broken.ensures.bad ∙ c.if-broken.false) }
