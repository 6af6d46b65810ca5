use Rattle.wa_ops.proofs.RulesByName.{rules_by_name}
use Rattle.wa_ops.proofs.hook_rules.rules_by_name.Goals as goal

pub returns : goal.returns
returns c = record { law = rules_by_name }
