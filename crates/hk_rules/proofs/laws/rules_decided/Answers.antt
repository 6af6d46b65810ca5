use Rattle.hk_rules.proofs.Ruling.{rules_decided}
use Rattle.hk_rules.proofs.laws.rules_decided.Goals as goal

pub returns : goal.returns
returns c = record { law = rules_decided }
