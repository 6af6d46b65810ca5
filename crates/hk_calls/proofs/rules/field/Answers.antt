use Rattle.hk_calls.proofs.RuleLemmas.{field_found, field_absent}
use Rattle.hk_calls.proofs.rules.field.Goals as goal

pub returns-in-Some : goal.returns-in-Some
returns-in-Some c = field_found _ c.args.number c.in-Some.ensures.found

pub returns-in-None : goal.returns-in-None
returns-in-None c = field_absent c.args.number c.in-None.ensures.none
