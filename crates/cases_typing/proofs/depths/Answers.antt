use Rattle.std.proofs.Common.{subst, sym}
use Rattle.hk_bound.proofs.Refusing.{all_bodies}
use Rattle.wa_validate.specs.Needs.{AllRowTypes}
use Rattle.cases_typing.proofs.depths.Goals as goal

pub validate-requires-clause-imports : goal.validate-requires-clause-imports
validate-requires-clause-imports c = subst (AllRowTypes c.args.module.now.types) (sym c.requires.alone) tt

pub validate-requires-clause-bodies : goal.validate-requires-clause-bodies
validate-requires-clause-bodies c = all_bodies c.args.module.now.codes c.requires.sound.codes
