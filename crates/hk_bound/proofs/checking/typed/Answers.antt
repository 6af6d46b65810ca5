use Rattle.hk_bound.proofs.Refusing.{all_bodies}
use Rattle.hk_bound.proofs.Ruled.{ruled_imports}
use Rattle.hk_bound.proofs.checking.typed.Goals as goal

pub validate-requires-clause-imports : goal.validate-requires-clause-imports
validate-requires-clause-imports c = ruled_imports c.args.module.now c.requires.ruled

pub validate-requires-clause-bodies : goal.validate-requires-clause-bodies
validate-requires-clause-bodies c = all_bodies c.args.module.now.codes c.requires.sound.codes
