use Rattle.xo_told.proofs.Telling.{tells_faults, never_memory}
use Rattle.xo_told.proofs.laws.told_refuses.Goals as goal

pub returns-clause-law : goal.returns-clause-law
returns-clause-law c = tells_faults

pub returns-clause-never : goal.returns-clause-never
returns-clause-never c = never_memory
