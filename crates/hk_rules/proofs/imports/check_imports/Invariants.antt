use Rattle.hk_rules.proofs.Importing.{Imported}
use Rattle.hk_rules.proofs.imports.check_imports.Given as goal

abbrev pub invariant-loop-index : goal.invariant-loop-index
invariant-loop-index l = Imported l.types l.imports l.index l.rows
