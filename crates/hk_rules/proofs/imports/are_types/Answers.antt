use Rattle.hk_rules.proofs.Types.{other_length}
use Rattle.hk_rules.proofs.imports.are_types.Goals as goal

pub returns-then-kinds-wanted : goal.returns-then-kinds-wanted
returns-then-kinds-wanted c = record { same = other_length _ _ c.if-kinds-wanted.true }
