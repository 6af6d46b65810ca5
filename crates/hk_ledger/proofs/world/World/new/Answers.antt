use Rattle.std.proofs.Common.{subst, sym}
use Rattle.hk_ledger.specs.World.{IsWhole}
use Rattle.hk_ledger.proofs.Whole.{new_whole, no_programs}
use Rattle.hk_ledger.proofs.world.World.new.Goals as goal

pub invariant_of-result : goal.invariant_of-result
invariant_of-result c = (
  subst (λ l. IsWhole l 0) (sym c.new.ensures.new) new_whole,
  no_programs c.new.result.entries c.new-2.result c.new-2.ensures.empty,
)
