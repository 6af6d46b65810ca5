use Rattle.std.proofs.Common.{arith}
use Rattle.hk_items.specs.Checks.{checked_in}
use Rattle.hk_final.proofs.Reserved.{few}
use Rattle.hk_ledger.proofs.Units.{complete_units}
use Rattle.hk_ledger.proofs.world.World.final_lines.Goals as goal

pub final_lines-requires-clause-few : goal.final_lines-requires-clause-few
final_lines-requires-clause-few c =
    few c.self.inside.ledger.entries (complete_units checked_in c.self.inside.ledger.entries c.self.invariant.0.hooks)
    (λ id. let most = c.self.invariant.0.reserves id in omega (arith, most))
