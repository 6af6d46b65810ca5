use Rattle.std.proofs.Common.{◌≡◌, ◌-◌, ◌^◌}
use Rattle.hk_engine.specs.Engine.{engine_of}
use Rattle.hk_ledger.proofs.Opening.{Underway}
use Rattle.hk_ledger.proofs.settlements.settle_due.Given as goal

-- what is left comes to what all came to at first
abbrev pub invariant-loop-number : goal.invariant-loop-number
invariant-loop-number g l =
    Underway (engine_of g.T.Transactor.rules) l.initial.world.ledger l.world.ledger l.initial.lines l.lines l.from
    × (l.world.opening ≡ l.initial.world.opening)

abbrev pub decreases-loop-number : goal.decreases-loop-number
decreases-loop-number g l = 2 ^ 64 - l.from
