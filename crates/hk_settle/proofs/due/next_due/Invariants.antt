use Rattle.std.proofs.Common.{◌-◌, ◌^◌}
use Rattle.hk_settle.proofs.Walking.{Ahead}
use Rattle.hk_settle.proofs.due.next_due.Given as goal

abbrev pub invariant-loop-number : goal.invariant-loop-number
invariant-loop-number l = Ahead l.ledger l.from l.next

abbrev pub decreases-loop-number : goal.decreases-loop-number
decreases-loop-number l = 2 ^ 64 - l.next
