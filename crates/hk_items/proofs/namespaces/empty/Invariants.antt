use Rattle.std.proofs.Common.{length}
use Rattle.std.specs.FinMap.{entries}
use Rattle.hk_state.specs.Writes.{with_writes}
use Rattle.hk_items.proofs.Walked.{rest, Walking}
use Rattle.hk_items.proofs.namespaces.empty.Given as goal

abbrev pub invariant-loop-next : goal.invariant-loop-next
invariant-loop-next l = Walking l.owner l.namespace l.ledger.entries l.fn.overlay l.after l.next

abbrev pub decreases-loop-next : goal.decreases-loop-next
decreases-loop-next l = length (rest l.owner l.namespace (entries (with_writes l.ledger.entries l.fn.overlay)) l.next)
