use Rattle.std.proofs.Common.{◌≡◌, ◌+◌, length}
use Rattle.std.specs.Option.{option_map}
use Rattle.std.specs.FinMap.{entries}
use Rattle.std.specs.Map.Iter.{deref_pair}
use Rattle.hk_state.specs.Reserves.{is_own}
use Rattle.hk_state.proofs.Walks.{run, on_from}
use Rattle.hk_final.specs.Final.{number_of}
use Rattle.hk_final.proofs.counts.number_of.Given as goal

-- the number so far, and that of the own entries from the next one on
abbrev pub invariant-loop-next : goal.invariant-loop-next
invariant-loop-next l =
    l.number + length (run (is_own l.first) (on_from (entries l.ledger.entries) (option_map deref_pair l.next)))
    ≡ number_of l.first l.ledger.entries

abbrev pub decreases-loop-next : goal.decreases-loop-next
decreases-loop-next l = length (on_from (entries l.ledger.entries) (option_map deref_pair l.next))
