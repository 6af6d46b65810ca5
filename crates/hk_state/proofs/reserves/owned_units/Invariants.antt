use Rattle.std.proofs.Common.{◌≡◌, ◌+◌, length}
use Rattle.std.specs.Option.{option_map}
use Rattle.std.specs.FinMap.{entries}
use Rattle.std.specs.Map.Iter.{deref_pair}
use Rattle.hk_state.specs.Reserves.{is_own, own_units}
use Rattle.hk_state.specs.Sums.{sum, total}
use Rattle.hk_state.specs.Writes.{with_writes}
use Rattle.hk_state.proofs.Owned.{entry_units}
use Rattle.hk_state.proofs.Walks.{run, on_from}
use Rattle.hk_state.proofs.reserves.owned_units.Given as goal

-- the units so far, and those of the entries from the next one on
abbrev pub invariant-loop-next : goal.invariant-loop-next
invariant-loop-next l =
    l.units +
    total entry_units
    (run (is_own l.first) (on_from (entries (with_writes l.ledger.entries l.overlay)) (option_map deref_pair l.next)))
    ≡ sum (own_units l.first) (with_writes l.ledger.entries l.overlay)

abbrev pub decreases-loop-next : goal.decreases-loop-next
decreases-loop-next l =
    length (on_from (entries (with_writes l.ledger.entries l.overlay)) (option_map deref_pair l.next))
