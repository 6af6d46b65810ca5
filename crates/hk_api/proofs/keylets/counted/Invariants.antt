use Rattle.std.proofs.Common.{◌≡◌, ◌+◌, ◌-◌, ◌^◌, ◌<◌, min, length}
use Rattle.std.specs.Option.{option_map}
use Rattle.std.specs.FinMap.{entries}
use Rattle.std.specs.Map.Iter.{deref_pair}
use Rattle.hk_state.specs.Reserves.{is_own}
use Rattle.hk_state.specs.Writes.{with_writes}
use Rattle.hk_state.proofs.Walks.{run, on_from}
use Rattle.hk_api.specs.Keylets.{listed}
use Rattle.hk_api.proofs.keylets.counted.Given as goal

-- the count so far, and the entries from the next one on
abbrev pub invariant-loop-next : goal.invariant-loop-next
invariant-loop-next l =
    (min
    (l.count +
    length
    (run (is_own l.first) (on_from (entries (with_writes l.ledger.entries l.overlay)) (option_map deref_pair l.next))))
    (2 ^ 32 - 1)
    ≡ min (l.before + length (listed (is_own l.first) (with_writes l.ledger.entries l.overlay))) (2 ^ 32 - 1))
    × (l.count < 2 ^ 32)

abbrev pub decreases-loop-next : goal.decreases-loop-next
decreases-loop-next l =
    length (on_from (entries (with_writes l.ledger.entries l.overlay)) (option_map deref_pair l.next))
