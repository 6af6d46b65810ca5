use Rattle.std.proofs.Common.{◌≡◌, length}
use Rattle.std.specs.List.{find}
use Rattle.std.specs.Option.{option_map}
use Rattle.std.specs.FinMap.{entries}
use Rattle.std.specs.Map.Iter.{deref_pair}
use Rattle.hk_state.specs.Writes.{with_writes}
use Rattle.hk_state.proofs.Walks.{run, on_from}
use Rattle.hk_api.specs.Keylets.{is_of, has_index, entry_at}
use Rattle.hk_api.proofs.keylets.entry_at.Given as goal

-- what is sought is the first of the entries from the next one on
abbrev pub invariant-loop-next : goal.invariant-loop-next
invariant-loop-next l =
    find (λ e. has_index l.index e.0)
    (run (is_of l.first) (on_from (entries (with_writes l.ledger.entries l.overlay)) (option_map deref_pair l.next)))
    ≡ entry_at (with_writes l.ledger.entries l.overlay) l.first l.index

abbrev pub decreases-loop-next : goal.decreases-loop-next
decreases-loop-next l =
    length (on_from (entries (with_writes l.ledger.entries l.overlay)) (option_map deref_pair l.next))
