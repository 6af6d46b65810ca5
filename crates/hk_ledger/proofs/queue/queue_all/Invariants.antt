use Rattle.std.proofs.Common.{◌≡◌, ◌+◌, length}
use Rattle.std.specs.Vec.Iter.{into_iter_items, into_iter_len}
use Rattle.hk_events.specs.Overlays.{all_queued}
use Rattle.hk_ledger.proofs.queue.queue_all.Given as goal

-- the emissions that are left make of the overlay what all of them make
abbrev pub invariant-loop-emission : goal.invariant-loop-emission
invariant-loop-emission l =
    (all_queued l.overlay l.number (into_iter_items l.emission-iterator)
    ≡ all_queued l.initial.overlay l.first (into_iter_items l.initial.emission-iterator))
    × (l.number + length (into_iter_items l.emission-iterator)
    ≡ l.first + length (into_iter_items l.initial.emission-iterator))
    × (into_iter_len l.emission-iterator ≡ length (into_iter_items l.emission-iterator))
