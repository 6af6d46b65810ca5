use Rattle.hk_state.specs.Room.{Adds, is_put}
use Rattle.hk_state.specs.contracts.key.KeyPartialEq.TheImpl.{eq-value}
use Rattle.hk_state.proofs.Kept.{alike}
use Rattle.hk_state.proofs.Listing.{IsEnd}
use Rattle.hk_state.proofs.Making.{IsReadyBut}
use Rattle.hk_state.proofs.commit.make_room.Given as goal

-- what was added so far, and that the writes before those that are left are ready
abbrev pub invariant-loop-key : goal.invariant-loop-key
invariant-loop-key l =
    Adds l.fn.entries (is_put l.writes.entries) l.entries l.added.items
    × IsReadyBut l.entries l.writes.entries l.key-iterator × IsEnd eq-value.it alike l.key-iterator l.writes.entries
