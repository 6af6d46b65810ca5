use Rattle.std.proofs.Common.{◌≡◌, length}
use Rattle.hk_state.specs.Entries.{with_all}
use Rattle.hk_state.specs.Room.{IsReady}
use Rattle.hk_state.proofs.commit.make_each.Given as goal

-- the writes that are left lead from here to the map with all of them made, and can be made
abbrev pub invariant-loop-key : goal.invariant-loop-key
invariant-loop-key l =
    (with_all l.entries l.writes.entries ≡ with_all l.fn.entries l.fn.writes.entries)
    × IsReady l.entries l.writes.entries

abbrev pub decreases-loop-key : goal.decreases-loop-key
decreases-loop-key l = length l.writes.entries
