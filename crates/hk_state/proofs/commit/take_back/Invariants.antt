use Rattle.std.proofs.Common.{length, Bool}
use Rattle.hk_state.specs.declared.key.Key.{Key}
use Rattle.hk_state.specs.Entries.{Entries}
use Rattle.hk_state.specs.Room.{Adds}
use Rattle.hk_state.proofs.commit.take_back.Given as goal

-- the keys that are left are those that are still there
abbrev pub invariant-loop-key : goal.invariant-loop-key
invariant-loop-key l =
    (base : Entries) (puts : Key → Bool) → Adds base puts l.fn.entries l.fn.added.items →
    Adds base puts l.entries l.added.items

abbrev pub decreases-loop-key : goal.decreases-loop-key
decreases-loop-key l = length l.added.items
