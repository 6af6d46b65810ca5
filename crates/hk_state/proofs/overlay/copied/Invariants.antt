use Rattle.std.proofs.Common.{◌≡◌, ◌++◌}
use Rattle.hk_state.proofs.overlay.copied.Given as goal

-- the copy so far, and what is left
abbrev pub invariant-loop-key : goal.invariant-loop-key
invariant-loop-key l = l.copied.entries ++ l.key-iterator ≡ l.writes.entries
