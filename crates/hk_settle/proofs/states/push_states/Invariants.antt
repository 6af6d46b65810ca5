use Rattle.std.proofs.Common.{◌≡◌, ◌++◌, drop}
use Rattle.hk_state.specs.Rules.{state_keys}
use Rattle.hk_state.specs.Writes.{with_writes}
use Rattle.hk_events.specs.Printed.{state_lines}
use Rattle.hk_settle.proofs.states.push_states.Given as goal

-- the lines so far and those of the keys that are left
abbrev pub invariant-loop-place : goal.invariant-loop-place
invariant-loop-place l =
    l.lines ++ state_lines (with_writes l.ledger.entries l.overlay) (state_keys (drop l.place l.overlay.listed))
    ≡ l.initial.lines ++ state_lines (with_writes l.ledger.entries l.overlay) (state_keys l.overlay.listed)
