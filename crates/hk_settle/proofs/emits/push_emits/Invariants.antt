use Rattle.std.proofs.Common.{◌≡◌, ◌+◌, ◌++◌, drop}
use Rattle.hk_events.specs.Printed.{emit_lines}
use Rattle.hk_settle.proofs.emits.push_emits.Given as goal

-- the lines so far and those of the emissions that are left, and the next number
abbrev pub invariant-loop-emission : goal.invariant-loop-emission
invariant-loop-emission l =
    (l.lines ++ emit_lines l.number (drop l.emission-index l.emissions)
    ≡ l.initial.lines ++ emit_lines l.first l.emissions)
    × (l.number ≡ l.first + l.emission-index)
