use Rattle.std.proofs.Common.{◌≡◌, ◌++◌, take}
use Rattle.hk_replay.specs.Replaying.{texts}
use Rattle.hk_replay.proofs.replaying.print_lines.Given as goal

abbrev pub invariant-loop-line : goal.invariant-loop-line
invariant-loop-line l = l.out.items ≡ l.initial.out.items ++ texts (take l.line-index l.lines)
