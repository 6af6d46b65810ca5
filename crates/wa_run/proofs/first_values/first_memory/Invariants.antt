use Rattle.std.proofs.Common.{◌≡◌, ◌*◌, length, take}
use Rattle.wa_machine.specs.Starts.{first_memory}
use Rattle.wa_run.proofs.first_values.first_memory.Given as goal

abbrev pub invariant-loop-segment : goal.invariant-loop-segment
invariant-loop-segment l = record {
  written : l.memory ≡ first_memory l.pages (take l.segment-index l.segments);
  long : length l.memory ≡ l.pages * 65536;
}
