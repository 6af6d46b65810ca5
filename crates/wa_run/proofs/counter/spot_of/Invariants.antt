use Rattle.std.proofs.Common.{◌<◌, ◌-◌, length}
use Rattle.wa_run.specs.Guards.{FindsAll, ComesTo}
use Rattle.wa_run.proofs.counter.spot_of.Given as goal

abbrev pub invariant-loop-place : goal.invariant-loop-place
invariant-loop-place l = record {
  inside : l.place < length l.counters;
  finds : FindsAll l.counters l.id l.place l.bits;
  comes : ComesTo l.counters l.id l.place l.bits;
}

abbrev pub decreases-loop-place : goal.decreases-loop-place
decreases-loop-place l = length l.counters - l.place
