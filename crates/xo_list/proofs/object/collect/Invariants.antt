use Rattle.std.proofs.Common.{◌-◌, length}
use Rattle.xo_list.proofs.Collecting.{Collected}
use Rattle.xo_list.proofs.object.collect.Given as goal

abbrev pub invariant-fields : goal.invariant-fields
invariant-fields l = Collected l.room l.place l.bytes l.spans.items l.last l.at

abbrev pub decreases-fields : goal.decreases-fields
decreases-fields l = length l.bytes - l.at
