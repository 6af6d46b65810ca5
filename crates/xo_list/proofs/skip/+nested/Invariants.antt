use Rattle.std.proofs.Common.{◌+◌, ◌-◌, ◌*◌, ◌≤◌, length, drop}
use Rattle.xo_list.proofs.Leads.{Leads}
use Rattle.xo_list.proofs.skip.+nested.Given as goal

abbrev pub decreases-skip_fields : goal.decreases-skip_fields
decreases-skip_fields l = 2 * l.room + 1

abbrev pub decreases-skip_value : goal.decreases-skip_value
decreases-skip_value l = 2 * l.room

abbrev pub invariant-skip_fields-fields : goal.invariant-skip_fields-fields
invariant-skip_fields-fields l = record {
  within : l.at ≤ length l.bytes;
  after : l.from ≤ l.at;
  leads : Leads l.room l.place l.last (drop l.at l.bytes) (drop l.from l.bytes);
}

abbrev pub decreases-skip_fields-fields : goal.decreases-skip_fields-fields
decreases-skip_fields-fields l = length l.bytes - l.at
