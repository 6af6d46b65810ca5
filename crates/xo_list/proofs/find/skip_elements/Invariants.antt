use Rattle.std.proofs.Common.{List, ◌-◌, ◌≤◌, length}
use Rattle.xo_list.specs.Item.{Item}
use Rattle.xo_list.specs.Value.{IsArray}
use Rattle.xo_list.proofs.Walk.{Before}
use Rattle.xo_list.proofs.find.skip_elements.Given as goal

abbrev pub invariant-elements : goal.invariant-elements
invariant-elements l = record {
  within : l.at ≤ length l.bytes;
  few : l.passed ≤ l.count;
  before : (elements : List Item) → IsArray elements l.bytes → Before l.bytes elements l.passed l.at;
}

abbrev pub decreases-elements : goal.decreases-elements
decreases-elements l = l.count - l.passed
