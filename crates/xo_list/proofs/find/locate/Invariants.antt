use Rattle.std.proofs.Common.{List, ◌-◌, length}
use Rattle.xo_list.specs.Item.{Item}
use Rattle.xo_list.specs.Value.{IsObject}
use Rattle.xo_list.proofs.Walk.{Behind}
use Rattle.xo_list.proofs.find.locate.Given as goal

abbrev pub invariant-fields : goal.invariant-fields
invariant-fields l = (items : List Item) → IsObject items l.bytes → Behind l.bytes l.fn.field items l.last l.at

abbrev pub decreases-fields : goal.decreases-fields
decreases-fields l = length l.bytes - l.at
