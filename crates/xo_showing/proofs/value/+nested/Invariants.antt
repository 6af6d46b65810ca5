use Rattle.std.proofs.Common.{◌≡◌, ◌+◌, ◌*◌, take, drop}
use Rattle.serde_json.specs.View.{items_view, members_view}
use Rattle.xo_list.specs.Span.{items_of}
use Rattle.xo_showing.specs.Showing.{members, elements, shown}
use Rattle.xo_showing.proofs.value.+nested.Given as goal

abbrev pub decreases-array_value : goal.decreases-array_value
decreases-array_value l = 4 * l.room + 3

abbrev pub decreases-object_value : goal.decreases-object_value
decreases-object_value l = 4 * l.room + 3

abbrev pub decreases-members_of : goal.decreases-members_of
decreases-members_of l = 4 * l.room + 2

abbrev pub decreases-field_value : goal.decreases-field_value
decreases-field_value l = 4 * l.room + 1

abbrev pub decreases-form_value : goal.decreases-form_value
decreases-form_value l = 4 * l.room

abbrev pub invariant-array_value-loop-at : goal.invariant-array_value-loop-at
invariant-array_value-loop-at l =
    items_view l.list.items ≡ elements (shown l.room) (items_of l.bytes (take l.at l.spans.items))

abbrev pub invariant-members_of-loop-at : goal.invariant-members_of-loop-at
invariant-members_of-loop-at l =
    members_view l.members.entries ≡ members (shown l.room) (items_of l.bytes (drop l.at l.spans))
