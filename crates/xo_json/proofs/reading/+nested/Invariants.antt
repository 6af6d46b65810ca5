use Rattle.std.proofs.Common.{◌≡◌, ◌+◌, ◌*◌, List, ◌++◌, drop}
use Rattle.serde_json.specs.View.{members_view, items_view}
use Rattle.serde_json.proofs.Views.{Entry}
use Rattle.xo_list.specs.Item.{Item, spell}
use Rattle.xo_told.specs.declared.fault.JsonFault.{JsonFault}
use Rattle.xo_told.specs.Faults.{ValueFails, MembersFail, ItemsFail}
use Rattle.xo_json.specs.Parts.{ShowsElements}
use Rattle.xo_told.specs.Reading.{ShowsValue}
use Rattle.xo_json.proofs.Walking.{Held}
use Rattle.xo_json.proofs.reading.+nested.Given as goal

abbrev pub decreases-read_value : goal.decreases-read_value
decreases-read_value l = 5 * l.room + 1

abbrev pub decreases-read_object : goal.decreases-read_object
decreases-read_object l = 5 * l.room

abbrev pub decreases-read_array : goal.decreases-read_array
decreases-read_array l = 5 * l.room

abbrev pub decreases-read_members : goal.decreases-read_members
decreases-read_members l = 5 * l.room + 3

abbrev pub decreases-read_member : goal.decreases-read_member
decreases-read_member l = 5 * l.room + 2

abbrev pub decreases-read_elements : goal.decreases-read_elements
decreases-read_elements l = 5 * l.room + 4

abbrev pub decreases-read_element : goal.decreases-read_element
decreases-read_element l = 5 * l.room + 3

abbrev pub decreases-read_inner : goal.decreases-read_inner
decreases-read_inner l = 5 * l.room + 2

-- the members so far show the fields that were put, and where one of the rest fails first, so do all
abbrev pub invariant-read_members-loop-key : goal.invariant-read_members-loop-key
invariant-read_members-loop-key l =
    (done : List Entry) × (l.members.entries ≡ done ++ l.key-iterator) × Held l.room l.fields (members_view done)
    × ((fault : JsonFault) → MembersFail (ValueFails l.room) (ShowsValue l.room) (members_view l.key-iterator) fault →
    MembersFail (ValueFails l.room) (ShowsValue l.room) (members_view l.members.entries) fault)

-- the elements so far, before any that show the rest, show all; and where one of the rest fails first, so do all
abbrev pub invariant-read_elements-loop-value : goal.invariant-read_elements-loop-value
invariant-read_elements-loop-value l =
    (xs : List Item) × (l.bytes.items ≡ spell xs)
    × ((ys : List Item) → ShowsElements l.room (items_view (drop l.value-index l.value-items)) ys →
    ShowsElements l.room (items_view l.value-items) (xs ++ ys))
    × ((fault : JsonFault) →
    ItemsFail (ValueFails l.room) (ShowsValue l.room) (items_view (drop l.value-index l.value-items)) fault →
    ItemsFail (ValueFails l.room) (ShowsValue l.room) (items_view l.value-items) fault)
