-- The fields that stand in bytes are those that are found there.
use Rattle.std.proofs.Common.{◌≡◌, ℕ, Bool, true, false, List, [], ◌∷◌, Some}
use Rattle.xo_fields.proofs.Cases.{none_some, some_same}
use Rattle.xo_list.specs.Item.{Item}
use Rattle.xo_list.specs.Value.{Whole, IsValue}
use Rattle.hk_reading.specs.Parsing.{all_at, value_at, whole}
use Rattle.hk_reading.proofs.FieldsFound.{whole_found, value_found}
use Rattle.xo_showing.specs.Showing.{fields_in, elements_in}

whole_is : (items found : List Item) (rest : List ℕ) → whole items rest ≡ Some found → items ≡ found
whole_is items found [] e = some_same items found e
whole_is items found (first ∷ rest) e = none_some found e

pub found_in : (room : ℕ) (array : Bool) (items : List Item) (bytes : List ℕ) → Whole (IsValue room) array items bytes →
    (all_at (value_at room) array bytes).0 ≡ items
found_in room array items bytes h =
    whole_is _ items _ ((whole_found (IsValue room) array (value_at room) (value_found room) bytes).complete items h)

pub fields_are : (room : ℕ) (items : List Item) (bytes : List ℕ) → Whole (IsValue room) false items bytes →
    fields_in room bytes ≡ items
fields_are room items bytes h = found_in room false items bytes h

pub elements_are : (room : ℕ) (items : List Item) (bytes : List ℕ) → Whole (IsValue room) true items bytes →
    elements_in room bytes ≡ items
elements_are room items bytes h = found_in room true items bytes h
