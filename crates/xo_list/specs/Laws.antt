-- Laws of the definitions: bytes are read in one way, one list has one spelling, and edits of a list are objects again.
use Rattle.std.specs.Prelude.{◌≡◌, ℕ, suc, Bool, List, [], ◌∷◌}
use Rattle.xo_fields.specs.declared.field.FieldId.{FieldId}
use Rattle.xo_fields.specs.declared.form.Form.{Form}
use Rattle.xo_list.specs.declared.fault.ObjectFault.{ObjectFault}
use Rattle.xo_list.specs.declared.skip.Place.{Place}
use Rattle.xo_list.specs.Item.{Item, spell, without, with_item}
use Rattle.xo_list.specs.Value.{Stands, IsValue, IsObject, IsArray}
use Rattle.xo_list.specs.Fault.{Comes, BodyFails, FieldFails, Outcome}
use Rattle.xo_list.specs.List.{IsList}

-- bytes are read as one list of fields with one end, or with one fault
abbrev pub OneReading : Type 0
OneReading = (room : ℕ) (place : Place) (a b : List Item) (bytes : List ℕ) (o p : Outcome) →
    Comes (IsValue room) (BodyFails room) place 0 a bytes o → Comes (IsValue room) (BodyFails room) place 0 b bytes p →
    (a ≡ b) × (o ≡ p)

-- one field stands at the front of bytes, and then none fails there
abbrev pub OneField : Type 0
OneField =
    (room : ℕ) (array : Bool) (last : ℕ) (bytes : List ℕ) (x : Item) (tail : List ℕ) →
    Stands (IsValue room) array last x bytes tail →
    ((y : Item) (more : List ℕ) → Stands (IsValue room) array last y bytes more → (x ≡ y) × (tail ≡ more))
    × ((fault : ObjectFault) → FieldFails (BodyFails room) array last bytes fault → ⊥)

-- an object's bytes are its list, spelled; and what may stand in a list is spelled as an object
abbrev pub OneSpelling : Type 0
OneSpelling =
    ((items : List Item) (bytes : List ℕ) → IsObject items bytes → IsList items × (bytes ≡ spell items))
    × ((items : List Item) → IsList items → IsObject items (spell items))

-- an array's bytes are its elements, spelled
abbrev pub OneArray : Type 0
OneArray = (items : List Item) (bytes : List ℕ) → IsArray items bytes → bytes ≡ spell items

-- more may be open in a value
abbrev pub MoreRoom : Type 0
MoreRoom = (room : ℕ) (form : Form) (value : List ℕ) → IsValue room form value → IsValue (suc room) form value

-- the list without a field, and with one put in its place, is an object again
abbrev pub Edits : Type 0
Edits = (items : List Item) → IsList items →
    ((f : FieldId) → IsList (without f items)) × ((x : Item) → IsList (x ∷ []) → IsList (with_item x items))
