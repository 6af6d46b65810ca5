-- Where a field's value and an element stand in bytes, and that there is none.
use Rattle.std.specs.Prelude.{◌≡◌, ℕ, ◌≤◌, List, [], ◌∷◌, ◌++◌, length, take, Some, None}
use Rattle.xo_fields.specs.declared.field.FieldId.{FieldId}
use Rattle.xo_fields.specs.Form.{form_at}
use Rattle.xo_fields.specs.Header.{header}
use Rattle.xo_list.specs.declared.span.Span.{Span}
use Rattle.xo_list.specs.Item.{Item, lead, spell, lookup}
use Rattle.xo_list.specs.Span.{part}
use Rattle.xo_list.specs.Value.{IsObject, IsArray}

-- the object has the field, and its value stands there, behind the fields before, its header and its length
abbrev pub IsFieldAt : List ℕ → FieldId → Span → Type 0
IsFieldAt bytes field span =
    (before : List Item) × (after : List Item) × (value : List ℕ)
    × IsObject (before ++ record { field = field; value = value } ∷ after) bytes
    × (lookup field (before ++ record { field = field; value = value } ∷ after) ≡ Some value)
    × (take span.from bytes ≡ spell before ++ (header field ++ lead (form_at field.kind) value))
    × (part bytes span.from span.to ≡ value)
    × (span.from ≤ span.to) × (span.to ≤ length bytes)

-- an object without the field
abbrev pub LacksField : List ℕ → FieldId → Type 0
LacksField bytes field = (items : List Item) × IsObject items bytes × (lookup field items ≡ None)

-- the array has so many elements before this one, which stands there as it is spelled
abbrev pub IsElementAt : List ℕ → ℕ → Span → Type 0
IsElementAt bytes index span =
    (before : List Item) × (after : List Item) × (element : Item) × IsArray (before ++ element ∷ after) bytes
    × (length before ≡ index)
    × (take span.from bytes ≡ spell before) × (part bytes span.from span.to ≡ spell (element ∷ []))
    × (span.from ≤ span.to) × (span.to ≤ length bytes)

-- an array of no more elements than that
abbrev pub LacksElement : List ℕ → ℕ → Type 0
LacksElement bytes index = (elements : List Item) × IsArray elements bytes × (length elements ≤ index)
