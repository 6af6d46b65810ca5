-- Edits of an object: the list's edit, written again. A list has one spelling.
use Rattle.std.specs.Prelude.{ℕ, List, [], ◌∷◌, IsSome}
use Rattle.xo_fields.specs.declared.field.FieldId.{FieldId}
use Rattle.xo_list.specs.Item.{Item, lookup, without, with_item}
use Rattle.xo_list.specs.Value.{IsObject}

-- the bytes are the field with this value, and no more
abbrev pub IsOne : List ℕ → FieldId → List ℕ → Type 0
IsOne bytes field value = IsObject (record { field = field; value = value } ∷ []) bytes

-- the bytes are exactly one spelled field of this number
abbrev pub IsField : List ℕ → FieldId → Type 0
IsField bytes field = (value : List ℕ) × IsOne bytes field value

-- the object with the field put in its place
abbrev pub Emplaces : List ℕ → List ℕ → FieldId → List ℕ → Type 0
Emplaces bytes put field edited =
    (items : List Item) × (value : List ℕ) × IsObject items bytes × IsOne put field value
    × IsObject (with_item (record { field = field; value = value }) items) edited

-- the object without the field, which it had
abbrev pub Erases : List ℕ → FieldId → List ℕ → Type 0
Erases bytes field edited =
    (items : List Item) × IsObject items bytes × IsSome (lookup field items) × IsObject (without field items) edited
