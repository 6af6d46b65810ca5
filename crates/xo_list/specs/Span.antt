-- Spans of fields in the bytes of an object.
use Rattle.std.specs.Prelude.{◌≡◌, ℕ, ◌+◌, ◌-◌, ◌≤◌, List, [], ◌∷◌, ◌++◌, length, take, drop, map, All, Option, Some}
use Rattle.std.specs.Prelude.{None, slice_get, if◌then◌else◌}
use Rattle.xo_fields.specs.declared.field.FieldId.{FieldId}
use Rattle.xo_fields.specs.declared.form.Form.{Form}
use Rattle.xo_list.specs.declared.span.Span.{Span}
use Rattle.xo_list.specs.Item.{Item, body, opening, spell, is_same}
use Rattle.xo_list.specs.Value.{IsValue, IsObject}

-- the bytes from one place up to another
abbrev pub part : List ℕ → ℕ → ℕ → List ℕ
part bytes from to = take (to - from) (drop from bytes)

-- the fields that spans name in the bytes
abbrev pub item_of : List ℕ → FieldId × Span → Item
item_of bytes s = record { field = s.0; value = part bytes s.1.from s.1.to }

abbrev pub items_of : List ℕ → List (FieldId × Span) → List Item
items_of bytes spans = map (item_of bytes) spans

abbrev pub InRange : List ℕ → FieldId × Span → Type 0
InRange bytes s = (s.1.from ≤ s.1.to) × (s.1.to ≤ length bytes)

-- where a field's value stands, the field being spelled from one place on
abbrev pub value_span : ℕ → Item → Span
value_span at x = record { from = at + length (opening x); to = at + length (opening x) + length x.value }

-- where the values stand of fields that are spelled from one place on
abbrev pub places : ℕ → List Item → List (FieldId × Span)
places at [] = []
places at (x ∷ xs) = (x.field, value_span at x) ∷ places (at + length (spell (x ∷ []))) xs

-- the place of a field
abbrev pub place_of : FieldId → List (FieldId × Span) → Option Span
place_of f [] = None
place_of f (s ∷ spans) = if is_same s.0 f then Some s.1 else place_of f spans

-- one behind the other, within these places
abbrev pub InOrder : ℕ → ℕ → List (FieldId × Span) → Type 0
InOrder low high [] = low ≤ high
InOrder low high (s ∷ spans) = (low ≤ s.1.from) × (s.1.from ≤ s.1.to) × InOrder s.1.to high spans

-- the bytes begin with a value of that form
pub record Valued (room : ℕ) (form : Form) (bytes value rest : List ℕ) : Type 0 where
  pub fits : IsValue room form value
  pub whole : bytes ≡ body form value ++ rest

-- an object as contracts see it
pub record Seen : Type 0 where
  pub bytes : List ℕ
  pub spans : List (FieldId × Span)

abbrev pub items : Seen → List Item
items object = items_of object.bytes object.spans

-- the spans are the places of the object's fields
pub record IsRead (bytes : List ℕ) (spans : List (FieldId × Span)) : Type 0 where
  pub object : IsObject (items_of bytes spans) bytes
  pub exact : spans ≡ places 0 (items_of bytes spans)
  pub order : InOrder 0 (length bytes) spans
  pub ranges : All (InRange bytes) spans

-- what is found, where it should have this value
abbrev pub FindsValue : List ℕ → Option (List ℕ) → Option Span → Type 0
FindsValue bytes value None = value ≡ None
FindsValue bytes value (Some span) =
    (span.from ≤ span.to) × (span.to ≤ length bytes) × (value ≡ Some (part bytes span.from span.to))

-- what is found as an element: its header, fields and end mark, behind the elements before it
abbrev pub FindsElement : List ℕ → List Item → ℕ → Option Span → Type 0
FindsElement bytes elements index None = length elements ≤ index
FindsElement bytes elements index (Some span) =
    (span.from ≤ span.to) × (span.to ≤ length bytes)
    × ((element : Item) × (slice_get elements index ≡ Some element)
    × (part bytes span.from span.to ≡ spell (element ∷ [])))
    × (span.from ≡ length (spell (take index elements)))
