-- Parts and edits of objects that stand as bytes, as functions of the bytes (xrpl.org, "Serialization Format"; the
-- limits are this project's own): the list of fields, the list's edit, and that list as it is written.
use Rattle.std.specs.Prelude.{ℕ, ◌+◌, ◌||◌, nat_lt, List, [], ◌∷◌, length, take, slice_get, Option, Some, None, ok_or}
use Rattle.std.specs.Prelude.{option_map, Ok, if◌then◌else◌}
use Rattle.xo_fields.specs.declared.field.FieldId.{FieldId}
use Rattle.xo_list.specs.declared.span.Span.{Span}
use Rattle.xo_list.specs.Item.{Item, spell, is_same, lookup, without, with_item}
use Rattle.xo_list.specs.Span.{places, place_of}
use Rattle.hk_reading.specs.Parsing.{fields_of, elements_of}
use Rattle.hk_calls.specs.declared.code.Code.TheVariants as code
use Rattle.hk_calls.specs.Rules.{OrCode, ◌>>=◌, ◌>>◌, refuse, found}

-- the fields of an object's bytes
unfoldable pub object_fields : List ℕ → Option (List Item)
object_fields bytes = fields_of bytes

-- the elements of an array's bytes
unfoldable pub array_elements : List ℕ → Option (List Item)
array_elements bytes = elements_of bytes

-- what bytes are read as
abbrev pub parsed : {A : Type 0} → Option A → OrCode A
parsed reading = ok_or reading code.ParseError

-- where the value of an object's field stands
abbrev pub subfield : List ℕ → FieldId → OrCode Span
subfield bytes f = do
  fields ← parsed (object_fields bytes)
  found (place_of f (places 0 fields))

-- where an element stands, with header and end mark, these bytes being before it
abbrev pub span_behind : List ℕ → Item → Span
span_behind before element = record { from = length before; to = length before + length (spell (element ∷ [])) }

-- where an array's element stands
abbrev pub subarray : List ℕ → ℕ → OrCode Span
subarray bytes index = do
  elements ← parsed (array_elements bytes)
  found (option_map (λ element. span_behind (spell (take index elements)) element) (slice_get elements index))

-- the field that is the only one, where it is this one
abbrev pub only : FieldId → Option (List Item) → Option Item
only f None = None
only f (Some []) = None
only f (Some (item ∷ [])) = if is_same item.field f then Some item else None
only f (Some (item ∷ next ∷ items)) = None

-- the object with one spelled field put into it
abbrev pub emplaced : List ℕ → List ℕ → FieldId → OrCode (List ℕ)
emplaced bytes put f = do
  refuse (nat_lt 16384 (length bytes) || nat_lt 4096 (length put)) code.TooBig
  fields ← parsed (object_fields bytes)
  item ← parsed (only f (object_fields put))
  Ok (spell (with_item item fields))

-- the object without a field
abbrev pub erased : List ℕ → FieldId → OrCode (List ℕ)
erased bytes f = do
  refuse (nat_lt 16384 (length bytes)) code.TooBig
  fields ← parsed (object_fields bytes)
  found (lookup f fields)
  Ok (spell (without f fields))
