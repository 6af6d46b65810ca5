-- The fields that a JSON text shows, or why it shows none, as a function: members are taken in the order of their keys
-- and elements in their own, and the first that fails decides.
use Rattle.std.specs.Prelude.{ℕ, zero, suc, ◌&&◌, bytes_eq, List, [], ◌∷◌, Option, Some, None, Result, Ok, Err}
use Rattle.std.specs.Prelude.{if◌then◌else◌}
use Rattle.std.specs.Option.{option_map}
use Rattle.std.specs.Str.{is_utf8}
use Rattle.serde_json.specs.Data.{Data, array, object, Items, no_items, item, Members, no_members, member}
use Rattle.serde_json.specs.Read.{read}
use Rattle.xo_fields.specs.declared.field.FieldId.{FieldId}
use Rattle.xo_fields.specs.declared.form.Form.{Form}
use Rattle.xo_fields.specs.declared.form.Form.TheVariants.{Fixed, Money, Blob, Account, Object, Array}
use Rattle.xo_fields.specs.Form.{form_at}
use Rattle.xo_list.specs.Item.{Item, spell, with_item}
use Rattle.hk_reading.specs.Amounts.{only_if}
use Rattle.hk_reading.specs.Parsing.{is_field}
use Rattle.xo_showing.specs.Key.{key}
use Rattle.xo_showing.specs.Showing.{shown}
use Rattle.xo_showing.specs.Shows.{lowered}
use Rattle.xo_told.specs.declared.fault.JsonFault.{JsonFault}
use Rattle.xo_told.specs.declared.fault.JsonFault.TheVariants.{BadText, BadKey, BadValue, TooDeep}
use Rattle.xo_told.specs.Guesses.{field_guess, value_guess, are_bytes, is_plain, same_data}

-- what is told, or a fault
abbrev pub Told : Type 0 → Type 0
Told A = Result A JsonFault

abbrev pub told_then : {A B : Type 0} → (A → Told B) → Told A → Told B
told_then next (Ok x) = next x
told_then next (Err fault) = Err fault

abbrev pub told_map : {A B : Type 0} → (A → B) → Told A → Told B
told_map f (Ok x) = Ok (f x)
told_map f (Err fault) = Err fault

-- how a value of a form is told
abbrev pub Teller : Type 0
Teller = Form → Data → Told (List ℕ)

-- a field with its form
abbrev pub Keyed : Type 0
Keyed = FieldId × Form

-- the field, where its key is this
abbrev pub field_if : List ℕ → FieldId → Option Keyed
field_if text f = only_if (is_field f && bytes_eq (key f) text) (option_map (λ form. (f, form)) (form_at f.kind))

abbrev pub field_of : List ℕ → Option Keyed
field_of text = field_if text (field_guess text)

-- a value without fields in it, where it shows so
abbrev pub plain_if : Form → Data → List ℕ → Told (List ℕ)
plain_if form d value =
    if are_bytes value && (is_plain form value && same_data (shown 0 form value) d) then Ok value else Err BadValue

abbrev pub plain_told : Teller
plain_told form d = plain_if form (lowered d) (value_guess form (lowered d))

-- the field of a key, with its value
abbrev pub item_of : FieldId → List ℕ → Item
item_of f bytes = record { field = f; value = bytes }

abbrev pub member_told : Teller → Option Keyed → Data → Told Item
member_told tell None d = Err BadKey
member_told tell (Some keyed) d = told_map (item_of keyed.0) (tell keyed.1 d)

abbrev pub members_told : Teller → Members → Told (List Item)
members_told tell no_members = Ok []
members_told tell (member text d ms) =
    told_then (λ x. told_map (with_item x) (members_told tell ms)) (member_told tell (field_of text) d)

-- the fields of an object
abbrev pub fields_told : Teller → Data → Told (List Item)
fields_told tell (object ms) = members_told tell ms
fields_told tell other = Err BadValue

-- an element is an object with one member, a field of kind 14
abbrev pub if_object : Option Keyed → Option Keyed
if_object None = None
if_object (Some (f, Object)) = Some (f, Object)
if_object (Some other) = None

abbrev pub only_told : Teller → Members → Told Item
only_told tell (member text d no_members) = member_told tell (if_object (field_of text)) d
only_told tell other = Err BadValue

abbrev pub element_told : Teller → Data → Told Item
element_told tell (object ms) = only_told tell ms
element_told tell other = Err BadValue

abbrev pub items_told : Teller → Items → Told (List Item)
items_told tell no_items = Ok []
items_told tell (item d ds) = told_then (λ x. told_map (λ xs. x ∷ xs) (items_told tell ds)) (element_told tell d)

-- the elements of an array
abbrev pub elements_told : Teller → Data → Told (List Item)
elements_told tell (array ds) = items_told tell ds
elements_told tell other = Err BadValue

-- the bytes of a value, in which so many objects and arrays may be open
abbrev pub value_told : ℕ → Teller
value_told room (Fixed size) d = plain_told (Fixed size) d
value_told room Money d = plain_told Money d
value_told room Blob d = plain_told Blob d
value_told room Account d = plain_told Account d
value_told zero Object d = Err TooDeep
value_told zero Array d = Err TooDeep
value_told (suc room) Object d = told_map spell (fields_told (value_told room) d)
value_told (suc room) Array d = told_map spell (elements_told (value_told room) d)

-- what a text reads as is an object, in which ten more may be open
abbrev pub told_of : Option Data → Told (List Item)
told_of None = Err BadText
told_of (Some d) = fields_told (value_told 10) d

unfoldable pub told : List ℕ → Told (List Item)
told text = if is_utf8 text then told_of (read text) else Err BadText
