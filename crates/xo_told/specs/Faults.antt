-- Why a text shows no object (this project's own order of faults): of an object's members in the order of their keys,
-- and of an array's elements, the first that fails decides.
use Rattle.std.specs.Prelude.{◌≡◌, ◌⊎◌, ℕ, zero, suc, List, Some, None, IsUtf8}
use Rattle.serde_json.specs.Data.{Data, null, boolean, number, string, array, object, Items, no_items, item, Members}
use Rattle.serde_json.specs.Data.{no_members, member}
use Rattle.serde_json.specs.Read.{read}
use Rattle.xo_fields.specs.declared.field.FieldId.{FieldId}
use Rattle.xo_fields.specs.declared.form.Form.{Form}
use Rattle.xo_fields.specs.declared.form.Form.TheVariants.{Fixed, Money, Blob, Account, Object, Array}
use Rattle.xo_told.specs.declared.fault.JsonFault.{JsonFault}
use Rattle.xo_told.specs.declared.fault.JsonFault.TheVariants.{BadText, BadKey, BadValue, TooDeep, NoMemory}
use Rattle.xo_told.specs.Reading.{IsKey, ShowsValue, ShowsElement}

-- how a value of a form fails, and which value it shows
abbrev pub Fails : Type 1
Fails = Form → Data → JsonFault → Type 0

abbrev pub Shows : Type 1
Shows = Form → Data → List ℕ → Type 0

-- no value of that form shows so
abbrev pub IsNone : ℕ → Form → Data → JsonFault → Type 0
IsNone room form d fault = (fault ≡ BadValue) × ((value : List ℕ) → ShowsValue room form d value → ⊥)

-- a member fails by its key, or by its value
abbrev pub MemberFails : Fails → List ℕ → Data → JsonFault → Type 0
MemberFails fails key d fault =
    ((fault ≡ BadKey) × ((field : FieldId) (form : Form) → IsKey key field form → ⊥))
    ⊎ ((field : FieldId) × (form : Form) × IsKey key field form × fails form d fault)

-- it is a field with a value
abbrev pub MemberShows : Shows → List ℕ → Data → Type 0
MemberShows shows key d =
    (field : FieldId) × (form : Form) × (value : List ℕ) × IsKey key field form × shows form d value

-- the first member that fails
abbrev pub MembersFail : Fails → Shows → Members → JsonFault → Type 0
MembersFail fails shows no_members fault = ⊥
MembersFail fails shows (member key d ms) fault =
    MemberFails fails key d fault ⊎ (MemberShows shows key d × MembersFail fails shows ms fault)

-- what should be an object is none, or a member of it fails
abbrev pub ObjectFails : Fails → Shows → Data → JsonFault → Type 0
ObjectFails fails shows null fault = fault ≡ BadValue
ObjectFails fails shows (boolean b) fault = fault ≡ BadValue
ObjectFails fails shows (number n) fault = fault ≡ BadValue
ObjectFails fails shows (string text) fault = fault ≡ BadValue
ObjectFails fails shows (array ds) fault = fault ≡ BadValue
ObjectFails fails shows (object ms) fault = MembersFail fails shows ms fault

-- the key of an element is of kind 14, an object
abbrev pub IsElementKey : List ℕ → FieldId → Type 0
IsElementKey key field = IsKey key field Object

-- the one member of an element fails by its key, or by its value
abbrev pub InnerFails : Fails → List ℕ → Data → JsonFault → Type 0
InnerFails fails key d fault =
    ((fault ≡ BadKey) × ((field : FieldId) → IsElementKey key field → ⊥))
    ⊎ ((field : FieldId) × IsElementKey key field × fails Object d fault)

-- an element is no object with one member, or that member fails
abbrev pub OnlyFails : Fails → Members → JsonFault → Type 0
OnlyFails fails no_members fault = fault ≡ BadValue
OnlyFails fails (member key d no_members) fault = InnerFails fails key d fault
OnlyFails fails (member key d (member l e ms)) fault = fault ≡ BadValue

abbrev pub ElementFails : Fails → Data → JsonFault → Type 0
ElementFails fails null fault = fault ≡ BadValue
ElementFails fails (boolean b) fault = fault ≡ BadValue
ElementFails fails (number n) fault = fault ≡ BadValue
ElementFails fails (string text) fault = fault ≡ BadValue
ElementFails fails (array ds) fault = fault ≡ BadValue
ElementFails fails (object ms) fault = OnlyFails fails ms fault

-- it is an object with one member, a field of kind 14 with a value
abbrev pub ElementShows : Shows → Data → Type 0
ElementShows shows d = (field : FieldId) × (value : List ℕ) × ShowsElement shows d field value

-- the first element that fails
abbrev pub ItemsFail : Fails → Shows → Items → JsonFault → Type 0
ItemsFail fails shows no_items fault = ⊥
ItemsFail fails shows (item d ds) fault =
    ElementFails fails d fault ⊎ (ElementShows shows d × ItemsFail fails shows ds fault)

-- what should be an array is none, or an element of it fails
abbrev pub ArrayFails : Fails → Shows → Data → JsonFault → Type 0
ArrayFails fails shows null fault = fault ≡ BadValue
ArrayFails fails shows (boolean b) fault = fault ≡ BadValue
ArrayFails fails shows (number n) fault = fault ≡ BadValue
ArrayFails fails shows (string text) fault = fault ≡ BadValue
ArrayFails fails shows (object ms) fault = fault ≡ BadValue
ArrayFails fails shows (array ds) fault = ItemsFail fails shows ds fault

-- how a value fails that should be one of a form, where so many objects and arrays may be open in it
abbrev pub ValueFails : ℕ → Fails
ValueFails room (Fixed size) d fault = IsNone room (Fixed size) d fault
ValueFails room Money d fault = IsNone room Money d fault
ValueFails room Blob d fault = IsNone room Blob d fault
ValueFails room Account d fault = IsNone room Account d fault
ValueFails zero Object d fault = fault ≡ TooDeep
ValueFails zero Array d fault = fault ≡ TooDeep
ValueFails (suc room) Object d fault = ObjectFails (ValueFails room) (ShowsValue room) d fault
ValueFails (suc room) Array d fault = ArrayFails (ValueFails room) (ShowsValue room) d fault

-- what a text reads as fails, ten objects and arrays being allowed open in it
abbrev pub ReadFails : List ℕ → JsonFault → Type 0
ReadFails text fault =
    (d : Data) × IsUtf8 text × (read text ≡ Some d) × ObjectFails (ValueFails 10) (ShowsValue 10) d fault

-- the text isn't JSON, which is UTF-8 (RFC 8259), or what it reads as fails
abbrev pub Refuses : List ℕ → JsonFault → Type 0
Refuses text BadText = IsUtf8 text → read text ≡ None
Refuses text BadKey = ReadFails text BadKey
Refuses text BadValue = ReadFails text BadValue
Refuses text TooDeep = ReadFails text TooDeep
Refuses text NoMemory = Unit {0}
