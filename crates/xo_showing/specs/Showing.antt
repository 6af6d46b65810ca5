-- How an object shows as a JSON value (this project's own, with the names of xrpl.org, "Serialization Format").
use Rattle.std.specs.Prelude.{ℕ, zero, suc, nat_le, codes, true, false, List, [], ◌∷◌, Option, Some, None}
use Rattle.std.specs.Prelude.{if◌then◌else◌}
use Rattle.std.specs.Fmt.{decimal, signed_decimal}
use Rattle.hk_base.specs.Hexadecimal.{hex_text}
use Rattle.serde_json.specs.Data.{Data, null, number, string, array, object, unsigned, Items, no_items, item, Members}
use Rattle.serde_json.specs.Data.{no_members, member, put}
use Rattle.xo_fields.specs.declared.amount.Amount.{Amount}
use Rattle.xo_fields.specs.declared.amount.Amount.TheVariants.{Native, Issued}
use Rattle.xo_fields.specs.declared.form.Form.{Form}
use Rattle.xo_fields.specs.declared.form.Form.TheVariants.{Fixed, Money, Blob, Account, Object, Array}
use Rattle.xo_fields.specs.Form.{form_at}
use Rattle.xo_list.specs.Item.{Item}
use Rattle.hk_reading.specs.Amounts.{amount_of}
use Rattle.hk_reading.specs.Parsing.{all_at, value_at}
use Rattle.xo_showing.specs.Bytes.{number_of_bytes}
use Rattle.xo_showing.specs.Key.{key}

-- bytes as a text of two lower-case hex digits each
abbrev pub hex : List ℕ → Data
hex bytes = string (hex_text bytes)

-- a native amount is its drops in decimal; an issued one has its currency, its issuer, and the bits of its value in
-- decimal
abbrev pub amount_shown : Amount → Data
amount_shown (Native drops) = string (decimal drops)
amount_shown (Issued value currency issuer) =
    object (
    member (codes "currency") (hex currency) (
    member (codes "issuer") (hex issuer) (
    member (codes "value") (string (signed_decimal value)) no_members)))

-- bytes that are no amount show as nothing
abbrev pub money_shown : Option Amount → Data
money_shown None = null
money_shown (Some amount) = amount_shown amount

-- UInt8, UInt16 and UInt32 show as numbers; UInt64, of eight bytes, and the hashes as hex
abbrev pub fixed_shown : ℕ → List ℕ → Data
fixed_shown size value = if nat_le size 4 then number (unsigned (number_of_bytes value)) else hex value

-- the fields that stand in nested bytes, in whose values so many objects and arrays may be open
abbrev pub fields_in : ℕ → List ℕ → List Item
fields_in room bytes = (all_at (value_at room) false bytes).0

-- the elements, likewise
abbrev pub elements_in : ℕ → List ℕ → List Item
elements_in room bytes = (all_at (value_at room) true bytes).0

-- a field's value, by the form of its kind; no kind is without one in an object
abbrev pub value_shown : (Form → List ℕ → Data) → Option Form → List ℕ → Data
value_shown shown None value = null
value_shown shown (Some form) value = shown form value

-- the members of fields: one for each, with the field's key
abbrev pub members : (Form → List ℕ → Data) → List Item → Members
members shown [] = no_members
members shown (x ∷ xs) = put (key x.field) (value_shown shown (form_at x.field.kind) x.value) (members shown xs)

-- the elements of an array: objects with one member each
abbrev pub elements : (Form → List ℕ → Data) → List Item → Items
elements shown [] = no_items
elements shown (x ∷ xs) = item (object (members shown (x ∷ []))) (elements shown xs)

-- a value of a form, in which so many objects and arrays may be open
abbrev pub shown : ℕ → Form → List ℕ → Data
shown room (Fixed size) value = fixed_shown size value
shown room Money value = money_shown (amount_of value)
shown room Blob value = hex value
shown room Account value = hex value
shown zero Object value = null
shown zero Array value = null
shown (suc room) Object value = object (members (shown room) (fields_in room value))
shown (suc room) Array value = array (elements (shown room) (elements_in room value))

-- an object with these fields; ten objects and arrays may be open in it
abbrev pub showing : List Item → Data
showing fields = object (members (shown 10) fields)
