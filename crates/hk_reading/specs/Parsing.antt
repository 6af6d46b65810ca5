-- The fields of an object and the elements of an array, as functions of the bytes: each field is guessed from the
-- front, and taken where its bytes are these.
use Rattle.std.specs.Prelude.{ℕ, zero, suc, ◌==◌, ◌&&◌, ◌||◌, not, nat_lt, nat_le, bytes_eq, Bool, true, false, List}
use Rattle.std.specs.Prelude.{[], ◌∷◌, length, take, drop, Option, Some, None}
use Rattle.std.specs.Option.{option_and_then, option_map}
use Rattle.xo_fields.specs.declared.field.FieldId.{FieldId}
use Rattle.xo_fields.specs.declared.form.Form.{Form}
use Rattle.xo_fields.specs.declared.form.Form.TheVariants.{Fixed, Money, Blob, Account, Object, Array}
use Rattle.xo_fields.specs.declared.header.HeaderRead.{HeaderRead}
use Rattle.xo_fields.specs.declared.header.HeaderRead.TheVariants as headers
use Rattle.xo_fields.specs.declared.length.LengthRead.{LengthRead}
use Rattle.xo_fields.specs.declared.length.LengthRead.TheVariants as lengths
use Rattle.xo_fields.specs.Field.{number}
use Rattle.xo_fields.specs.Form.{form_at}
use Rattle.xo_fields.specs.Header.{header}
use Rattle.xo_fields.specs.Length.{prefix}
use Rattle.xo_fields.specs.Table.{header_at, length_at}
use Rattle.xo_list.specs.Item.{Item, spell}
use Rattle.hk_reading.specs.Amounts.{only_if, is_amount, amount_size}

-- a value at the front of bytes, and the bytes after it
abbrev pub Found : Type 0
Found = Option (List ℕ × List ℕ)

-- fields at the front of bytes, and the bytes after them
abbrev pub Front : Type 0
Front = List Item × List ℕ

abbrev pub is_field : FieldId → Bool
is_field f =
    nat_lt 0 f.kind &&
    (nat_lt 0 f.code &&
    (nat_lt f.kind 256 && (nat_lt f.code 256 && not ((f.code == 1) && ((f.kind == 14) || (f.kind == 15))))))

abbrev pub is_allowed : Bool → ℕ → FieldId → Bool
is_allowed true last f = f.kind == 14
is_allowed false last f = nat_lt last (number f)

-- the field whose header stands at the front, its form and what comes after the header
abbrev pub head_of : Bool → ℕ → List ℕ → HeaderRead → Option (FieldId × Form × List ℕ)
head_of array last bytes headers.Cut = None
head_of array last bytes headers.Bad = None
head_of array last bytes (headers.Header f size) =
    only_if (is_field f && (is_allowed array last f && bytes_eq (take size bytes) (header f)))
    (option_map (λ form. (f, form, drop size bytes)) (form_at f.kind))

abbrev pub fixed : ℕ → List ℕ → Found
fixed n bytes = only_if (nat_le n (length bytes)) (Some (take n bytes, drop n bytes))

-- a value after its length
abbrev pub sized : (ℕ → Bool) → List ℕ → LengthRead → Found
sized fits bytes lengths.Cut = None
sized fits bytes lengths.Bad = None
sized fits bytes (lengths.Length n size) =
    only_if (fits n && bytes_eq (take size bytes) (prefix n)) (fixed n (drop size bytes))

abbrev pub money : List ℕ → Found
money bytes = only_if (is_amount (take (amount_size bytes) bytes)) (fixed (amount_size bytes) bytes)

-- nested fields, with their end mark
abbrev pub marked : ℕ → List Item → List ℕ → Found
marked mark items [] = None
marked mark items (first ∷ rest) = only_if (first == mark) (Some (spell items, rest))

abbrev pub item_of : FieldId → List ℕ × List ℕ → Item × List ℕ
item_of f found = (record { field = f; value = found.0 }, found.1)

-- the field at the front of bytes
abbrev pub item_at : (Form → List ℕ → Found) → Bool → ℕ → List ℕ → Option (Item × List ℕ)
item_at value array last bytes =
    option_and_then (λ head. option_map (item_of head.0) (value head.1 head.2))
    (head_of array last bytes (header_at bytes))

-- a field, and those after it
abbrev pub and_on : (ℕ → List ℕ → Front) → List ℕ → Option (Item × List ℕ) → Front
and_on next bytes None = ([], bytes)
and_on next bytes (Some first) =
    (first.0 ∷ (next (number first.0.field) first.1).0, (next (number first.0.field) first.1).1)

-- the fields at the front of bytes, so many at most
abbrev pub items_at : (Form → List ℕ → Found) → Bool → ℕ → ℕ → List ℕ → Front
items_at value array zero last bytes = ([], bytes)
items_at value array (suc most) last bytes = and_on (items_at value array most) bytes (item_at value array last bytes)

abbrev pub all_at : (Form → List ℕ → Found) → Bool → List ℕ → Front
all_at value array bytes = items_at value array (length bytes) 0 bytes

-- a value of a form at the front of bytes, in which so many objects and arrays may be open
abbrev pub value_at : ℕ → Form → List ℕ → Found
value_at room (Fixed n) bytes = fixed n bytes
value_at room Money bytes = money bytes
value_at room Blob bytes = sized (λ n. nat_le n 918744) bytes (length_at bytes)
value_at room Account bytes = sized (λ n. n == 20) bytes (length_at bytes)
value_at zero Object bytes = None
value_at zero Array bytes = None
value_at (suc room) Object bytes =
    marked 225 (all_at (value_at room) false bytes).0 (all_at (value_at room) false bytes).1
value_at (suc room) Array bytes = marked 241 (all_at (value_at room) true bytes).0 (all_at (value_at room) true bytes).1

-- the fields, where no bytes are left
abbrev pub whole : List Item → List ℕ → Option (List Item)
whole items [] = Some items
whole items (first ∷ rest) = None

abbrev pub fields_of : List ℕ → Option (List Item)
fields_of bytes = whole (all_at (value_at 10) false bytes).0 (all_at (value_at 10) false bytes).1

abbrev pub elements_of : List ℕ → Option (List Item)
elements_of bytes = whole (all_at (value_at 9) true bytes).0 (all_at (value_at 9) true bytes).1
