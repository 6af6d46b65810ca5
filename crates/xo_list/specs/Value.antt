-- Which bytes are an object, an array and a value (xrpl.org, "Serialization Format"; the depth is this project's own).
use Rattle.std.specs.Prelude.{◌≡◌, ℕ, zero, suc, ◌<◌, ◌≤◌, Bool, true, false, List, [], ◌∷◌, ◌++◌, length, Some}
use Rattle.xo_fields.specs.declared.field.FieldId.{FieldId}
use Rattle.xo_fields.specs.declared.form.Form.{Form}
use Rattle.xo_fields.specs.declared.form.Form.TheVariants.{Fixed, Money, Blob, Account, Object, Array}
use Rattle.xo_fields.specs.Amount.{IsAmount}
use Rattle.xo_fields.specs.Field.{number}
use Rattle.xo_fields.specs.Form.{form_at}
use Rattle.xo_fields.specs.Header.{header, IsField}
use Rattle.xo_list.specs.Item.{Item, body}

-- a field may stand here, after a field of the last number: an array holds objects in any order
abbrev pub Allowed : Bool → ℕ → FieldId → Type 0
Allowed true last f = f.kind ≡ 14
Allowed false last f = last < number f

-- the bytes begin with the header of a field that may stand here
pub record Head (array : Bool) (last : ℕ) (f : FieldId) (form : Form) (bytes tail : List ℕ) : Type 0 where
  pub is : IsField f
  pub known : form_at f.kind ≡ Some form
  pub whole : bytes ≡ header f ++ tail
  pub allowed : Allowed array last f

-- the bytes are a field with a value, and these bytes after it
pub record Stands (fits : Form → List ℕ → Type 0) (array : Bool) (last : ℕ) (x : Item)
    (bytes tail : List ℕ) : Type 0 where
  pub form : Form
  pub head : Head array last x.field form bytes (body form x.value ++ tail)
  pub value : fits form x.value

-- the bytes are these fields, and what is asked holds of the last number and of the bytes that are left
abbrev pub Goes : (Form → List ℕ → Type 0) → Bool → ℕ → List Item → List ℕ → (ℕ → List ℕ → Type 0) → Type 0
Goes fits array last [] bytes asked = asked last bytes
Goes fits array last (x ∷ xs) bytes asked =
    (tail : List ℕ) × Stands fits array last x bytes tail × Goes fits array (number x.field) xs tail asked

-- the bytes are these fields and no more
abbrev pub Whole : (Form → List ℕ → Type 0) → Bool → List Item → List ℕ → Type 0
Whole fits array items bytes = Goes fits array 0 items bytes (λ last rest. rest ≡ [])

-- a value of a form, where so many objects and arrays may be open in it
abbrev pub IsValue : ℕ → Form → List ℕ → Type 0
IsValue room (Fixed n) value = length value ≡ n
IsValue room Money value = IsAmount value
IsValue room Blob value = length value ≤ 918744
IsValue room Account value = length value ≡ 20
IsValue zero Object value = ⊥
IsValue zero Array value = ⊥
IsValue (suc room) Object value = (items : List Item) × Whole (IsValue room) false items value
IsValue (suc room) Array value = (items : List Item) × Whole (IsValue room) true items value

-- the bytes are the fields of an object
abbrev pub IsObject : List Item → List ℕ → Type 0
IsObject items bytes = Whole (IsValue 10) false items bytes

-- the bytes are the elements of an array, which counts as open
abbrev pub IsArray : List Item → List ℕ → Type 0
IsArray items bytes = Whole (IsValue 9) true items bytes

abbrev pub HasFields : List ℕ → Type 0
HasFields bytes = (items : List Item) × IsObject items bytes

abbrev pub HasElements : List ℕ → Type 0
HasElements bytes = (items : List Item) × IsArray items bytes
