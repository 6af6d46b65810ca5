-- A field with its value, and how a list of them is written (xrpl.org, "Serialization Format").
use Rattle.std.specs.Prelude.{ℕ, ◌==◌, ◌&&◌, Bool, List, [], ◌∷◌, ◌++◌, length, if◌then◌else◌, nat_lt, Option, Some}
use Rattle.std.specs.Prelude.{None}
use Rattle.xo_fields.specs.declared.field.FieldId.{FieldId}
use Rattle.xo_fields.specs.declared.form.Form.{Form}
use Rattle.xo_fields.specs.declared.form.Form.TheVariants.{Fixed, Money, Blob, Account, Object, Array}
use Rattle.xo_fields.specs.Field.{number}
use Rattle.xo_fields.specs.Form.{form_at}
use Rattle.xo_fields.specs.Header.{header}
use Rattle.xo_fields.specs.Length.{prefix}

-- a field and its value, without header, length and end mark
pub record Item : Type 0 where
  pub field : FieldId
  pub value : List ℕ

-- a value as it is written
abbrev pub body : Form → List ℕ → List ℕ
body (Fixed n) value = value
body Money value = value
body Blob value = prefix (length value) ++ value
body Account value = prefix (length value) ++ value
body Object value = value ++ 225 ∷ []
body Array value = value ++ 241 ∷ []

abbrev pub body_of : Option Form → List ℕ → List ℕ
body_of None value = value
body_of (Some form) value = body form value

-- the length before a value, of the forms that have one
abbrev pub lead : Option Form → List ℕ → List ℕ
lead None value = []
lead (Some (Fixed n)) value = []
lead (Some Money) value = []
lead (Some Blob) value = prefix (length value)
lead (Some Account) value = prefix (length value)
lead (Some Object) value = []
lead (Some Array) value = []

-- what stands before a field's value: its header, and its length where it has one
abbrev pub opening : Item → List ℕ
opening x = header x.field ++ lead (form_at x.field.kind) x.value

-- a list of fields as it is written
abbrev pub spell : List Item → List ℕ
spell [] = []
spell (x ∷ xs) = header x.field ++ (body_of (form_at x.field.kind) x.value ++ spell xs)

abbrev pub is_same : FieldId → FieldId → Bool
is_same f g = (f.kind == g.kind) && (f.code == g.code)

-- the value of a field
abbrev pub lookup : FieldId → List Item → Option (List ℕ)
lookup f [] = None
lookup f (x ∷ xs) = if is_same x.field f then Some x.value else lookup f xs

-- the list without a field
abbrev pub without : FieldId → List Item → List Item
without f [] = []
without f (x ∷ xs) = if is_same x.field f then without f xs else x ∷ without f xs

-- the list with a field put in its place, over one of the same number
abbrev pub with_item : Item → List Item → List Item
with_item x [] = x ∷ []
with_item x (y ∷ ys) =
    if nat_lt (number x.field) (number y.field) then x ∷ y ∷ ys else
    if nat_lt (number y.field) (number x.field) then y ∷ with_item x ys else x ∷ ys
