-- What may stand in a list of fields, without its bytes.
use Rattle.std.specs.Prelude.{◌≡◌, ℕ, Bool, false, List, [], ◌∷◌, Some}
use Rattle.xo_fields.specs.declared.field.FieldId.{FieldId}
use Rattle.xo_fields.specs.declared.form.Form.{Form}
use Rattle.xo_fields.specs.Field.{number}
use Rattle.xo_fields.specs.Form.{form_at}
use Rattle.xo_fields.specs.Header.{IsField}
use Rattle.xo_list.specs.Item.{Item}
use Rattle.xo_list.specs.Value.{Allowed, IsValue}

-- a field that may stand after the last number, with a value of its kind
pub record Fits (fits : Form → List ℕ → Type 0) (array : Bool) (last : ℕ) (x : Item) : Type 0 where
  pub form : Form
  pub is : IsField x.field
  pub known : form_at x.field.kind ≡ Some form
  pub allowed : Allowed array last x.field
  pub value : fits form x.value

abbrev pub ListFits : (Form → List ℕ → Type 0) → Bool → ℕ → List Item → Type 0
ListFits fits array last [] = Unit {0}
ListFits fits array last (x ∷ xs) = Fits fits array last x × ListFits fits array (number x.field) xs

-- fields in rising order, each with a value of its kind
abbrev pub IsList : List Item → Type 0
IsList items = ListFits (IsValue 10) false 0 items

-- the value fits the field
abbrev pub IsFit : FieldId → List ℕ → Type 0
IsFit field value = (form : Form) × IsField field × (form_at field.kind ≡ Some form) × IsValue 10 form value
