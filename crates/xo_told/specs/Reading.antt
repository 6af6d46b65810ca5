-- Which keys and values of a JSON text stand for a field and its value.
use Rattle.std.specs.Prelude.{◌≡◌, ℕ, List, Some}
use Rattle.serde_json.specs.Data.{Data, object, member, no_members}
use Rattle.xo_fields.specs.declared.field.FieldId.{FieldId}
use Rattle.xo_fields.specs.declared.form.Form.{Form}
use Rattle.xo_fields.specs.declared.form.Form.TheVariants.{Object}
use Rattle.xo_fields.specs.Form.{form_at}
use Rattle.xo_fields.specs.Header.{IsField}
use Rattle.xo_list.specs.Value.{IsValue}
use Rattle.xo_showing.specs.Bytes.{AreBytes}
use Rattle.xo_showing.specs.Key.{key}
use Rattle.xo_showing.specs.Showing.{shown}
use Rattle.xo_showing.specs.Shows.{lowered}

-- the key is that of a field whose kind has values of that form
pub record IsKey (text : List ℕ) (field : FieldId) (form : Form) : Type 0 where
  pub is : IsField field
  pub known : form_at field.kind ≡ Some form
  pub spelled : key field ≡ text

-- the value of a form shows so, up to the case of hex digits; so many objects and arrays may be open in it
pub record ShowsValue (room : ℕ) (form : Form) (d : Data) (value : List ℕ) : Type 0 where
  pub bytes : AreBytes value
  pub fits : IsValue room form value
  pub shows : lowered d ≡ shown room form value

-- the value is an object with one member, and that is this field with this value
abbrev pub ShowsElement : (Form → Data → List ℕ → Type 0) → Data → FieldId → List ℕ → Type 0
ShowsElement shows d field value =
    (text : List ℕ) × (inner : Data) × (d ≡ object (member text inner no_members)) × IsKey text field Object
    × shows Object inner value
