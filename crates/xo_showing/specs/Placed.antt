-- What private helpers need of the spans that they print: each names a value of its field's kind.
use Rattle.std.specs.Prelude.{◌≡◌, ℕ, List, Some}
use Rattle.xo_fields.specs.declared.field.FieldId.{FieldId}
use Rattle.xo_fields.specs.declared.form.Form.{Form}
use Rattle.xo_fields.specs.Form.{form_at}
use Rattle.xo_list.specs.declared.skip.Place.{Place}
use Rattle.xo_list.specs.declared.skip.Place.TheVariants.{Fields, NestedFields, Elements, NestedElements}
use Rattle.xo_list.specs.declared.span.Span.{Span}
use Rattle.xo_list.specs.Span.{part, InRange}
use Rattle.xo_list.specs.Value.{IsValue}

-- a value of the field's kind, in which so many objects and arrays may be open
abbrev pub IsOf : ℕ → FieldId → List ℕ → Type 0
IsOf room field value = (form : Form) × (form_at field.kind ≡ Some form) × IsValue room form value

abbrev pub IsPlaced : ℕ → List ℕ → FieldId × Span → Type 0
IsPlaced room bytes s = InRange bytes s × IsOf room s.0 (part bytes s.1.from s.1.to)

-- a place that ends with its bytes
abbrev pub IsOuter : Place → Type 0
IsOuter Fields = Unit {0}
IsOuter Elements = Unit {0}
IsOuter NestedFields = ⊥
IsOuter NestedElements = ⊥
