-- The key of a field in JSON (this project's own).
use Rattle.std.specs.Prelude.{ℕ, List, ◌∷◌, ◌++◌, unwrap_or}
use Rattle.std.specs.Fmt.{decimal}
use Rattle.xo_fields.specs.declared.field.FieldId.{FieldId}
use Rattle.xo_showing.specs.Name.{name_of}

-- kind and code in decimal, a slash (47) between them
abbrev pub numbers : FieldId → List ℕ
numbers field = decimal field.kind ++ 47 ∷ decimal field.code

-- the field's name, or its numbers where it has none
abbrev pub key : FieldId → List ℕ
key field = unwrap_or (name_of field) (numbers field)
