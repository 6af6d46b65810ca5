-- The name of a field: what the table of names has at its kind and code (xrpl.org, "Serialization Format", and this
-- project's own for hooks).
use Rattle.std.specs.Prelude.{ℕ, ◌==◌, List, [], ◌∷◌, Option, Some, None, if◌then◌else◌}
use Rattle.xo_fields.specs.declared.field.FieldId.{FieldId}
use Rattle.xo_fields.specs.Name.{Names, kinds}

-- the name that a code has among the names of a kind
abbrev pub name_coded : ℕ → Names → Option (List ℕ)
name_coded code [] = None
name_coded code (entry ∷ rest) = if code == entry.1 then Some entry.0 else name_coded code rest

-- the names of a kind, none where it has none
abbrev pub names_among : ℕ → List (ℕ × Names) → Names
names_among kind [] = []
names_among kind (entry ∷ rest) = if kind == entry.0 then entry.1 else names_among kind rest

unfoldable pub name_of : FieldId → Option (List ℕ)
name_of field = name_coded field.code (names_among field.kind kinds)
