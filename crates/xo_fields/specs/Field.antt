-- Fields of the XRPL binary format (xrpl.org, "Serialization Format", Field IDs).
use Rattle.std.specs.Prelude.{◌≡◌, ℕ, ◌+◌, ◌*◌, ◌<◌}
use Rattle.xo_fields.specs.declared.field.FieldId.{FieldId}

-- the number by which hooks name a field
abbrev pub number : FieldId → ℕ
number field = field.kind * 65536 + field.code

-- a kind and a code from 1 to 255 that have this number
pub record IsNumbered (field : FieldId) (n : ℕ) : Type 0 where
  pub kind : 0 < field.kind
  pub code : 0 < field.code
  pub kind_byte : field.kind < 256
  pub code_byte : field.code < 256
  pub is : number field ≡ n
