-- Headers of fields (xrpl.org, "Serialization Format", Field IDs).
use Rattle.std.specs.Prelude.{◌≡◌, ℕ, ◌+◌, ◌*◌, ◌<◌, ◌≤◌, ◌⊎◌, List, [], ◌∷◌, ◌++◌, length, take, if◌then◌else◌, nat_lt}
use Rattle.std.specs.Prelude.{None, IsSome}
use Rattle.xo_fields.specs.declared.field.FieldId.{FieldId}
use Rattle.xo_fields.specs.declared.header.HeaderRead.{HeaderRead}
use Rattle.xo_fields.specs.declared.header.HeaderRead.TheVariants.{Cut, Bad, Header}
use Rattle.xo_fields.specs.Form.{form_at}
use Rattle.xo_fields.specs.Spelling.{IsCut, IsBad}

-- the bytes of a field's header: kind and code share a byte where both are below 16
abbrev pub header : FieldId → List ℕ
header f =
    if nat_lt f.kind 16
    then (if nat_lt f.code 16 then (f.kind * 16 + f.code) ∷ [] else (f.kind * 16) ∷ f.code ∷ [])
    else (if nat_lt f.code 16 then f.code ∷ f.kind ∷ [] else 0 ∷ f.kind ∷ f.code ∷ [])

-- a field that has a header: E1 and F1 are the end marks of objects and arrays
pub record IsField (f : FieldId) : Type 0 where
  pub kind : 0 < f.kind
  pub code : 0 < f.code
  pub kind_byte : f.kind < 256
  pub code_byte : f.code < 256
  pub no_mark : f.code ≡ 1 → (f.kind ≡ 14) ⊎ (f.kind ≡ 15) → ⊥

abbrev pub IsHeader : List ℕ → Type 0
IsHeader bytes = (f : FieldId) × IsField f × (bytes ≡ header f)

-- what stands at the front of the bytes; a spelling is looked at before its kind
abbrev pub HeaderGives : List ℕ → HeaderRead → Type 0
HeaderGives bytes Cut = IsCut IsHeader bytes
HeaderGives bytes Bad =
    IsBad IsHeader bytes
    ⊎ ((f : FieldId) × (rest : List ℕ) × IsField f × (form_at f.kind ≡ None) × (bytes ≡ header f ++ rest))
HeaderGives bytes (Header f size) =
    IsField f × IsSome (form_at f.kind) × (size ≤ length bytes) × (take size bytes ≡ header f)
