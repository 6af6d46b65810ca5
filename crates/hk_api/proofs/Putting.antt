-- Values that fit the fields of the objects that entries show.
use Rattle.std.proofs.Common.{◌≡◌, ℕ, ◌<◌, ◌⊎◌, inl, inr, List, arith, Some}
use Rattle.xo_fields.specs.declared.field.FieldId.{FieldId}
use Rattle.xo_fields.specs.declared.form.Form.{Form}
use Rattle.xo_fields.specs.Form.{form_at}
use Rattle.xo_list.specs.List.{IsFit}
use Rattle.xo_list.specs.Value.{IsValue}

no_mark : (k : ℕ) → k < 14 → (k ≡ 14) ⊎ (k ≡ 15) → ⊥
no_mark k small (inl e) = absurd (omega (arith, small, e))
no_mark k small (inr e) = absurd (omega (arith, small, e))

pub fits : (f : FieldId) (form : Form) (value : List ℕ) → 0 < f.kind → f.kind < 14 → 0 < f.code → f.code < 256 →
    form_at f.kind ≡ Some form → IsValue 10 form value → IsFit f value
fits f form value some small first byte known is = (
  form,
  record {
    kind = some;
    code = first;
    kind_byte = omega (arith, small);
    code_byte = byte;
    no_mark = λ one. no_mark f.kind small;
  },
  known,
  is,
)
