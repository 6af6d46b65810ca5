-- The operands of numeric instructions.
use Rattle.std.specs.Prelude.{ℕ, Bool, ◌==◌, ◌||◌, if◌then◌else◌, List, [], ◌∷◌}
use Rattle.wa_ops.specs.declared.op.ValueType.{ValueType}
use Rattle.wa_ops.specs.declared.op.ValueType.TheVariants.{I32, I64}
use Rattle.wa_ops.specs.Opcodes.{among}

-- i32.eqz to i32.ge_u; i32.clz to i32.rotr; i64.extend_i32_s, i64.extend_i32_u; i32.extend8_s, i32.extend16_s
abbrev pub is_narrow : ℕ → Bool
is_narrow n = among 0x45 0x4F n || among 0x67 0x78 n || n == 0xAC || n == 0xAD || among 0xC0 0xC1 n

-- one or two operands of i32 or of i64
abbrev pub kinds_of : Bool → Bool → List ValueType
kinds_of narrow paired =
    if paired then (if narrow then I32 else I64) ∷ (if narrow then I32 else I64) ∷ []
    else (if narrow then I32 else I64) ∷ []

-- one or two words, the last pushed first
abbrev pub taken_words : Bool → ℕ → ℕ → List ℕ
taken_words paired before last = if paired then last ∷ before ∷ [] else last ∷ []
