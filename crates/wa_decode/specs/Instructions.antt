-- Instructions and expressions as bytes (WebAssembly Core 1.0, binary format, "Instructions"; "Value Types" and "Result
-- Types" under "Types").
use Rattle.std.specs.Prelude.{ℕ, ◌≡◌, ◌==◌, if◌then◌else◌, List, [], ◌∷◌, length, Option, Some, None}
use Rattle.wa_ops.specs.Opcodes.{form_at}
use Rattle.wa_ops.specs.Sequences.{IsNested}
use Rattle.wa_ops.specs.declared.op.Op.{Op}
use Rattle.wa_ops.specs.declared.op.Op.TheVariants.{Unreachable, Nop, Block, Loop, If, Else, End, Br, BrIf, BrTable}
use Rattle.wa_ops.specs.declared.op.Op.TheVariants.{Return, Call, CallIndirect, Drop, Select, LocalGet, LocalSet}
use Rattle.wa_ops.specs.declared.op.Op.TheVariants.{LocalTee, GlobalGet, GlobalSet, Load, Store, MemorySize, MemoryGrow}
use Rattle.wa_ops.specs.declared.op.Op.TheVariants.{I32Const, I64Const, Number, Float}
use Rattle.wa_ops.specs.declared.op.ValueType.{ValueType}
use Rattle.wa_ops.specs.declared.op.ValueType.TheVariants.{I32, I64, F32, F64}
use Rattle.wa_ops.specs.declared.opcode.Form.{Form}
use Rattle.wa_ops.specs.declared.opcode.Form.TheVariants as forms
use Rattle.wa_decode.specs.Grammar.{IsUnsigned, IsSigned, Then, After, SpellsAll, SpellsVector}

abbrev pub type_byte : ValueType → ℕ
type_byte I32 = 0x7F
type_byte I64 = 0x7E
type_byte F32 = 0x7D
type_byte F64 = 0x7C

abbrev pub SpellsValueType : ValueType → List ℕ → Type 0
SpellsValueType kind bytes = bytes ≡ type_byte kind ∷ []

-- the result of a block: none, or one value
abbrev pub result_byte : Option ValueType → ℕ
result_byte None = 0x40
result_byte (Some kind) = type_byte kind

-- an opcode and an index or a label
abbrev pub Indexed : ℕ → ℕ → List ℕ → Type 0
Indexed opcode n bytes = After opcode (IsUnsigned 32 n) bytes

-- the alignment and the offset of an access
abbrev pub SpellsAccess : ℕ → ℕ → List ℕ → Type 0
SpellsAccess align offset bytes = Then (IsUnsigned 32 align) (IsUnsigned 32 offset) bytes

-- the bytes of the number of `f32.const` and of `f64.const`
abbrev pub constant_size : ℕ → ℕ
constant_size opcode = if opcode == 0x43 then 4 else 8

-- a float instruction; what stands behind its opcode leaves no trace
abbrev pub SpellsFloat : Form → ℕ → List ℕ → Type 0
SpellsFloat forms.FloatAccess opcode bytes =
    After opcode (λ rest. (align : ℕ) × (offset : ℕ) × SpellsAccess align offset rest) bytes
SpellsFloat forms.FloatNumber opcode bytes = bytes ≡ opcode ∷ []
SpellsFloat forms.FloatConstant opcode bytes = After opcode (λ rest. length rest ≡ constant_size opcode) bytes
SpellsFloat _ opcode bytes = ⊥

abbrev pub SpellsOp : Op → List ℕ → Type 0
SpellsOp Unreachable bytes = bytes ≡ 0x00 ∷ []
SpellsOp Nop bytes = bytes ≡ 0x01 ∷ []
SpellsOp (Block result) bytes = bytes ≡ 0x02 ∷ result_byte result ∷ []
SpellsOp (Loop result) bytes = bytes ≡ 0x03 ∷ result_byte result ∷ []
SpellsOp (If result) bytes = bytes ≡ 0x04 ∷ result_byte result ∷ []
SpellsOp Else bytes = bytes ≡ 0x05 ∷ []
SpellsOp End bytes = bytes ≡ 0x0B ∷ []
SpellsOp (Br label) bytes = Indexed 0x0C label bytes
SpellsOp (BrIf label) bytes = Indexed 0x0D label bytes
SpellsOp (BrTable labels last) bytes =
    After 0x0E (Then (SpellsVector (IsUnsigned 32) labels) (IsUnsigned 32 last)) bytes
SpellsOp Return bytes = bytes ≡ 0x0F ∷ []
SpellsOp (Call index) bytes = Indexed 0x10 index bytes
SpellsOp (CallIndirect index) bytes = After 0x11 (Then (IsUnsigned 32 index) (λ rest. rest ≡ 0x00 ∷ [])) bytes
SpellsOp Drop bytes = bytes ≡ 0x1A ∷ []
SpellsOp Select bytes = bytes ≡ 0x1B ∷ []
SpellsOp (LocalGet index) bytes = Indexed 0x20 index bytes
SpellsOp (LocalSet index) bytes = Indexed 0x21 index bytes
SpellsOp (LocalTee index) bytes = Indexed 0x22 index bytes
SpellsOp (GlobalGet index) bytes = Indexed 0x23 index bytes
SpellsOp (GlobalSet index) bytes = Indexed 0x24 index bytes
SpellsOp (Load opcode align offset) bytes =
    (form_at opcode ≡ forms.Load) × After opcode (SpellsAccess align offset) bytes
SpellsOp (Store opcode align offset) bytes =
    (form_at opcode ≡ forms.Store) × After opcode (SpellsAccess align offset) bytes
SpellsOp MemorySize bytes = bytes ≡ 0x3F ∷ 0x00 ∷ []
SpellsOp MemoryGrow bytes = bytes ≡ 0x40 ∷ 0x00 ∷ []
SpellsOp (I32Const n) bytes = After 0x41 (IsSigned 32 n) bytes
SpellsOp (I64Const n) bytes = After 0x42 (IsSigned 64 n) bytes
SpellsOp (Number opcode) bytes = (form_at opcode ≡ forms.Number) × (bytes ≡ opcode ∷ [])
SpellsOp (Float opcode) bytes = SpellsFloat (form_at opcode) opcode bytes

-- nested code up to its own `end` ("Expressions")
abbrev pub SpellsExpression : List Op → List ℕ → Type 0
SpellsExpression ops bytes = IsNested ops × SpellsAll SpellsOp ops bytes
