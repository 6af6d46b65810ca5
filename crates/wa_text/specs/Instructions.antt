-- The instructions of a line of text, by the names of WebAssembly Core 1.0 ("Index of Instructions"), and what stands
-- behind each name (this project's own).
use Rattle.std.specs.Prelude.{ℕ, ◌==◌, List, [], ◌∷◌, codes, Option, Some, None, option_map, option_and_then}
use Rattle.std.specs.Prelude.{if◌then◌else◌}
use Rattle.std.specs.Str.{bytes_eq}
use Rattle.wa_ops.specs.declared.op.Op.{Op}
use Rattle.wa_ops.specs.declared.op.Op.TheVariants.{Unreachable, Nop, Block, Loop, If, Else, End, Br, BrIf, BrTable}
use Rattle.wa_ops.specs.declared.op.Op.TheVariants.{Return, Drop, Select, LocalGet, LocalSet, LocalTee, GlobalGet}
use Rattle.wa_ops.specs.declared.op.Op.TheVariants.{GlobalSet, Load, Store, MemorySize, I32Const, I64Const, Number}
use Rattle.wa_ops.specs.declared.op.ValueType.{ValueType}
use Rattle.wa_ops.specs.declared.op.ValueType.TheVariants.{I32, I64, F32, F64}
use Rattle.wa_ops.specs.declared.opcode.Form.{Form}
use Rattle.wa_ops.specs.declared.opcode.Form.TheVariants as forms
use Rattle.wa_text.specs.declared.names.Named as table
use Rattle.wa_text.specs.declared.text_line.TextLine.{TextLine}
use Rattle.wa_text.specs.declared.text_line.TextLine.TheVariants.{Plain, Call}
use Rattle.wa_text.specs.Numbers.{word_of, signed_of}

-- a name and an opcode
pub record Named : Type 0 where
  pub name : List ℕ
  pub opcode : ℕ

abbrev pub row_of : List ℕ → ℕ → Named
row_of name opcode = record { name = name; opcode = opcode }

-- a row of the table in the code
abbrev pub shown : table.Named → Named
shown row = row_of row.0.now row.1

-- the integer instructions and the control instructions, without `call_indirect` and `memory.grow`
unfoldable pub instructions : List Named
instructions =
    row_of (codes "unreachable") 0x00 ∷
    row_of (codes "nop") 0x01 ∷
    row_of (codes "block") 0x02 ∷
    row_of (codes "loop") 0x03 ∷
    row_of (codes "if") 0x04 ∷
    row_of (codes "else") 0x05 ∷
    row_of (codes "end") 0x0B ∷
    row_of (codes "br") 0x0C ∷
    row_of (codes "br_if") 0x0D ∷
    row_of (codes "br_table") 0x0E ∷
    row_of (codes "return") 0x0F ∷
    row_of (codes "call") 0x10 ∷
    row_of (codes "drop") 0x1A ∷
    row_of (codes "select") 0x1B ∷
    row_of (codes "local.get") 0x20 ∷
    row_of (codes "local.set") 0x21 ∷
    row_of (codes "local.tee") 0x22 ∷
    row_of (codes "global.get") 0x23 ∷
    row_of (codes "global.set") 0x24 ∷
    row_of (codes "i32.load") 0x28 ∷
    row_of (codes "i64.load") 0x29 ∷
    row_of (codes "i32.load8_s") 0x2C ∷
    row_of (codes "i32.load8_u") 0x2D ∷
    row_of (codes "i32.load16_s") 0x2E ∷
    row_of (codes "i32.load16_u") 0x2F ∷
    row_of (codes "i64.load8_s") 0x30 ∷
    row_of (codes "i64.load8_u") 0x31 ∷
    row_of (codes "i64.load16_s") 0x32 ∷
    row_of (codes "i64.load16_u") 0x33 ∷
    row_of (codes "i64.load32_s") 0x34 ∷
    row_of (codes "i64.load32_u") 0x35 ∷
    row_of (codes "i32.store") 0x36 ∷
    row_of (codes "i64.store") 0x37 ∷
    row_of (codes "i32.store8") 0x3A ∷
    row_of (codes "i32.store16") 0x3B ∷
    row_of (codes "i64.store8") 0x3C ∷
    row_of (codes "i64.store16") 0x3D ∷
    row_of (codes "i64.store32") 0x3E ∷
    row_of (codes "memory.size") 0x3F ∷
    row_of (codes "i32.const") 0x41 ∷
    row_of (codes "i64.const") 0x42 ∷
    row_of (codes "i32.eqz") 0x45 ∷
    row_of (codes "i32.eq") 0x46 ∷
    row_of (codes "i32.ne") 0x47 ∷
    row_of (codes "i32.lt_s") 0x48 ∷
    row_of (codes "i32.lt_u") 0x49 ∷
    row_of (codes "i32.gt_s") 0x4A ∷
    row_of (codes "i32.gt_u") 0x4B ∷
    row_of (codes "i32.le_s") 0x4C ∷
    row_of (codes "i32.le_u") 0x4D ∷
    row_of (codes "i32.ge_s") 0x4E ∷
    row_of (codes "i32.ge_u") 0x4F ∷
    row_of (codes "i64.eqz") 0x50 ∷
    row_of (codes "i64.eq") 0x51 ∷
    row_of (codes "i64.ne") 0x52 ∷
    row_of (codes "i64.lt_s") 0x53 ∷
    row_of (codes "i64.lt_u") 0x54 ∷
    row_of (codes "i64.gt_s") 0x55 ∷
    row_of (codes "i64.gt_u") 0x56 ∷
    row_of (codes "i64.le_s") 0x57 ∷
    row_of (codes "i64.le_u") 0x58 ∷
    row_of (codes "i64.ge_s") 0x59 ∷
    row_of (codes "i64.ge_u") 0x5A ∷
    row_of (codes "i32.clz") 0x67 ∷
    row_of (codes "i32.ctz") 0x68 ∷
    row_of (codes "i32.popcnt") 0x69 ∷
    row_of (codes "i32.add") 0x6A ∷
    row_of (codes "i32.sub") 0x6B ∷
    row_of (codes "i32.mul") 0x6C ∷
    row_of (codes "i32.div_s") 0x6D ∷
    row_of (codes "i32.div_u") 0x6E ∷
    row_of (codes "i32.rem_s") 0x6F ∷
    row_of (codes "i32.rem_u") 0x70 ∷
    row_of (codes "i32.and") 0x71 ∷
    row_of (codes "i32.or") 0x72 ∷
    row_of (codes "i32.xor") 0x73 ∷
    row_of (codes "i32.shl") 0x74 ∷
    row_of (codes "i32.shr_s") 0x75 ∷
    row_of (codes "i32.shr_u") 0x76 ∷
    row_of (codes "i32.rotl") 0x77 ∷
    row_of (codes "i32.rotr") 0x78 ∷
    row_of (codes "i64.clz") 0x79 ∷
    row_of (codes "i64.ctz") 0x7A ∷
    row_of (codes "i64.popcnt") 0x7B ∷
    row_of (codes "i64.add") 0x7C ∷
    row_of (codes "i64.sub") 0x7D ∷
    row_of (codes "i64.mul") 0x7E ∷
    row_of (codes "i64.div_s") 0x7F ∷
    row_of (codes "i64.div_u") 0x80 ∷
    row_of (codes "i64.rem_s") 0x81 ∷
    row_of (codes "i64.rem_u") 0x82 ∷
    row_of (codes "i64.and") 0x83 ∷
    row_of (codes "i64.or") 0x84 ∷
    row_of (codes "i64.xor") 0x85 ∷
    row_of (codes "i64.shl") 0x86 ∷
    row_of (codes "i64.shr_s") 0x87 ∷
    row_of (codes "i64.shr_u") 0x88 ∷
    row_of (codes "i64.rotl") 0x89 ∷
    row_of (codes "i64.rotr") 0x8A ∷
    row_of (codes "i32.wrap_i64") 0xA7 ∷
    row_of (codes "i64.extend_i32_s") 0xAC ∷
    row_of (codes "i64.extend_i32_u") 0xAD ∷
    row_of (codes "i32.extend8_s") 0xC0 ∷
    row_of (codes "i32.extend16_s") 0xC1 ∷
    row_of (codes "i64.extend8_s") 0xC2 ∷
    row_of (codes "i64.extend16_s") 0xC3 ∷
    row_of (codes "i64.extend32_s") 0xC4 ∷
    []

-- the opcode of a name in a table
abbrev pub opcode_in : List Named → List ℕ → Option ℕ
opcode_in [] name = None
opcode_in (row ∷ rows) name = if bytes_eq row.name name then Some row.opcode else opcode_in rows name

-- ---- what stands behind a name

-- nothing
abbrev pub alone : {A : Type 0} → A → List (List ℕ) → Option A
alone x [] = Some x
alone x (word ∷ words) = None

-- one word
abbrev pub one : {A : Type 0} → (List ℕ → Option A) → List (List ℕ) → Option A
one read (word ∷ []) = read word
one read _ = None

-- two words
abbrev pub two : {A B : Type 0} → (List ℕ → Option A) → (List ℕ → Option B) → List (List ℕ) → Option (A × B)
two first second (word ∷ other ∷ []) = option_and_then (λ a. option_map (λ b. (a, b)) (second other)) (first word)
two first second _ = None

-- a name has at least one byte
abbrev pub name_of : List ℕ → Option (List ℕ)
name_of [] = None
name_of (byte ∷ bytes) = Some (byte ∷ bytes)

-- a type of values
abbrev pub value_type_of : List ℕ → Option ValueType
value_type_of word =
    if bytes_eq word (codes "i32") then Some I32 else
    if bytes_eq word (codes "i64") then Some I64 else
    if bytes_eq word (codes "f32") then Some F32 else
    if bytes_eq word (codes "f64") then Some F64 else
    None

-- a block's result: nothing, or a type
abbrev pub result_of : List (List ℕ) → Option (Option ValueType)
result_of [] = Some None
result_of (word ∷ []) = option_map Some (value_type_of word)
result_of _ = None

-- one label or more, the last of them the default
abbrev pub labels_of : List (List ℕ) → Option (List ℕ × ℕ)
labels_of [] = None
labels_of (word ∷ []) = option_map (λ n. ([], n)) (word_of word)
labels_of (word ∷ other ∷ words) =
    option_and_then (λ n. option_map (λ t. (n ∷ t.0, t.1)) (labels_of (other ∷ words))) (word_of word)

-- an instruction made of what was read
abbrev pub made : {A : Type 0} → (A → Op) → Option A → Option TextLine
made make read = option_map (λ x. Plain (make x)) read

abbrev pub bare : Op → List (List ℕ) → Option TextLine
bare op words = alone (Plain op) words

-- an opcode with a form of its own
unfoldable pub own_operands : ℕ → List (List ℕ) → Option TextLine
own_operands opcode words =
    if opcode == 0x00 then bare Unreachable words else
    if opcode == 0x01 then bare Nop words else
    if opcode == 0x02 then made Block (result_of words) else
    if opcode == 0x03 then made Loop (result_of words) else
    if opcode == 0x04 then made If (result_of words) else
    if opcode == 0x05 then bare Else words else
    if opcode == 0x0B then bare End words else
    if opcode == 0x0C then made Br (one word_of words) else
    if opcode == 0x0D then made BrIf (one word_of words) else
    if opcode == 0x0E then made (λ t. BrTable t.0 t.1) (labels_of words) else
    if opcode == 0x0F then bare Return words else
    if opcode == 0x10 then option_map (λ name. Call name) (one name_of words) else
    if opcode == 0x1A then bare Drop words else
    if opcode == 0x1B then bare Select words else
    if opcode == 0x20 then made LocalGet (one word_of words) else
    if opcode == 0x21 then made LocalSet (one word_of words) else
    if opcode == 0x22 then made LocalTee (one word_of words) else
    if opcode == 0x23 then made GlobalGet (one word_of words) else
    if opcode == 0x24 then made GlobalSet (one word_of words) else
    if opcode == 0x3F then bare MemorySize words else
    if opcode == 0x41 then made I32Const (one (signed_of 2147483648) words) else
    if opcode == 0x42 then made I64Const (one (signed_of 9223372036854775808) words) else
    None

-- an opcode of this form
unfoldable pub operands : Form → ℕ → List (List ℕ) → Option TextLine
operands forms.Number opcode words = bare (Number opcode) words
operands forms.Load opcode words = made (λ a. Load opcode a.0 a.1) (two word_of word_of words)
operands forms.Store opcode words = made (λ a. Store opcode a.0 a.1) (two word_of word_of words)
operands forms.Other opcode words = own_operands opcode words
operands _ opcode words = None
