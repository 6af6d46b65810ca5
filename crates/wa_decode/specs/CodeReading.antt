-- Reading instructions and expressions from left to right.
use Rattle.std.specs.Prelude.{ℕ, zero, suc, Bool, true, false, ◌==◌, if◌then◌else◌, List, [], ◌∷◌, length, Option, Some}
use Rattle.std.specs.Prelude.{None}
use Rattle.wa_ops.specs.Opcodes.{form_at}
use Rattle.wa_ops.specs.Sequences.{Nesting, nesting, opens_block, opens_loop, opens_if, turns, closes, stands}
use Rattle.wa_ops.specs.declared.op.Op.{Op}
use Rattle.wa_ops.specs.declared.op.Op.TheVariants.{Unreachable, Nop, Block, Loop, If, Else, End, Br, BrIf, BrTable}
use Rattle.wa_ops.specs.declared.op.Op.TheVariants.{Return, Call, CallIndirect, Drop, Select, LocalGet, LocalSet}
use Rattle.wa_ops.specs.declared.op.Op.TheVariants.{LocalTee, GlobalGet, GlobalSet, Load, Store, MemorySize, MemoryGrow}
use Rattle.wa_ops.specs.declared.op.Op.TheVariants.{I32Const, I64Const, Number, Float}
use Rattle.wa_ops.specs.declared.op.ValueType.{ValueType}
use Rattle.wa_ops.specs.declared.op.ValueType.TheVariants.{I32, I64, F32, F64}
use Rattle.wa_ops.specs.declared.opcode.Form.{Form}
use Rattle.wa_ops.specs.declared.opcode.Form.TheVariants as forms
use Rattle.wa_decode.specs.Instructions.{constant_size}
use Rattle.wa_decode.specs.Reading.{◌>>=◌, made_at, both_at, tag_at, unsigned_at, signed_at, cut_at, vector_at}

abbrev pub type_of : ℕ → Option ValueType
type_of b =
    if b == 0x7F then Some I32 else
    if b == 0x7E then Some I64 else
    if b == 0x7D then Some F32 else
    if b == 0x7C then Some F64 else
    None

unfoldable pub value_type_at : List ℕ → Option (ValueType × List ℕ)
value_type_at [] = None
value_type_at (b ∷ bs) = type_of b >>= λ kind. Some (kind, bs)

unfoldable pub result_at : List ℕ → Option (Option ValueType × List ℕ)
result_at [] = None
result_at (b ∷ bs) = if b == 0x40 then Some (None, bs) else (type_of b >>= λ kind. Some (Some kind, bs))

unfoldable pub access_at : List ℕ → Option ((ℕ × ℕ) × List ℕ)
access_at bytes = both_at (unsigned_at 32) (unsigned_at 32) bytes

-- a byte that is zero
unfoldable pub zero_at : List ℕ → Option (Unit {0} × List ℕ)
zero_at bytes = tag_at 0x00 (λ rest. Some (tt, rest)) bytes

unfoldable pub table_at : List ℕ → Option ((List ℕ × ℕ) × List ℕ)
table_at bytes = both_at (vector_at (unsigned_at 32)) (unsigned_at 32) bytes

unfoldable pub indirect_at : List ℕ → Option ((ℕ × Unit {0}) × List ℕ)
indirect_at bytes = both_at (unsigned_at 32) zero_at bytes

abbrev pub br_table : List ℕ × ℕ → Op
br_table t = BrTable t.0 t.1

abbrev pub call_indirect : ℕ × Unit {0} → Op
call_indirect c = CallIndirect c.0

-- an opcode with a form of its own
unfoldable pub other_at : ℕ → List ℕ → Option (Op × List ℕ)
other_at code bytes =
    if code == 0x00 then Some (Unreachable, bytes) else
    if code == 0x01 then Some (Nop, bytes) else
    if code == 0x02 then made_at Block result_at bytes else
    if code == 0x03 then made_at Loop result_at bytes else
    if code == 0x04 then made_at If result_at bytes else
    if code == 0x05 then Some (Else, bytes) else
    if code == 0x0B then Some (End, bytes) else
    if code == 0x0C then made_at Br (unsigned_at 32) bytes else
    if code == 0x0D then made_at BrIf (unsigned_at 32) bytes else
    if code == 0x0E then made_at br_table table_at bytes else
    if code == 0x0F then Some (Return, bytes) else
    if code == 0x10 then made_at Call (unsigned_at 32) bytes else
    if code == 0x11 then made_at call_indirect indirect_at bytes else
    if code == 0x1A then Some (Drop, bytes) else
    if code == 0x1B then Some (Select, bytes) else
    if code == 0x20 then made_at LocalGet (unsigned_at 32) bytes else
    if code == 0x21 then made_at LocalSet (unsigned_at 32) bytes else
    if code == 0x22 then made_at LocalTee (unsigned_at 32) bytes else
    if code == 0x23 then made_at GlobalGet (unsigned_at 32) bytes else
    if code == 0x24 then made_at GlobalSet (unsigned_at 32) bytes else
    if code == 0x3F then made_at (λ z. MemorySize) zero_at bytes else
    if code == 0x40 then made_at (λ z. MemoryGrow) zero_at bytes else
    if code == 0x41 then made_at I32Const (signed_at 32) bytes else
    if code == 0x42 then made_at I64Const (signed_at 64) bytes else
    None

-- an opcode of this form
unfoldable pub formed_at : Form → ℕ → List ℕ → Option (Op × List ℕ)
formed_at forms.Number code bytes = Some (Number code, bytes)
formed_at forms.Load code bytes = made_at (λ a. Load code a.0 a.1) access_at bytes
formed_at forms.Store code bytes = made_at (λ a. Store code a.0 a.1) access_at bytes
formed_at forms.FloatAccess code bytes = made_at (λ a. Float code) access_at bytes
formed_at forms.FloatNumber code bytes = Some (Float code, bytes)
formed_at forms.FloatConstant code bytes = made_at (λ a. Float code) (cut_at (constant_size code)) bytes
formed_at forms.Other code bytes = other_at code bytes

unfoldable pub op_at : List ℕ → Option (Op × List ℕ)
op_at [] = None
op_at (code ∷ bytes) = formed_at (form_at code) code bytes

-- ---- expressions

-- Of each region that is open, the innermost first: whether an `else` may still come in it.
-- What is open behind an instruction; none where it can't stand there.
abbrev pub at_else : List Bool → Option (List Bool)
at_else (true ∷ around) = Some (false ∷ around)
at_else _ = None

abbrev pub at_end : List Bool → Option (List Bool)
at_end [] = None
at_end (may ∷ around) = Some around

abbrev pub opened_by : Nesting → List Bool → Option (List Bool)
opened_by (opens_block result) around = Some (false ∷ around)
opened_by (opens_loop result) around = Some (false ∷ around)
opened_by (opens_if result) around = Some (true ∷ around)
opened_by turns around = at_else around
opened_by closes around = at_end around
opened_by stands around = Some around

abbrev pub opened : Op → List Bool → Option (List Bool)
opened op around = opened_by (nesting op) around

-- what is read behind an instruction, by what is then open
abbrev pub rest_at : Op → List ℕ → (List Bool → Option (List Op × List ℕ)) → Option (List Bool) →
    Option (List Op × List ℕ)
rest_at op bytes next None = None
rest_at op bytes next (Some []) = Some (op ∷ [], bytes)
rest_at op bytes next (Some (may ∷ around)) = next (may ∷ around) >>= λ r. Some (op ∷ r.0, r.1)

-- at most so many instructions, up to the end of the outermost region
unfoldable pub regions_at : ℕ → List Bool → List ℕ → Option (List Op × List ℕ)
regions_at zero around bytes = None
regions_at (suc n) around bytes = op_at bytes >>= λ x. rest_at x.0 x.1 (λ now. regions_at n now x.1) (opened x.0 around)

unfoldable pub expression_at : List ℕ → Option (List Op × List ℕ)
expression_at bytes = regions_at (length bytes) (false ∷ []) bytes
