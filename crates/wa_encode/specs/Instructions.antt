-- The bytes of an instruction and of an expression
-- (WebAssembly Core 1.0, binary format, "Instructions" and "Expressions").
use Rattle.std.specs.Prelude.{ℕ, List, [], ◌∷◌, ◌++◌, replicate, flat_map}
use Rattle.wa_ops.specs.Opcodes.{form_at}
use Rattle.wa_ops.specs.declared.op.Op.{Op}
use Rattle.wa_ops.specs.declared.op.Op.TheVariants.{Unreachable, Nop, Block, Loop, If, Else, End, Br, BrIf, BrTable}
use Rattle.wa_ops.specs.declared.op.Op.TheVariants.{Return, Call, CallIndirect, Drop, Select, LocalGet, LocalSet}
use Rattle.wa_ops.specs.declared.op.Op.TheVariants.{LocalTee, GlobalGet, GlobalSet, Load, Store, MemorySize, MemoryGrow}
use Rattle.wa_ops.specs.declared.op.Op.TheVariants.{I32Const, I64Const, Number, Float}
use Rattle.wa_ops.specs.declared.opcode.Form.{Form}
use Rattle.wa_ops.specs.declared.opcode.Form.TheVariants as forms
use Rattle.wa_decode.specs.Instructions.{result_byte, constant_size}
use Rattle.wa_encode.specs.Numbers.{number, signed}
use Rattle.wa_encode.specs.Vectors.{vector}

-- what stands behind the opcode of a float leaves no trace in the module: zeros are written, as many as its form wants
abbrev pub float_operands : Form → ℕ → List ℕ
float_operands forms.FloatAccess opcode = replicate 2 0
float_operands forms.FloatConstant opcode = replicate (constant_size opcode) 0
float_operands _ opcode = []

abbrev pub op : Op → List ℕ
op Unreachable = 0x00 ∷ []
op Nop = 0x01 ∷ []
op (Block result) = 0x02 ∷ result_byte result ∷ []
op (Loop result) = 0x03 ∷ result_byte result ∷ []
op (If result) = 0x04 ∷ result_byte result ∷ []
op Else = 0x05 ∷ []
op End = 0x0B ∷ []
op (Br label) = 0x0C ∷ number label
op (BrIf label) = 0x0D ∷ number label
op (BrTable labels last) = 0x0E ∷ (vector number labels ++ number last)
op Return = 0x0F ∷ []
op (Call index) = 0x10 ∷ number index
op (CallIndirect index) = 0x11 ∷ (number index ++ 0x00 ∷ [])
op Drop = 0x1A ∷ []
op Select = 0x1B ∷ []
op (LocalGet index) = 0x20 ∷ number index
op (LocalSet index) = 0x21 ∷ number index
op (LocalTee index) = 0x22 ∷ number index
op (GlobalGet index) = 0x23 ∷ number index
op (GlobalSet index) = 0x24 ∷ number index
op (Load opcode align offset) = opcode ∷ (number align ++ number offset)
op (Store opcode align offset) = opcode ∷ (number align ++ number offset)
op MemorySize = 0x3F ∷ 0x00 ∷ []
op MemoryGrow = 0x40 ∷ 0x00 ∷ []
op (I32Const n) = 0x41 ∷ signed n
op (I64Const n) = 0x42 ∷ signed n
op (Number opcode) = opcode ∷ []
op (Float opcode) = opcode ∷ float_operands (form_at opcode) opcode

-- an expression has its own `end` as its last instruction
abbrev pub expression : List Op → List ℕ
expression ops = flat_map op ops
