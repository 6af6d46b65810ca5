-- What the opcodes of loads, stores and numeric instructions take and give (WebAssembly Core 1.0, "Memory
-- Instructions", "Numeric Instructions").
use Rattle.std.specs.Prelude.{ℕ, Bool, ◌==◌, ◌||◌, if◌then◌else◌, List, [], ◌∷◌}
use Rattle.wa_ops.specs.declared.op.ValueType.{ValueType}
use Rattle.wa_ops.specs.declared.op.ValueType.TheVariants.{I32, I64}
use Rattle.wa_ops.specs.Opcodes.{among, is_unary32, is_unary64}

-- i64.load, and the loads of 8, 16 and 32 bits into an i64; each other load gives an i32
abbrev pub load_type : ℕ → ValueType
load_type n = if n == 0x29 || among 0x30 0x35 n then I64 else I32

-- the bytes that a load reads
abbrev pub load_width : ℕ → ℕ
load_width n =
    if n == 0x28 then 4 else if n == 0x29 then 8 else
    if n == 0x2C || n == 0x2D || n == 0x30 || n == 0x31 then 1 else
    if n == 0x2E || n == 0x2F || n == 0x32 || n == 0x33 then 2 else 4

-- the loads whose number is read as signed
abbrev pub is_signed_load : ℕ → Bool
is_signed_load n = n == 0x2C || n == 0x2E || n == 0x30 || n == 0x32 || n == 0x34

-- i64.store, and the stores of the low 8, 16 and 32 bits of an i64; each other store takes an i32
abbrev pub store_type : ℕ → ValueType
store_type n = if n == 0x37 || among 0x3C 0x3E n then I64 else I32

-- the bytes that a store writes
abbrev pub store_width : ℕ → ℕ
store_width n =
    if n == 0x36 then 4 else if n == 0x37 then 8 else
    if n == 0x3A || n == 0x3C then 1 else
    if n == 0x3B || n == 0x3D then 2 else 4

-- the operands of a numeric instruction, the last pushed first
abbrev pub number_takes : ℕ → List ValueType
number_takes n =
    if n == 0x45 || is_unary32 n || n == 0xAC || n == 0xAD then I32 ∷ [] else
    if n == 0x50 || is_unary64 n || n == 0xA7 then I64 ∷ [] else
    if among 0x46 0x4F n || among 0x6A 0x78 n then I32 ∷ I32 ∷ [] else
    I64 ∷ I64 ∷ []

abbrev pub number_gives : ℕ → ValueType
number_gives n = if among 0x79 0x8A n || n == 0xAC || n == 0xAD || among 0xC2 0xC4 n then I64 else I32
