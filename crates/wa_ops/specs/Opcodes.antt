-- The forms of opcodes (WebAssembly Core 1.0, binary format, "Instructions").
use Rattle.std.specs.Prelude.{ℕ, Bool, ◌==◌, ◌&&◌, ◌||◌, nat_le, if◌then◌else◌}
use Rattle.wa_ops.specs.declared.opcode.Form.{Form}
use Rattle.wa_ops.specs.declared.opcode.Form.TheVariants.{Number, Load, Store, FloatAccess, FloatNumber, FloatConstant}
use Rattle.wa_ops.specs.declared.opcode.Form.TheVariants.{Other}

-- n lies from the first number to the second
abbrev pub among : ℕ → ℕ → ℕ → Bool
among low high n = nat_le low n && nat_le n high

-- i32.load, i64.load; i32.load8_s to i64.load32_u
abbrev pub is_load : ℕ → Bool
is_load n = n == 0x28 || n == 0x29 || among 0x2C 0x35 n

-- i32.store, i64.store; i32.store8 to i64.store32
abbrev pub is_store : ℕ → Bool
is_store n = n == 0x36 || n == 0x37 || among 0x3A 0x3E n

-- f32.load, f64.load, f32.store, f64.store
abbrev pub is_float_access : ℕ → Bool
is_float_access n = n == 0x2A || n == 0x2B || n == 0x38 || n == 0x39

-- the sign extension operators, from i32.extend8_s to i64.extend32_s (WebAssembly's proposal "Sign-extension
-- operators")
abbrev pub is_extension : ℕ → Bool
is_extension n = among 0xC0 0xC4 n

-- i32.clz, i32.ctz, i32.popcnt; i32.extend8_s, i32.extend16_s
abbrev pub is_unary32 : ℕ → Bool
is_unary32 n = among 0x67 0x69 n || among 0xC0 0xC1 n

-- i64.clz, i64.ctz, i64.popcnt; i64.extend8_s, i64.extend16_s, i64.extend32_s
abbrev pub is_unary64 : ℕ → Bool
is_unary64 n = among 0x79 0x7B n || among 0xC2 0xC4 n

-- i32.eqz to i64.ge_u; i32.clz to i64.rotr; i32.wrap_i64, i64.extend_i32_s, i64.extend_i32_u; the sign extension
-- operators
abbrev pub is_number : ℕ → Bool
is_number n = among 0x45 0x5A n || among 0x67 0x8A n || n == 0xA7 || n == 0xAC || n == 0xAD || is_extension n

-- f32.eq to f64.ge; f32.abs to f64.copysign; the conversions from floats and to them
abbrev pub is_float_number : ℕ → Bool
is_float_number n = among 0x5B 0x66 n || among 0x8B 0xA6 n || among 0xA8 0xAB n || among 0xAE 0xBF n

abbrev pub form_at : ℕ → Form
form_at n =
    if is_load n then Load else
    if is_store n then Store else
    if is_float_access n then FloatAccess else
    if n == 0x43 || n == 0x44 then FloatConstant else
    if is_number n then Number else
    if is_float_number n then FloatNumber else
    Other
