-- Which operation an opcode names (WebAssembly Core 1.0, binary format, "Numeric Instructions"): that of i32, or that
-- of i64.
use Rattle.std.specs.Prelude.{ℕ, ◌==◌, ◌||◌, if◌then◌else◌}
use Rattle.wa_num.specs.declared.operators.Binary.{Binary}
use Rattle.wa_num.specs.declared.operators.Binary.TheVariants.{Add, Sub, Mul, DivS, DivU, RemS, RemU, And, Or, Xor, Shl}
use Rattle.wa_num.specs.declared.operators.Binary.TheVariants.{ShrS, ShrU, Rotl, Rotr}
use Rattle.wa_num.specs.declared.operators.Comparison.{Comparison}
use Rattle.wa_num.specs.declared.operators.Comparison.TheVariants.{Eq, Ne, LtS, LtU, GtS, GtU, LeS, LeU, GeS, GeU}
use Rattle.wa_num.specs.declared.operators.Conversion.{Conversion}
use Rattle.wa_num.specs.declared.operators.Conversion.TheVariants.{Wrap, ExtendS, ExtendU}
use Rattle.wa_num.specs.declared.operators.Unary.{Unary}
use Rattle.wa_num.specs.declared.operators.Unary.TheVariants.{Clz, Ctz, Popcnt, Extend8, Extend16, Extend32}

-- of 6A to 78 and of 7C to 8A
abbrev pub binary_at : ℕ → Binary
binary_at n =
    if n == 0x6A || n == 0x7C then Add else
    if n == 0x6B || n == 0x7D then Sub else
    if n == 0x6C || n == 0x7E then Mul else
    if n == 0x6D || n == 0x7F then DivS else
    if n == 0x6E || n == 0x80 then DivU else
    if n == 0x6F || n == 0x81 then RemS else
    if n == 0x70 || n == 0x82 then RemU else
    if n == 0x71 || n == 0x83 then And else
    if n == 0x72 || n == 0x84 then Or else
    if n == 0x73 || n == 0x85 then Xor else
    if n == 0x74 || n == 0x86 then Shl else
    if n == 0x75 || n == 0x87 then ShrS else
    if n == 0x76 || n == 0x88 then ShrU else
    if n == 0x77 || n == 0x89 then Rotl else
    Rotr

-- of 67 to 69 and of 79 to 7B; of C0 to C4
abbrev pub unary_at : ℕ → Unary
unary_at n =
    if n == 0x67 || n == 0x79 then Clz else
    if n == 0x68 || n == 0x7A then Ctz else
    if n == 0xC0 || n == 0xC2 then Extend8 else
    if n == 0xC1 || n == 0xC3 then Extend16 else
    if n == 0xC4 then Extend32 else
    Popcnt

-- of 46 to 4F and of 51 to 5A
abbrev pub comparison_at : ℕ → Comparison
comparison_at n =
    if n == 0x46 || n == 0x51 then Eq else
    if n == 0x47 || n == 0x52 then Ne else
    if n == 0x48 || n == 0x53 then LtS else
    if n == 0x49 || n == 0x54 then LtU else
    if n == 0x4A || n == 0x55 then GtS else
    if n == 0x4B || n == 0x56 then GtU else
    if n == 0x4C || n == 0x57 then LeS else
    if n == 0x4D || n == 0x58 then LeU else
    if n == 0x4E || n == 0x59 then GeS else
    GeU

-- of A7, AC and AD
abbrev pub conversion_at : ℕ → Conversion
conversion_at n = if n == 0xA7 then Wrap else (if n == 0xAC then ExtendS else ExtendU)
