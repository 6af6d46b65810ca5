-- The integer operations of WebAssembly Core 1.0, "Integer Operations", on numbers from 0 to 2 ^ N - 1.
use Rattle.std.specs.Prelude.{ℕ, suc, ℤ, pos, negsuc, neg_ℤ, unsigned_abs, ◌+◌, ◌-◌, ◌*◌, ◌/◌, ◌%◌, ◌^◌, Bool, ◌==◌}
use Rattle.std.specs.Prelude.{◌&&◌, not, nat_lt, nat_le, if◌then◌else◌, Result, Ok, Err, bit_and, bit_or, bit_xor}
use Rattle.std.specs.Int.{Width, w8, w16, w32, w64, cast_signed, cast_unsigned, leading_zeros, trailing_zeros}
use Rattle.std.specs.Int.{from_bool}
use Rattle.std.specs.Int.RustNames.{int_lt, int_le, count_ones}
use mir.Val.{bits, hbits}
use Rattle.hk_base.specs.declared.outcome.Trap.{Trap}
use Rattle.hk_base.specs.declared.outcome.Trap.TheVariants.{DivideByZero, DivideOverflow}
use Rattle.wa_num.specs.declared.operators.Binary.{Binary}
use Rattle.wa_num.specs.declared.operators.Binary.TheVariants.{Add, Sub, Mul, DivS, DivU, RemS, RemU, And, Or, Xor, Shl}
use Rattle.wa_num.specs.declared.operators.Binary.TheVariants.{ShrS, ShrU, Rotl, Rotr}
use Rattle.wa_num.specs.declared.operators.Comparison.{Comparison}
use Rattle.wa_num.specs.declared.operators.Comparison.TheVariants.{Eq, Ne, LtS, LtU, GtS, GtU, LeS, LeU, GeS, GeU}
use Rattle.wa_num.specs.declared.operators.Conversion.{Conversion}
use Rattle.wa_num.specs.declared.operators.Conversion.TheVariants.{Wrap, ExtendS, ExtendU}
use Rattle.wa_num.specs.declared.operators.Unary.{Unary}
use Rattle.wa_num.specs.declared.operators.Unary.TheVariants.{Clz, Ctz, Popcnt, Extend8, Extend16, Extend32}

-- the signed reading of i: i itself below half of 2 ^ N, and i - 2 ^ N from there on
abbrev pub signed : Width → ℕ → ℤ
signed w i = cast_signed w i

-- the number with this signed reading
abbrev pub unsigned : Width → ℤ → ℕ
unsigned w z = cast_unsigned w z

-- the quotient of two integers, rounded toward zero
abbrev pub quotient : ℤ → ℤ → ℤ
quotient (pos a) (pos b) = pos (a / b)
quotient (pos a) (negsuc b) = neg_ℤ (pos (a / suc b))
quotient (negsuc a) (pos b) = neg_ℤ (pos (suc a / b))
quotient (negsuc a) (negsuc b) = pos (suc a / suc b)

-- what that quotient leaves of the first, with its sign
abbrev pub remainder : ℤ → ℤ → ℤ
remainder (pos a) d = pos (a % unsigned_abs d)
remainder (negsuc a) d = neg_ℤ (pos (suc a % unsigned_abs d))

-- an integer divided by a number and rounded down: -(a + 1) by n is -(a / n + 1)
abbrev pub floored : ℤ → ℕ → ℤ
floored (pos a) n = pos (a / n)
floored (negsuc a) n = negsuc (a / n)

-- of the signed readings; the quotient of the least number by -1 would be 2 ^ (N - 1), which has no signed reading
abbrev pub divide_signed : Width → ℕ → ℕ → Result ℕ Trap
divide_signed w a b =
    if b == 0 then Err DivideByZero else
    if (a == 2 ^ hbits w) && (b == 2 ^ bits w - 1) then Err DivideOverflow else
    Ok (unsigned w (quotient (signed w a) (signed w b)))

-- of the signed readings; 0 for the least number by -1
abbrev pub remainder_signed : Width → ℕ → ℕ → Result ℕ Trap
remainder_signed w a b = if b == 0 then Err DivideByZero else Ok (unsigned w (remainder (signed w a) (signed w b)))

-- the binary digits of a, turned k places toward the high end, where k is below N: those past the end come back in at
-- the low one
abbrev pub turned_left : Width → ℕ → ℕ → ℕ
turned_left w a k = bit_or ((a * 2 ^ k) % 2 ^ bits w) (a / 2 ^ ((bits w - k) % bits w))

-- the same, k places toward the low end
abbrev pub turned_right : Width → ℕ → ℕ → ℕ
turned_right w a k = bit_or (a / 2 ^ k) ((a * 2 ^ ((bits w - k) % bits w)) % 2 ^ bits w)

abbrev pub binary : Width → Binary → ℕ → ℕ → Result ℕ Trap
binary w Add a b = Ok ((a + b) % 2 ^ bits w)
binary w Sub a b = Ok ((a + (2 ^ bits w - b)) % 2 ^ bits w)
binary w Mul a b = Ok ((a * b) % 2 ^ bits w)
binary w DivS a b = divide_signed w a b
binary w DivU a b = if b == 0 then Err DivideByZero else Ok (a / b)
binary w RemS a b = remainder_signed w a b
binary w RemU a b = if b == 0 then Err DivideByZero else Ok (a % b)
binary w And a b = Ok (bit_and a b)
binary w Or a b = Ok (bit_or a b)
binary w Xor a b = Ok (bit_xor a b)
binary w Shl a b = Ok ((a * 2 ^ (b % bits w)) % 2 ^ bits w)
binary w ShrS a b = Ok (unsigned w (floored (signed w a) (2 ^ (b % bits w))))
binary w ShrU a b = Ok (a / 2 ^ (b % bits w))
binary w Rotl a b = Ok (turned_left w a (b % bits w))
binary w Rotr a b = Ok (turned_right w a (b % bits w))

-- How many of the N binary digits are 0 above the highest 1, or below the lowest 1, all N of them for 0; and how many
-- are 1.
-- The low 8, 16 or 32 bits, read as signed (the proposal "Sign-extension operators").
abbrev pub unary : Width → Unary → ℕ → ℕ
unary w Clz a = leading_zeros w a
unary w Ctz a = trailing_zeros w a
unary w Popcnt a = count_ones a
unary w Extend8 a = unsigned w (signed w8 (a % 2 ^ 8))
unary w Extend16 a = unsigned w (signed w16 (a % 2 ^ 16))
unary w Extend32 a = unsigned w (signed w32 (a % 2 ^ 32))

abbrev pub is_related : Width → Comparison → ℕ → ℕ → Bool
is_related w Eq a b = a == b
is_related w Ne a b = not (a == b)
is_related w LtS a b = int_lt (signed w a) (signed w b)
is_related w LtU a b = nat_lt a b
is_related w GtS a b = int_lt (signed w b) (signed w a)
is_related w GtU a b = nat_lt b a
is_related w LeS a b = int_le (signed w a) (signed w b)
is_related w LeU a b = nat_le a b
is_related w GeS a b = int_le (signed w b) (signed w a)
is_related w GeU a b = nat_le b a

-- 1 where the operands are so related, else 0
abbrev pub comparison : Width → Comparison → ℕ → ℕ → ℕ
comparison w c a b = from_bool (is_related w c a b)

-- 1 for 0, and 0 for each other number
abbrev pub zero_test : ℕ → ℕ
zero_test a = from_bool (a == 0)

-- the low 32 binary digits; the signed reading at 32 as a number of 64; the number itself
abbrev pub conversion : Conversion → ℕ → ℕ
conversion Wrap a = a % 2 ^ 32
conversion ExtendS a = unsigned w64 (signed w32 a)
conversion ExtendU a = a
