-- Whole numbers of 64 bits.
use Rattle.std.proofs.Common.{◌≡◌, ℕ, ◌-◌, ◌*◌, ◌/◌, ◌^◌, ◌<◌, ◌≤◌, arith, Err, Bool, true, false}
use mir.Val.{bool_byte}
use Rattle.std.proofs.lemmas.Bool.Decides.{nat_tests}
use Rattle.std.proofs.Math.Nat.{mul-le-mul, pow-le-pow_right, div-eq_of_lt}
use Rattle.xfl.specs.declared.fault.XflFault.TheVariants.{TooBig}
use Rattle.xfl.specs.Operations.{fitted}

pub ten_rises : (i j : ℕ) → i ≤ j → 10 ^ i ≤ 10 ^ j
ten_rises i j h = pow-le-pow_right {n = 10} (omega arith) h

-- sixteen digits over a higher power of ten
pub all_dropped : (m d : ℕ) → m < 10 ^ 16 → 16 < d → m / 10 ^ d ≡ 0
all_dropped m d short many = div-eq_of_lt (omega (arith, ten_rises 16 d (omega arith)))

-- a whole number times a high power of ten
too_big : (n : ℕ) → 2 ^ 63 - 1 < n → fitted n ≡ Err TooBig
too_big n h = grind (arith, nat_tests)

pub all_added : (m d : ℕ) → 0 < m → 22 < d → fitted (m * 10 ^ d) ≡ Err TooBig
all_added m d some many =
    too_big (m * 10 ^ d)
    (omega (arith, mul-le-mul {n₁ = 1} {m₁ = 10 ^ 22} {n₂ = m} {m₂ = 10 ^ d} some (ten_rises 22 d (omega arith))))

pub few_added : (m d : ℕ) → m < 10 ^ 16 → d ≤ 22 → m * 10 ^ d < 2 ^ 128
few_added m d short few =
    let digits : m ≤ 10 ^ 16 = omega arith in
    omega (arith, mul-le-mul digits (ten_rises d 22 few))

pub byte_below : (b : Bool) → bool_byte b < 2
byte_below true = omega arith
byte_below false = omega arith
