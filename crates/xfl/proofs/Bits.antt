-- Decimals and their bits are one to one.
use Rattle.std.proofs.Common.{◌≡◌, ℕ, ◌+◌, ◌-◌, ◌/◌, ◌%◌, ◌^◌, ◌<◌, ◌≤◌, refl, sym, ap, subst, ◌∙◌, arith, inl, inr}
use Rattle.std.proofs.Common.{Bool, true, false, ℤ, pos, ◌+ℤ◌, ◌-ℤ◌, unsigned_abs, eqb, if◌then◌else◌}
use Rattle.std.proofs.lemmas.Bool.{cases_eq}
use Rattle.std.proofs.lemmas.Bool.Decides.{nat_tests}
use Rattle.std.proofs.lemmas.Int.{ints}
use Rattle.xo_fields.specs.Decimal.{decimal_bits, IsDecimal}
use Rattle.xfl.specs.Value.{Decimal, IsXfl, IsNumber, IsXflBits, bits_of, decimal_of, BitsGiveBack, DecimalGivesBack}
use Rattle.xfl.proofs.Sums.{place_of}

-- the sign's bit
abbrev positive : Bool → ℕ
positive true = 0
positive false = 1

sign_is : (n : Bool) → (if n then 0 else 1) ≡ positive n
sign_is true = refl
sign_is false = refl

number_bits : (x : Decimal) (b : ℕ) → IsNumber x → x.exponent +ℤ pos 96 ≡ pos b →
    bits_of x ≡ pos (decimal_bits (positive x.negative) (b + 1) x.mantissa)
number_bits x b h is =
    let some : eqb x.mantissa 0 ≡ false = grind (arith, nat_tests, h.low) in
    let up : x.exponent +ℤ pos 97 ≡ pos (b + 1) = omega (arith, ints) in
    let biased : unsigned_abs (x.exponent +ℤ pos 97) ≡ b + 1 = ap unsigned_abs up in
    rw (some, biased) (ap (λ t. pos (decimal_bits t (b + 1) x.mantissa)) (sign_is x.negative))

sign : (n : Bool) → positive n < 2
sign true = omega arith
sign false = omega arith

turned : (n : Bool) → eqb (positive n) 0 ≡ n
turned true = refl
turned false = refl

back : (n : Bool) (m b : ℕ) (e : ℤ) → 10 ^ 15 ≤ m → m < 10 ^ 16 → b ≤ 176 → e +ℤ pos 96 ≡ pos b →
    decimal_of (pos (decimal_bits (positive n) (b + 1) m)) ≡ record { negative = n; mantissa = m; exponent = e }
back n m b e low high top is =
    let bits : ℕ = decimal_bits (positive n) (b + 1) m in
    let below : positive n < 2 = sign n in
    let some : eqb bits 0 ≡ false = grind (arith, nat_tests) in
    let digits : bits % 2 ^ 54 ≡ m = omega arith in
    let biased : bits / 2 ^ 54 % 256 ≡ b + 1 = omega arith in
    let top_bit : bits / 2 ^ 62 ≡ positive n = omega arith in
    let exponent : pos (b + 1) -ℤ pos 97 ≡ e = omega (arith, ints) in
    rw (some, digits, biased, top_bit, exponent)
    (ap (λ t. record { negative = t; mantissa = m; exponent = e }) (turned n))

pub bits_give_back : BitsGiveBack
bits_give_back x (inl h) =
    subst (λ t. IsXflBits (bits_of t) × (decimal_of (bits_of t) ≡ t)) (sym h) ((0, refl, inl refl), refl)
bits_give_back x (inr h) =
    let (b, is) = place_of x.exponent h.least in
    let top : b ≤ 176 = omega (arith, ints) in
    let spelled = number_bits x b h is in (
      (
        decimal_bits (positive x.negative) (b + 1) x.mantissa,
        spelled,
        inr (
          positive x.negative,
          b + 1,
          x.mantissa,
          record {
            sign = sign x.negative;
            exponent_low = omega arith;
            exponent_high = omega arith;
            mantissa_low = h.low;
            mantissa_high = h.high;
            is = refl;
          },
        ),
      ),
      ap decimal_of spelled ∙ back x.negative x.mantissa b x.exponent h.low h.high top is,
    )

there : (n : Bool) (b m : ℕ) → b ≤ 176 → 10 ^ 15 ≤ m → m < 10 ^ 16 →
    IsXfl (decimal_of (pos (decimal_bits (positive n) (b + 1) m)))
    × (bits_of (decimal_of (pos (decimal_bits (positive n) (b + 1) m))) ≡ pos (decimal_bits (positive n) (b + 1) m))
there n b m top low high =
    let x : Decimal = record { negative = n; mantissa = m; exponent = pos b -ℤ pos 96 } in
    let is : x.exponent +ℤ pos 96 ≡ pos b = omega (arith, ints) in
    let valid : IsNumber x = record {
      low = low;
      high = high;
      least = omega (arith, ints);
      greatest = omega (arith, ints);
    } in
    subst (λ t. IsXfl t × (bits_of t ≡ pos (decimal_bits (positive n) (b + 1) m)))
    (sym (back n m b x.exponent low high top is))
    (inr valid, number_bits x b valid is)

sign_of : (p : ℕ) → p < 2 → (n : Bool) × (p ≡ positive n)
sign_of p h = elim (cases_eq p 0) [ inl z ↦ (true, z) | inr z ↦ (false, omega arith) ]

given_back : (number : ℕ) → IsDecimal number →
    IsXfl (decimal_of (pos number)) × (bits_of (decimal_of (pos number)) ≡ pos number)
given_back number (inl z) =
    subst (λ t. IsXfl (decimal_of (pos t)) × (bits_of (decimal_of (pos t)) ≡ pos t)) (sym z) (inl refl, refl)
given_back number (inr (p, b, m, h)) =
    let (n, is) = sign_of p h.sign in
    let low = h.exponent_low in
    let high = h.exponent_high in
    let up : b ≡ (b - 1) + 1 = omega arith in
    let spelled : number ≡ decimal_bits (positive n) (b - 1 + 1) m =
    h.is ∙ ap (λ t. decimal_bits t b m) is ∙ ap (λ t. decimal_bits (positive n) t m) up in
    subst (λ t. IsXfl (decimal_of (pos t)) × (bits_of (decimal_of (pos t)) ≡ pos t)) (sym spelled)
    (there n (b - 1) m (omega arith) h.mantissa_low h.mantissa_high)

pub decimal_gives_back : DecimalGivesBack
decimal_gives_back bits (number, is, h) =
    subst (λ t. IsXfl (decimal_of t) × (bits_of (decimal_of t) ≡ t)) (sym is) (given_back number h)
