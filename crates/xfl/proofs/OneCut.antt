-- A number above 0 has a cut, and only one.
use Rattle.std.proofs.Common.{◌≡◌, ℕ, zero, suc, ◌+◌, ◌-◌, ◌*◌, ◌/◌, ◌^◌, ◌<◌, ◌≤◌, inl, inr, ap, subst, ◌∙◌, arith}
use Rattle.std.proofs.Common.{pos, ◌+ℤ◌, ◌-ℤ◌, unsigned_abs}
use Rattle.std.proofs.Math.Nat.{pow-suc, mul-le-mul_left, mul-le-mul_right, lt_of_mul-lt-mul_right, div-mul-le_self}
use Rattle.std.proofs.Math.Nat.{lt-div-mul-add}
use Rattle.std.proofs.Common.{true, false, nat_lt}
use Rattle.std.proofs.lemmas.Bool.{cases_lt}
use Rattle.std.proofs.lemmas.Bool.Decides.{nat_tests}
use Rattle.std.proofs.lemmas.Nat.{pow-add, le-div, div_below}
use Rattle.std.proofs.lemmas.Int.{ints}
use Rattle.xfl.specs.Cut.{EachHasCut, HasOneCut, beyond, cut16}
use Rattle.xfl.proofs.Cuts.{Cuts, ten_pos, ten_le, at_least_zero, to_cuts, of_cuts, cuts_of_floor}

-- two cuts: the lower exponent is not below the other one
not_below : (p q k m e n f d : ℕ) → 0 < q → f ≡ e + suc d → Cuts p q k m e → Cuts p q k n f → ⊥
not_below p q k m e n f d some h one two =
    let is : 10 ^ f ≡ 10 ^ e * 10 ^ suc d = ap (λ t. 10 ^ t) h ∙ pow-add 10 e (suc d) in
    let low = subst (λ t. n * q * t ≤ p * 10 ^ k) is two.below in
    let both : n * 10 ^ suc d * (q * 10 ^ e) < (m + 1) * (q * 10 ^ e) = omega (arith, low, one.above) in
    let under : n * 10 ^ suc d < m + 1 = lt_of_mul-lt-mul_right (q * 10 ^ e) both in
    let wide : n * 10 ≤ n * 10 ^ suc d = mul-le-mul_left n (ten_le d) in
    absurd (omega (arith, under, wide, two.low, one.high))

-- with one exponent, no mantissa is above the other
not_above : (p q k m n e : ℕ) → Cuts p q k m e → Cuts p q k n e → n < m + 1
not_above p q k m n e one two =
    let both : n * (q * 10 ^ e) < (m + 1) * (q * 10 ^ e) = omega (arith, one.above, two.below) in
    lt_of_mul-lt-mul_right (q * 10 ^ e) both

same_mantissa : (p q k m e n f : ℕ) → f ≡ e → Cuts p q k m e → Cuts p q k n f → m ≡ n
same_mantissa p q k m e n f h one two =
    let two' = subst (λ t. Cuts p q k n t) h two in
    omega (arith, not_above p q k m n e one two', not_above p q k n m e two' one)

same_exponent : (p q k m e n f : ℕ) → 0 < q → Cuts p q k m e → Cuts p q k n f → f ≡ e
same_exponent p q k m e n f some one two =
    elim (cases_lt e f) [
      | inl h ↦ absurd (not_below p q k m e n f (f - suc e) some (omega arith) one two)
      | inr h ↦ elim (cases_lt f e) [
        | inl g ↦ absurd (not_below p q k n f m e (e - suc f) some (omega arith) two one)
        | inr g ↦ omega arith
      ]
    ]

pub has_one_cut : HasOneCut
has_one_cut p q k some m n e f one two =
    let c : ℕ = unsigned_abs k + unsigned_abs e + unsigned_abs f in
    let ks = at_least_zero k c (omega arith) in
    let es = at_least_zero e c (omega arith) in
    let fs = at_least_zero f c (omega arith) in
    let one' = to_cuts p q k m e (pos c) ks.0 es.0 ks.1 es.1 one in
    let two' = to_cuts p q k n f (pos c) ks.0 fs.0 ks.1 fs.1 two in
    let same : fs.0 ≡ es.0 = same_exponent p q ks.0 m es.0 n fs.0 some one' two' in
    (same_mantissa p q ks.0 m es.0 n fs.0 same one' two', omega (arith, ints, es.1, fs.1, ap pos same))

-- the digits beyond sixteen
beyond_low : (fuel n : ℕ) → n < fuel → 10 ^ 15 ≤ n → 10 ^ 15 * 10 ^ beyond fuel n ≤ n
unfolding beyond
beyond_low zero n h long = absurd (omega arith)
beyond_low (suc fuel) n h long =
    elim (cases_lt n (10 ^ 16)) [
      | inl small ↦ let test : nat_lt n (10 ^ 16) ≡ true = grind (arith, nat_tests) in rw test (omega arith)
      | inr big ↦
          let test : nat_lt n (10 ^ 16) ≡ false = grind (arith, nat_tests) in
          let low = beyond_low fuel (n / 10) (omega arith) (omega arith) in
          rw (test, pow-suc 10 (beyond fuel (n / 10))) (omega (arith, low))
    ]

beyond_high : (fuel n : ℕ) → n < fuel → n < 10 ^ 16 * 10 ^ beyond fuel n
unfolding beyond
beyond_high zero n h = absurd (omega arith)
beyond_high (suc fuel) n h =
    elim (cases_lt n (10 ^ 16)) [
      | inl small ↦ let test : nat_lt n (10 ^ 16) ≡ true = grind (arith, nat_tests) in rw test (omega arith)
      | inr big ↦
          let test : nat_lt n (10 ^ 16) ≡ false = grind (arith, nat_tests) in
          let high = beyond_high fuel (n / 10) (omega arith) in
          rw (test, pow-suc 10 (beyond fuel (n / 10))) (omega (arith, high))
    ]

cut_whole : (n d : ℕ) → 10 ^ 15 * 10 ^ d ≤ n → n < 10 ^ 16 * 10 ^ d → Cuts n 1 0 (n / 10 ^ d) d
cut_whole n d low high =
    record {
      low = le-div (10 ^ 15) n (10 ^ d) (ten_pos d) low;
      high = div_below n (10 ^ d) (10 ^ 16) (ten_pos d) high;
      below = omega (arith, div-mul-le_self n (10 ^ d));
      above = omega (arith, lt-div-mul-add {a = n} {b = 10 ^ d} (ten_pos d));
    }

self_le : (n : ℕ) → n ≤ 10 ^ n
self_le zero = omega arith
self_le (suc n) = rw (pow-suc 10 n) (omega (arith, self_le n, ten_pos n))

-- p * 10 ^ (15 + q) / q has sixteen digits or more
long_enough : (p q : ℕ) → 0 < p → 10 ^ 15 * q ≤ p * 10 ^ (15 + q)
long_enough p q h =
    let is : 10 ^ (15 + q) ≡ 10 ^ 15 * 10 ^ q = pow-add 10 15 q in
    let one_times : 1 * 10 ^ (15 + q) ≤ p * 10 ^ (15 + q) = mul-le-mul_right (10 ^ (15 + q)) h in
    omega (arith, is, one_times, self_le q)

pub each_has_cut : EachHasCut
unfolding cut16
each_has_cut p q k some divisible =
    let a : ℕ = 15 + q in
    let n : ℕ = p * 10 ^ a / q in
    let long : 10 ^ 15 ≤ n = le-div (10 ^ 15) (p * 10 ^ a) q divisible (long_enough p q some) in
    let d : ℕ = beyond (suc n) n in
    let cuts = cuts_of_floor p q n 0 a (n / 10 ^ d) d long
    (omega (arith, div-mul-le_self (p * 10 ^ a) q))
    (omega (arith, lt-div-mul-add {a = p * 10 ^ a} {b = q} divisible))
    (cut_whole n d (beyond_low (suc n) n (omega arith) long) (beyond_high (suc n) n (omega arith))) in
    of_cuts p q k (n / 10 ^ d) (k +ℤ pos d -ℤ pos a) (pos a -ℤ k) a d (omega (arith, ints)) (omega (arith, ints)) cuts
