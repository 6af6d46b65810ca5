-- From the digits that the code finds to the answers of the definitions.
use Rattle.std.proofs.Common.{◌≡◌, ℕ, ◌+◌, ◌-◌, ◌*◌, ◌/◌, ◌%◌, ◌^◌, ◌<◌, ◌≤◌, refl, sym, ap, subst, ◌∙◌, arith, Bool}
use Rattle.std.proofs.Common.{true, false, not, inl, inr, ◌≤ℤ◌, ℤ, pos, negsuc, ◌+ℤ◌, ◌-ℤ◌, to_z, of_z, w64, Result}
use Rattle.std.proofs.Math.Nat.{div-mul-le_self, lt-div-mul-add, mul-le-mul_right, mul-lt-mul_of_pos_right}
use Rattle.std.proofs.lemmas.Nat.{pow-add, le-div}
use Rattle.std.proofs.lemmas.Int.{ints}
use Rattle.xfl.specs.declared.fault.XflFault.{XflFault}
use Rattle.std.specs.Bool.{beq}
use Rattle.xfl.specs.Value.{Decimal, IsXfl, tens}
use Rattle.xfl.specs.Cut.{IsCut, IsExact}
use Rattle.xfl.specs.Operations.{differ, ranged, next_ranged}
use Rattle.xfl.specs.Steps.{IsRounded, IsRoundedUp}
use Rattle.xfl.proofs.Cuts.{ten_pos, floor_cut, floor_exact, of_floor_exact, moved, moved_exact, scaled_cut}
use Rattle.xfl.proofs.Cuts.{scaled_exact}

-- the digits of a whole number whose first one is at a place up to the fifteenth
pub short_low : (n p : ℕ) → p ≤ 15 → 10 ^ p ≤ n → 10 ^ 15 ≤ n * 10 ^ (15 - p)
short_low n p few low =
    let whole : 15 ≡ p + (15 - p) = omega arith in
    let is : 10 ^ 15 ≡ 10 ^ p * 10 ^ (15 - p) = ap (λ t. 10 ^ t) whole ∙ pow-add 10 p (15 - p) in
    omega (arith, is, mul-le-mul_right (10 ^ (15 - p)) low)

pub short_high : (n p : ℕ) → p ≤ 15 → n < 10 * 10 ^ p → n * 10 ^ (15 - p) < 10 ^ 16
short_high n p few high =
    let whole : 15 ≡ p + (15 - p) = omega arith in
    let is : 10 ^ 15 ≡ 10 ^ p * 10 ^ (15 - p) = ap (λ t. 10 ^ t) whole ∙ pow-add 10 p (15 - p) in
    omega (arith, is, mul-lt-mul_of_pos_right high (ten_pos (15 - p)))

-- and beyond it
pub long_power : (p : ℕ) → 15 ≤ p → 10 ^ 15 * 10 ^ (p - 15) ≡ 10 ^ p
long_power p many =
    let whole : p ≡ 15 + (p - 15) = omega arith in
    sym (ap (λ t. 10 ^ t) whole ∙ pow-add 10 15 (p - 15))

tens_pos : (z : ℤ) → 0 < tens z
tens_pos (pos n) = ten_pos n
tens_pos (negsuc n) = omega arith

pub quotient_cut : (p q m : ℕ) (e f : ℤ) → f ≡ e → 0 < q → 10 ^ 15 * q ≤ p → IsCut (p / q) 1 (pos 0) m e →
    IsCut p q (pos 0) m f
quotient_cut p q m e f is some long cut =
    subst (λ t. IsCut p q (pos 0) m t) (sym is)
    (floor_cut p q (p / q) (pos 0) m e (le-div (10 ^ 15) p q some long) (div-mul-le_self p q)
    (omega (arith, lt-div-mul-add {a = p} {b = q} some)) cut)

pub quotient_exact : (p q m : ℕ) (e f : ℤ) → f ≡ e → 0 < q → p % q ≡ 0 → IsExact (p / q) 1 (pos 0) m e →
    IsExact p q (pos 0) m f
quotient_exact p q m e f is some whole same =
    subst (λ t. IsExact p q (pos 0) m t) (sym is)
    (floor_exact p q (p / q) m (tens (e -ℤ pos 0)) (tens (pos 0 -ℤ e)) (omega arith) same)

pub of_quotient_exact : (p q m : ℕ) (e f : ℤ) → f ≡ e → 0 < q → IsCut (p / q) 1 (pos 0) m e → IsExact p q (pos 0) m f →
    (IsExact (p / q) 1 (pos 0) m e) × (p % q ≡ 0)
of_quotient_exact p q m e f is some cut same =
    let same' = subst (λ t. IsExact p q (pos 0) m t) is same in
    let both =
    of_floor_exact p q (p / q) m (tens (e -ℤ pos 0)) (tens (pos 0 -ℤ e)) some (tens_pos (pos 0 -ℤ e))
    (div-mul-le_self p q) cut.below same' in
    let whole : p / q * q ≡ p = both.1 in
    (both.0, omega arith)

-- a sum of signed numbers of 64 bits, as the code has it
abbrev pub sum64 : ℤ → ℤ → ℤ
sum64 a b = to_z w64 (of_z w64 (to_z w64 (of_z w64 a) +ℤ to_z w64 (of_z w64 b)))

-- the digits at exponent 0, moved to the exponent k, are the answer
pub of_digits : (negative : Bool) (p q : ℕ) (k : ℤ) (m : ℕ) (e f : ℤ) (r : Result Decimal XflFault) → (p ≡ 0 → ⊥) →
    IsCut p q (pos 0) m e → r ≡ ranged negative m f → f ≡ k +ℤ e →
    IsRounded (record { negative = negative; numerator = p; denominator = q; exponent = k }) r
of_digits negative p q k m e f r some cut gives is =
    record { nothing = λ h. absurd (some h); something = λ _. (m, f, moved p q k m e f is cut, gives) }

pub of_exact_digits : (negative : Bool) (p q : ℕ) (k : ℤ) (m : ℕ) (e f : ℤ) (r : Result Decimal XflFault) →
    (p ≡ 0 → ⊥) → IsCut p q (pos 0) m e → IsExact p q (pos 0) m e → r ≡ ranged negative m f → f ≡ k +ℤ e →
    IsRoundedUp (record { negative = negative; numerator = p; denominator = q; exponent = k }) r
of_exact_digits negative p q k m e f r some cut same gives is =
    record {
      nothing = λ h. absurd (some h);
      something =
          λ _. (m, f, moved p q k m e f is cut, λ _. gives, λ h. absurd (h ((moved_exact p q k m e f is).0 same)));
    }

pub of_cut_digits : (negative : Bool) (p q : ℕ) (k : ℤ) (m : ℕ) (e f : ℤ) (r : Result Decimal XflFault) → (p ≡ 0 → ⊥) →
    IsCut p q (pos 0) m e → (IsExact p q (pos 0) m e → ⊥) → r ≡ next_ranged negative m f → f ≡ k +ℤ e →
    IsRoundedUp (record { negative = negative; numerator = p; denominator = q; exponent = k }) r
of_cut_digits negative p q k m e f r some cut other gives is =
    record {
      nothing = λ h. absurd (some h);
      something =
          λ _. (m, f, moved p q k m e f is cut, λ h. absurd (other ((moved_exact p q k m e f is).1 h)), λ _. gives);
    }

-- the answer for an exact result that is written otherwise
pub rounded_as : {n n' : Bool} {p p' q q' : ℕ} {k k' : ℤ} {r : Result Decimal XflFault} →
    IsRounded (record { negative = n; numerator = p; denominator = q; exponent = k }) r → n ≡ n' → p ≡ p' → q ≡ q' →
    k ≡ k' → IsRounded (record { negative = n'; numerator = p'; denominator = q'; exponent = k' }) r
rounded_as {n} {n'} {p} {p'} {q} {q'} {k} {k'} {r} h en ep eq ek =
    subst (λ t. IsRounded (record { negative = t; numerator = p'; denominator = q'; exponent = k' }) r) en
    (subst (λ t. IsRounded (record { negative = n; numerator = t; denominator = q'; exponent = k' }) r) ep
    (subst (λ t. IsRounded (record { negative = n; numerator = p; denominator = t; exponent = k' }) r) eq
    (subst (λ t. IsRounded (record { negative = n; numerator = p; denominator = q; exponent = t }) r) ek h)))

pub rounded_up_as : {n n' : Bool} {p p' q q' : ℕ} {k k' : ℤ} {r : Result Decimal XflFault} →
    IsRoundedUp (record { negative = n; numerator = p; denominator = q; exponent = k }) r → n ≡ n' → p ≡ p' → q ≡ q' →
    k ≡ k' → IsRoundedUp (record { negative = n'; numerator = p'; denominator = q'; exponent = k' }) r
rounded_up_as {n} {n'} {p} {p'} {q} {q'} {k} {k'} {r} h en ep eq ek =
    subst (λ t. IsRoundedUp (record { negative = t; numerator = p'; denominator = q'; exponent = k' }) r) en
    (subst (λ t. IsRoundedUp (record { negative = n; numerator = t; denominator = q'; exponent = k' }) r) ep
    (subst (λ t. IsRoundedUp (record { negative = n; numerator = p; denominator = t; exponent = k' }) r) eq
    (subst (λ t. IsRoundedUp (record { negative = n; numerator = p; denominator = q; exponent = t }) r) ek h)))

-- a power of ten moved between the number and its exponent leaves the answer as it is
pub scaled_rounded : (negative : Bool) (p q s : ℕ) (k l : ℤ) (r : Result Decimal XflFault) → l +ℤ pos s ≡ k →
    IsRounded (record { negative = negative; numerator = p * 10 ^ s; denominator = q; exponent = l }) r →
    IsRounded (record { negative = negative; numerator = p; denominator = q; exponent = k }) r
scaled_rounded negative p q s k l r is h =
    record {
      nothing = λ z. h.nothing (ap (λ t. t * 10 ^ s) z ∙ omega arith);
      something = λ some.
          let (m, e, cut, gives) = h.something (omega (arith, mul-lt-mul_of_pos_right some (ten_pos s))) in
          (m, e, scaled_cut p q s k l m e is cut, gives);
    }

pub scaled_rounded_up : (negative : Bool) (p q s : ℕ) (k l : ℤ) (r : Result Decimal XflFault) → l +ℤ pos s ≡ k →
    IsRoundedUp (record { negative = negative; numerator = p * 10 ^ s; denominator = q; exponent = l }) r →
    IsRoundedUp (record { negative = negative; numerator = p; denominator = q; exponent = k }) r
scaled_rounded_up negative p q s k l r is h =
    record {
      nothing = λ z. h.nothing (ap (λ t. t * 10 ^ s) z ∙ omega arith);
      something = λ some.
          let (m, e, cut, same, other) = h.something (omega (arith, mul-lt-mul_of_pos_right some (ten_pos s))) in
          let exact = scaled_exact p q s k l m e is in
          (m, e, scaled_cut p q s k l m e is cut, λ x. same (exact.1 x), λ x. other (λ y. x (exact.0 y)));
    }

-- two signs that aren't equal
pub not_same : (a b : Bool) → not (beq a b) ≡ differ a b
not_same true true = refl
not_same true false = refl
not_same false true = refl
not_same false false = refl

pub beq_same : (a b : Bool) → beq a b ≡ true → a ≡ b
beq_same true true h = refl
beq_same true false h = cc
beq_same false true h = cc
beq_same false false h = refl

pub beq_other : (a b : Bool) → beq a b ≡ false → a ≡ b → ⊥
beq_other true true h e = cc
beq_other true false h e = cc
beq_other false true h e = cc
beq_other false false h e = cc

-- the exponents of an XFL
pub xfl_exponent : (x : Decimal) → IsXfl x → (negsuc 95 ≤ℤ x.exponent) × (x.exponent ≤ℤ pos 80)
xfl_exponent x (inl h) =
    let z : x.exponent ≡ pos 0 = ap (λ d. d.exponent) h in (omega (arith, ints), omega (arith, ints))
xfl_exponent x (inr h) = (h.least, h.greatest)
