-- Cuts by products with powers of ten that aren't negative, and what follows for the definition.
use Rattle.std.proofs.Common.{◌≡◌, ℕ, zero, suc, ◌+◌, ◌-◌, ◌*◌, ◌^◌, ◌<◌, ◌≤◌, ◌⊎◌, ◌↔◌, inl, inr, refl, sym, ap}
use Rattle.std.proofs.Common.{add_comm, subst, ◌∙◌, arith, ℤ, pos, negsuc, neg_ℤ, ◌+ℤ◌, ◌-ℤ◌, unsigned_abs}
use Rattle.std.proofs.Math.Nat.{one-le-pow, mul-le-mul_right, mul-lt-mul_of_pos_right, le_of_mul-le-mul_right}
use Rattle.std.proofs.Math.Nat.{lt_of_mul-lt-mul_right, mul-le-mul_left, pow-suc}
use Rattle.std.proofs.lemmas.Nat.{pow-add}
use Rattle.std.proofs.lemmas.Bool.{cases_lt}
use Rattle.std.proofs.lemmas.Int.{ints}
use Rattle.xfl.specs.Value.{tens}
use Rattle.xfl.specs.Cut.{IsCut, IsExact}

-- `IsCut` with both exponents raised alike, until neither is negative
pub record Cuts (p q k m e : ℕ) : Type 0 where
  pub low : 10 ^ 15 ≤ m
  pub high : m < 10 ^ 16
  pub below : m * q * 10 ^ e ≤ p * 10 ^ k
  pub above : p * 10 ^ k < (m + 1) * q * 10 ^ e

pub ten_pos : (n : ℕ) → 0 < 10 ^ n
ten_pos n = one-le-pow n 10 (omega arith)

pub ten_le : (n : ℕ) → 10 ≤ 10 ^ suc n
ten_le n = rw (pow-suc 10 n) (omega (arith, ten_pos n))

pub tens_of : (z : ℤ) (d : ℕ) → z ≡ pos d → tens z ≡ 10 ^ d
tens_of z d e = ap tens e

pub tens_neg : (z : ℤ) (d : ℕ) → z ≡ neg_ℤ (pos d) → tens z ≡ 1
tens_neg z zero e = ap tens e
tens_neg z (suc d) e = ap tens e

-- how far apart two exponents are
apart : (k e : ℕ) → ((d : ℕ) × (e ≡ k + d)) ⊎ ((d : ℕ) × (k ≡ e + d))
apart k e = elim (cases_lt k e) [ inl h ↦ inl (e - k, omega arith) | inr h ↦ inr (k - e, omega arith) ]

-- the powers of ten of the raised exponents are those of the definition, times one factor
pub record Raised (a b x y : ℕ) : Type 0 where
  pub factor : ℕ
  pub some : 0 < factor
  pub left : x ≡ a * factor
  pub right : y ≡ b * factor

pub raised : (k e z : ℤ) (k' e' : ℕ) → k +ℤ z ≡ pos k' → e +ℤ z ≡ pos e' →
    Raised (tens (e -ℤ k)) (tens (k -ℤ e)) (10 ^ e') (10 ^ k')
raised k e z k' e' is_k is_e =
    elim (apart k' e') [
      | inl (d, h) ↦
          let a = tens_of (e -ℤ k) d (omega (arith, ints)) in
          let b = tens_neg (k -ℤ e) d (omega (arith, ints)) in
          let w : 10 ^ e' ≡ 10 ^ d * 10 ^ k' = ap (λ t. 10 ^ t) (h ∙ add_comm k' d) ∙ pow-add 10 d k' in
          record {
            factor = 10 ^ k';
            some = ten_pos k';
            left = w ∙ ap (λ t. t * 10 ^ k') (sym a);
            right = omega (arith, ap (λ t. t * 10 ^ k') b);
          }
      | inr (d, h) ↦
          let a = tens_neg (e -ℤ k) d (omega (arith, ints)) in
          let b = tens_of (k -ℤ e) d (omega (arith, ints)) in
          let w : 10 ^ k' ≡ 10 ^ d * 10 ^ e' = ap (λ t. 10 ^ t) (h ∙ add_comm e' d) ∙ pow-add 10 d e' in
          record {
            factor = 10 ^ e';
            some = ten_pos e';
            left = omega (arith, ap (λ t. t * 10 ^ e') a);
            right = w ∙ ap (λ t. t * 10 ^ e') (sym b);
          }
    ]

-- the relations of the definition with the raised exponents, and back
to_products : (a b x y m p q : ℕ) → Raised a b x y → m * q * a ≤ p * b → p * b < (m + 1) * q * a →
    (m * q * x ≤ p * y) × (p * y < (m + 1) * q * x)
to_products a b x y m p q r low high =
    rw (r.left, r.right) (
      omega (arith, mul-le-mul_right r.factor low),
      omega (arith, mul-lt-mul_of_pos_right high r.some),
    )

of_products : (a b x y m p q : ℕ) → Raised a b x y → m * q * x ≤ p * y → p * y < (m + 1) * q * x →
    (m * q * a ≤ p * b) × (p * b < (m + 1) * q * a)
of_products a b x y m p q r low high =
    let low' : m * q * a * r.factor ≤ p * b * r.factor = omega (arith, rw (r.left, r.right) at low) in
    let high' : p * b * r.factor < (m + 1) * q * a * r.factor = omega (arith, rw (r.left, r.right) at high) in
    (le_of_mul-le-mul_right low' r.some, lt_of_mul-lt-mul_right r.factor high')

pub to_equal : (a b x y u v : ℕ) → Raised a b x y → u * a ≡ v * b → u * x ≡ v * y
to_equal a b x y u v r same = rw (r.left, r.right) (omega (arith, ap (λ t. t * r.factor) same))

pub of_equal : (a b x y u v : ℕ) → Raised a b x y → u * x ≡ v * y → u * a ≡ v * b
of_equal a b x y u v r same =
    let same' : u * a * r.factor ≡ v * b * r.factor = omega (arith, rw (r.left, r.right) at same) in
    let up : u * a ≤ v * b = le_of_mul-le-mul_right {k = r.factor} (omega arith) r.some in
    let down : v * b ≤ u * a = le_of_mul-le-mul_right {k = r.factor} (omega arith) r.some in
    omega arith

pub to_cuts : (p q : ℕ) (k : ℤ) (m : ℕ) (e z : ℤ) (k' e' : ℕ) → k +ℤ z ≡ pos k' → e +ℤ z ≡ pos e' → IsCut p q k m e →
    Cuts p q k' m e'
to_cuts p q k m e z k' e' is_k is_e cut =
    let both =
    to_products (tens (e -ℤ k)) (tens (k -ℤ e)) (10 ^ e') (10 ^ k') m p q (raised k e z k' e' is_k is_e) cut.below
    cut.above in
    record { low = cut.low; high = cut.high; below = both.0; above = both.1 }

pub of_cuts : (p q : ℕ) (k : ℤ) (m : ℕ) (e z : ℤ) (k' e' : ℕ) → k +ℤ z ≡ pos k' → e +ℤ z ≡ pos e' → Cuts p q k' m e' →
    IsCut p q k m e
of_cuts p q k m e z k' e' is_k is_e cuts =
    let both =
    of_products (tens (e -ℤ k)) (tens (k -ℤ e)) (10 ^ e') (10 ^ k') m p q (raised k e z k' e' is_k is_e) cuts.below
    cuts.above in
    record { low = cuts.low; high = cuts.high; below = both.0; above = both.1 }

-- where the digits of n are cut: n < (m + 1) * 10 ^ d
floor_above : (p q n k l m e d : ℕ) → e ≡ k + d → n * q * 10 ^ k ≤ p * 10 ^ l → p * 10 ^ l < (n + 1) * q * 10 ^ k →
    Cuts n 1 k m e → Cuts p q l m e
floor_above p q n k l m e d h low high cuts =
    let is : 10 ^ e ≡ 10 ^ k * 10 ^ d = ap (λ t. 10 ^ t) h ∙ pow-add 10 k d in
    let below = subst (λ t. m * 1 * t ≤ n * 10 ^ k) is cuts.below in
    let above = subst (λ t. n * 10 ^ k < (m + 1) * 1 * t) is cuts.above in
    let below' : m * 10 ^ d * 10 ^ k ≤ n * 10 ^ k = omega (arith, below) in
    let above' : n * 10 ^ k < (m + 1) * 10 ^ d * 10 ^ k = omega (arith, above) in
    let at_most : m * 10 ^ d ≤ n = le_of_mul-le-mul_right below' (ten_pos k) in
    let under : n < (m + 1) * 10 ^ d = lt_of_mul-lt-mul_right (10 ^ k) above' in
    let under' : n + 1 ≤ (m + 1) * 10 ^ d = omega (arith, under) in
    let one_more : (n + 1) * (q * 10 ^ k) ≤ (m + 1) * 10 ^ d * (q * 10 ^ k) = mul-le-mul_right (q * 10 ^ k) under' in
    let no_more : m * 10 ^ d * (q * 10 ^ k) ≤ n * (q * 10 ^ k) = mul-le-mul_right (q * 10 ^ k) at_most in
    record {
      low = cuts.low;
      high = cuts.high;
      below = subst (λ t. m * q * t ≤ p * 10 ^ l) (sym is) (omega (arith, no_more, low));
      above = subst (λ t. p * 10 ^ l < (m + 1) * q * t) (sym is) (omega (arith, one_more, high));
    }

-- n has sixteen digits and no more, else no (m + 1) of sixteen digits is above it
floor_below : (p q n k l m e d : ℕ) → k ≡ e + d → 10 ^ 15 ≤ n → n * q * 10 ^ k ≤ p * 10 ^ l →
    p * 10 ^ l < (n + 1) * q * 10 ^ k → Cuts n 1 k m e → Cuts p q l m e
floor_below p q n k l m e zero h long low high cuts = floor_above p q n k l m e 0 (omega arith) low high cuts
floor_below p q n k l m e (suc d) h long low high cuts =
    let is : 10 ^ k ≡ 10 ^ e * 10 ^ suc d = ap (λ t. 10 ^ t) h ∙ pow-add 10 e (suc d) in
    let above = subst (λ t. n * t < (m + 1) * 1 * 10 ^ e) is cuts.above in
    let above' : n * 10 ^ suc d * 10 ^ e < (m + 1) * 10 ^ e = omega (arith, above) in
    let under : n * 10 ^ suc d < m + 1 = lt_of_mul-lt-mul_right (10 ^ e) above' in
    let wide : n * 10 ≤ n * 10 ^ suc d = mul-le-mul_left n (ten_le d) in
    absurd (omega (arith, under, wide, long, cuts.high))

-- a fraction has the cut of the whole number below it, where that has sixteen digits or more
pub cuts_of_floor : (p q n k l m e : ℕ) → 10 ^ 15 ≤ n → n * q * 10 ^ k ≤ p * 10 ^ l →
    p * 10 ^ l < (n + 1) * q * 10 ^ k → Cuts n 1 k m e → Cuts p q l m e
cuts_of_floor p q n k l m e long low high cuts =
    elim (apart k e) [
      | inl (d, h) ↦ floor_above p q n k l m e d h low high cuts
      | inr (d, h) ↦ floor_below p q n k l m e d h long low high cuts
    ]

-- exponents raised far enough aren't negative
pub at_least_zero : (e : ℤ) (c : ℕ) → unsigned_abs e ≤ c → (d : ℕ) × (e +ℤ pos c ≡ pos d)
at_least_zero (pos n) c h = (n + c, refl)
at_least_zero (negsuc n) c h = (c - suc n, omega (arith, ints))

-- the fraction p / q has the cut of the whole number n below it
pub floor_cut : (p q n : ℕ) (k : ℤ) (m : ℕ) (e : ℤ) → 10 ^ 15 ≤ n → n * q ≤ p → p < (n + 1) * q → IsCut n 1 k m e →
    IsCut p q k m e
floor_cut p q n k m e long low high cut =
    let c : ℕ = unsigned_abs k + unsigned_abs e in
    let (k', is_k) = at_least_zero k c (omega arith) in
    let (e', is_e) = at_least_zero e c (omega arith) in
    of_cuts p q k m e (pos c) k' e' is_k is_e
    (cuts_of_floor p q n k' k' m e' long (mul-le-mul_right (10 ^ k') low) (mul-lt-mul_of_pos_right high (ten_pos k'))
    (to_cuts n 1 k m e (pos c) k' e' is_k is_e cut))

-- nothing is cut off p / q where q divides p, and nothing is cut off the quotient n
pub floor_exact : (p q n m a b : ℕ) → n * q ≡ p → m * 1 * a ≡ n * b → m * q * a ≡ p * b
floor_exact p q n m a b whole same = rw (← whole) (omega (arith, ap (λ t. t * q) same))

pub of_floor_exact : (p q n m a b : ℕ) → 0 < q → 0 < b → n * q ≤ p → m * 1 * a ≤ n * b → m * q * a ≡ p * b →
    (m * 1 * a ≡ n * b) × (n * q ≡ p)
of_floor_exact p q n m a b some_q some_b low below same =
    let x : m * 1 * a * q ≤ n * b * q = mul-le-mul_right q below in
    let y : n * q * b ≤ p * b = mul-le-mul_right b low in
    let x' : n * b * q ≤ m * 1 * a * q = omega arith in
    let y' : p * b ≤ n * q * b = omega arith in
    let x'' : n * b ≤ m * 1 * a = le_of_mul-le-mul_right x' some_q in
    let y'' : p ≤ n * q = le_of_mul-le-mul_right y' some_b in
    (omega arith, omega arith)

-- exponents moved alike leave a cut a cut
pub moved : (p q : ℕ) (k : ℤ) (m : ℕ) (e f : ℤ) → f ≡ k +ℤ e → IsCut p q (pos 0) m e → IsCut p q k m f
moved p q k m e f is cut =
    let a : tens (f -ℤ k) ≡ tens (e -ℤ pos 0) = ap tens (omega (arith, ints)) in
    let b : tens (k -ℤ f) ≡ tens (pos 0 -ℤ e) = ap tens (omega (arith, ints)) in
    record {
      low = cut.low;
      high = cut.high;
      below = rw (a, b) cut.below;
      above = rw (a, b) cut.above;
    }

pub moved_exact : (p q : ℕ) (k : ℤ) (m : ℕ) (e f : ℤ) → f ≡ k +ℤ e → IsExact p q (pos 0) m e ↔ IsExact p q k m f
moved_exact p q k m e f is =
    let a : tens (f -ℤ k) ≡ tens (e -ℤ pos 0) = ap tens (omega (arith, ints)) in
    let b : tens (k -ℤ f) ≡ tens (pos 0 -ℤ e) = ap tens (omega (arith, ints)) in
    (λ h. rw (a, b) h, λ h. rw (a, b) at h)

-- a power of ten moved between the number and its exponent
pub scaled_cut : (p q s : ℕ) (k l : ℤ) (m : ℕ) (e : ℤ) → l +ℤ pos s ≡ k → IsCut (p * 10 ^ s) q l m e → IsCut p q k m e
scaled_cut p q s k l m e is cut =
    let c : ℕ = unsigned_abs l + unsigned_abs e in
    let (l', is_l) = at_least_zero l c (omega arith) in
    let (e', is_e) = at_least_zero e c (omega arith) in
    let cuts = to_cuts (p * 10 ^ s) q l m e (pos c) l' e' is_l is_e cut in
    let same : p * 10 ^ (l' + s) ≡ p * 10 ^ s * 10 ^ l' = rw (pow-add 10 l' s) (omega arith) in
    of_cuts p q k m e (pos c) (l' + s) e' (omega (arith, ints)) is_e
    (record { low = cuts.low; high = cuts.high; below = rw same cuts.below; above = rw same cuts.above })

pub scaled_exact : (p q s : ℕ) (k l : ℤ) (m : ℕ) (e : ℤ) → l +ℤ pos s ≡ k →
    IsExact (p * 10 ^ s) q l m e ↔ IsExact p q k m e
scaled_exact p q s k l m e is =
    let c : ℕ = unsigned_abs l + unsigned_abs e in
    let (l', is_l) = at_least_zero l c (omega arith) in
    let (e', is_e) = at_least_zero e c (omega arith) in
    let is_k : k +ℤ pos c ≡ pos (l' + s) = omega (arith, ints) in
    let same : p * 10 ^ (l' + s) ≡ p * 10 ^ s * 10 ^ l' = rw (pow-add 10 l' s) (omega arith) in
    let one = raised l e (pos c) l' e' is_l is_e in
    let two = raised k e (pos c) (l' + s) e' is_k is_e in (
      λ h.
          of_equal (tens (e -ℤ k)) (tens (k -ℤ e)) (10 ^ e') (10 ^ (l' + s)) (m * q) p two
          (to_equal (tens (e -ℤ l)) (tens (l -ℤ e)) (10 ^ e') (10 ^ l') (m * q) (p * 10 ^ s) one h ∙ sym same),
      λ h.
          of_equal (tens (e -ℤ l)) (tens (l -ℤ e)) (10 ^ e') (10 ^ l') (m * q) (p * 10 ^ s) one
          (to_equal (tens (e -ℤ k)) (tens (k -ℤ e)) (10 ^ e') (10 ^ (l' + s)) (m * q) p two h ∙ same),
    )

-- and the other way
pub raised_cut : (p q s : ℕ) (k l : ℤ) (m : ℕ) (e : ℤ) → l +ℤ pos s ≡ k → IsCut p q k m e → IsCut (p * 10 ^ s) q l m e
raised_cut p q s k l m e is cut =
    let c : ℕ = unsigned_abs l + unsigned_abs e in
    let (l', is_l) = at_least_zero l c (omega arith) in
    let (e', is_e) = at_least_zero e c (omega arith) in
    let is_k : k +ℤ pos c ≡ pos (l' + s) = omega (arith, ints) in
    let cuts = to_cuts p q k m e (pos c) (l' + s) e' is_k is_e cut in
    let same : p * 10 ^ (l' + s) ≡ p * 10 ^ s * 10 ^ l' = rw (pow-add 10 l' s) (omega arith) in
    of_cuts (p * 10 ^ s) q l m e (pos c) l' e' is_l is_e
    (record { low = cuts.low; high = cuts.high; below = rw (← same) cuts.below; above = rw (← same) cuts.above })

-- a whole number v of times 10 ^ l has the cut of a whole number n of times 10 ^ k just below it
pub whole_floor_cut : (v n a : ℕ) (k l : ℤ) (m : ℕ) (e : ℤ) → l +ℤ pos a ≡ k → 10 ^ 15 ≤ n → n * 10 ^ a ≤ v →
    v < (n + 1) * 10 ^ a → IsCut n 1 k m e → IsCut v 1 l m e
whole_floor_cut v n a k l m e is long low high cut =
    let c : ℕ = unsigned_abs l + unsigned_abs e in
    let (l', is_l) = at_least_zero l c (omega arith) in
    let (e', is_e) = at_least_zero e c (omega arith) in
    let is_k : k +ℤ pos c ≡ pos (l' + a) = omega (arith, ints) in
    let cuts = to_cuts n 1 k m e (pos c) (l' + a) e' is_k is_e cut in
    let low' : n * 1 * 10 ^ (l' + a) ≤ v * 10 ^ l' =
    rw (pow-add 10 l' a) (omega (arith, mul-le-mul_right (10 ^ l') low)) in
    let high' : v * 10 ^ l' < (n + 1) * 1 * 10 ^ (l' + a) =
    rw (pow-add 10 l' a) (omega (arith, mul-lt-mul_of_pos_right high (ten_pos l'))) in
    of_cuts v 1 l m e (pos c) l' e' is_l is_e (cuts_of_floor v 1 n (l' + a) l' m e' long low' high' cuts)

-- a whole number of sixteen digits is its own cut
pub whole_cut : (m : ℕ) (e : ℤ) → 10 ^ 15 ≤ m → m < 10 ^ 16 → IsCut m 1 e m e
whole_cut m e low high =
    let same : tens (e -ℤ e) ≡ 1 = tens_neg (e -ℤ e) 0 (omega (arith, ints)) in
    record { low = low; high = high; below = rw same (omega arith); above = rw same (omega arith) }
