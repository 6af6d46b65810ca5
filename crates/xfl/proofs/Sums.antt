-- Sums: what the code adds is the sum of the two values.
use Rattle.std.proofs.Common.{◌≡◌, ℕ, zero, suc, ◌+◌, ◌-◌, ◌*◌, ◌^◌, ◌<◌, ◌≤◌, refl, sym, ap, subst, ◌∙◌, arith, Bool}
use Rattle.std.proofs.Common.{true, false, inl, inr, ◌≤ℤ◌, ℤ, pos, negsuc, ◌+ℤ◌, ◌-ℤ◌, unsigned_abs, Result, Ok}
use Rattle.std.specs.Prelude.{int_lt}
use Rattle.std.proofs.Math.Nat.{mul-le-mul_right, mul-lt-mul_of_pos_right, pow-le-pow_right, mul-sub}
use Rattle.std.proofs.Math.IntN.{+ℤ_comm}
use Rattle.std.proofs.lemmas.Nat.{pow-add}
use Rattle.std.proofs.lemmas.Bool.{cases_eq}
use Rattle.std.proofs.lemmas.Int.{ints}
use Rattle.xfl.specs.declared.fault.XflFault.{XflFault}
use Rattle.xfl.specs.Value.{Decimal, nought, IsXfl, IsNumber, signed, scaled, tens}
use Rattle.xfl.specs.Cut.{IsCut}
use Rattle.xfl.specs.Operations.{whole, total, ranged}
use Rattle.xfl.specs.Steps.{IsRounded}
use Rattle.xfl.proofs.Cuts.{ten_pos, raised_cut, whole_floor_cut, whole_cut}

sub_times : (a b c : ℕ) → (a - b) * c ≡ a * c - b * c
sub_times a b c = omega (arith, mul-sub c a b)

pub number_of : (x : Decimal) → IsXfl x → 0 < x.mantissa → IsNumber x
number_of x (inl h) some = let z : x.mantissa ≡ 0 = ap (λ d. d.mantissa) h in absurd (omega arith)
number_of x (inr h) some = h

-- the exponent of a number, from the least one on
pub place_of : (e : ℤ) → negsuc 95 ≤ℤ e → (b : ℕ) × (e +ℤ pos 96 ≡ pos b)
place_of (pos n) h = (n + 96, refl)
place_of (negsuc n) h = (95 - n, omega (arith, ints))

pub scaled_is : (x : Decimal) (b : ℕ) → x.exponent +ℤ pos 96 ≡ pos b →
    scaled x ≡ signed x.negative (x.mantissa * 10 ^ b)
scaled_is x b h = ap (λ t. signed x.negative (x.mantissa * tens t)) h

-- signs and magnitudes
signed_zero : (n : Bool) → signed n 0 ≡ pos 0
signed_zero true = refl
signed_zero false = refl

signed_abs : (n : Bool) (v : ℕ) → unsigned_abs (signed n v) ≡ v
signed_abs true zero = refl
signed_abs true (suc v) = refl
signed_abs false v = refl

signed_sign : (n : Bool) (v : ℕ) → 0 < v → int_lt (signed n v) (pos 0) ≡ n
signed_sign true zero h = absurd (omega arith)
signed_sign true (suc v) h = refl
signed_sign false v h = grind (arith, ints)

signed_same : (n : Bool) (a b : ℕ) → signed n a +ℤ signed n b ≡ signed n (a + b)
signed_same true a b = omega (arith, ints)
signed_same false a b = refl

signed_more : (n o : Bool) (a b : ℕ) → (n ≡ o → ⊥) → b ≤ a → signed n a +ℤ signed o b ≡ signed n (a - b)
signed_more true true a b d h = absurd (d refl)
signed_more true false a b d h = omega (arith, ints)
signed_more false true a b d h = omega (arith, ints)
signed_more false false a b d h = absurd (d refl)

signed_less : (n o : Bool) (a b : ℕ) → (n ≡ o → ⊥) → a ≤ b → signed n a +ℤ signed o b ≡ signed o (b - a)
signed_less true true a b d h = absurd (d refl)
signed_less true false a b d h = omega (arith, ints)
signed_less false true a b d h = omega (arith, ints)
signed_less false false a b d h = absurd (d refl)

-- the answer for a whole number with a sign
pub signed_rounded : (n : Bool) (v : ℕ) (z k : ℤ) (r : Result Decimal XflFault) → z ≡ signed n v →
    IsRounded (record { negative = n; numerator = v; denominator = 1; exponent = k }) r → IsRounded (whole z k) r
signed_rounded n v z k r is h =
    subst (λ t. IsRounded (whole t k) r) (sym is)
    (record {
      nothing = λ e. h.nothing (sym (signed_abs n v) ∙ e);
      something = λ some.
          let some' : 0 < v = subst (λ t. 0 < t) (signed_abs n v) some in
          let (m, e, cut, gives) = h.something some' in (
            m,
            e,
            subst (λ t. IsCut t 1 k m e) (sym (signed_abs n v)) cut,
            subst (λ t. r ≡ ranged t m e) (sym (signed_sign n v some')) gives,
          );
    })

-- a whole number of times a power of ten above the least one
raised_rounded : (n : Bool) (v b : ℕ) (k : ℤ) (r : Result Decimal XflFault) → k +ℤ pos 96 ≡ pos b →
    IsRounded (record { negative = n; numerator = v; denominator = 1; exponent = k }) r →
    IsRounded (record { negative = n; numerator = v * 10 ^ b; denominator = 1; exponent = negsuc 95 }) r
raised_rounded n v b k r is h = elim (cases_eq v 0) [
  | inl z ↦ record {
    nothing = λ _. h.nothing z;
    something =
        λ some. let w : v * 10 ^ b ≡ 0 = ap (λ t. t * 10 ^ b) z ∙ omega arith in absurd (omega (arith, w, some));
  }
  | inr z ↦ record {
    nothing = λ e. absurd (omega (arith, e, mul-lt-mul_of_pos_right {m = 0} {n = v} (omega arith) (ten_pos b)));
    something = λ _.
        let (m, e, cut, gives) = h.something (omega arith) in
        (m, e, raised_cut v 1 b k (negsuc 95) m e (omega (arith, ints)) cut, gives);
  }
]

-- a whole number just above a whole number of times a power of ten
floor_rounded : (n : Bool) (v w a : ℕ) (k : ℤ) (r : Result Decimal XflFault) → k +ℤ pos 96 ≡ pos a → 10 ^ 15 ≤ w →
    w * 10 ^ a ≤ v → v < (w + 1) * 10 ^ a →
    IsRounded (record { negative = n; numerator = w; denominator = 1; exponent = k }) r →
    IsRounded (record { negative = n; numerator = v; denominator = 1; exponent = negsuc 95 }) r
floor_rounded n v w a k r is long low high h = record {
  nothing = λ z. absurd (omega (arith, z, low, mul-le-mul_right (10 ^ a) long, ten_pos a));
  something = λ _.
      let (m, e, cut, gives) = h.something (omega arith) in
      (m, e, whole_floor_cut v w a k (negsuc 95) m e (omega (arith, ints)) long low high cut, gives);
}

-- two numbers, the exponent of the first higher by the gap
module _ (x y : Decimal) (gap : ℕ) (r : Result Decimal XflFault) (xs : IsXfl x) (ys : IsXfl y) (some_x : 0 < x.mantissa)
    (some_y : 0 < y.mantissa) (apart : x.exponent ≡ y.exponent +ℤ pos gap) where
  base : (b : ℕ) × (y.exponent +ℤ pos 96 ≡ pos b)
  base = place_of y.exponent (number_of y ys some_y).least

  scaled_high : (b : ℕ) → y.exponent +ℤ pos 96 ≡ pos b → scaled x ≡ signed x.negative (x.mantissa * 10 ^ gap * 10 ^ b)
  scaled_high b h =
      let is : x.exponent +ℤ pos 96 ≡ pos (gap + b) = omega (arith, ints) in
      let same : x.mantissa * 10 ^ (gap + b) ≡ x.mantissa * 10 ^ gap * 10 ^ b = rw (pow-add 10 gap b) (omega arith) in
      scaled_is x (gap + b) is ∙ ap (signed x.negative) same

  pub near_same : x.negative ≡ y.negative →
      IsRounded (record {
        negative = x.negative;
        numerator = x.mantissa * 10 ^ gap + y.mantissa;
        denominator = 1;
        exponent = y.exponent;
      }) r → IsRounded (total x y) r
  near_same same h =
      let (b, is) = base in
      let v : ℕ = (x.mantissa * 10 ^ gap + y.mantissa) * 10 ^ b in
      let low : scaled y ≡ signed x.negative (y.mantissa * 10 ^ b) =
      scaled_is y b is ∙ ap (λ t. signed t (y.mantissa * 10 ^ b)) (sym same) in
      let z : scaled x +ℤ scaled y ≡ signed x.negative v =
      rw (scaled_high b is, low)
      (signed_same x.negative (x.mantissa * 10 ^ gap * 10 ^ b) (y.mantissa * 10 ^ b)
      ∙ ap (signed x.negative) (omega arith)) in
      signed_rounded x.negative v (scaled x +ℤ scaled y) (negsuc 95) r z
      (raised_rounded x.negative (x.mantissa * 10 ^ gap + y.mantissa) b y.exponent r is h)

  pub near_more : (x.negative ≡ y.negative → ⊥) → y.mantissa ≤ x.mantissa * 10 ^ gap →
      IsRounded (record {
        negative = x.negative;
        numerator = x.mantissa * 10 ^ gap - y.mantissa;
        denominator = 1;
        exponent = y.exponent;
      }) r → IsRounded (total x y) r
  near_more other more h =
      let (b, is) = base in
      let v : ℕ = (x.mantissa * 10 ^ gap - y.mantissa) * 10 ^ b in
      let more' : y.mantissa * 10 ^ b ≤ x.mantissa * 10 ^ gap * 10 ^ b = mul-le-mul_right (10 ^ b) more in
      let parts : x.mantissa * 10 ^ gap * 10 ^ b - y.mantissa * 10 ^ b ≡ v =
      sym (sub_times (x.mantissa * 10 ^ gap) y.mantissa (10 ^ b)) in
      let z : scaled x +ℤ scaled y ≡ signed x.negative v =
      rw (scaled_high b is, scaled_is y b is)
      (signed_more x.negative y.negative (x.mantissa * 10 ^ gap * 10 ^ b) (y.mantissa * 10 ^ b) other more'
      ∙ ap (signed x.negative) parts) in
      signed_rounded x.negative v (scaled x +ℤ scaled y) (negsuc 95) r z
      (raised_rounded x.negative (x.mantissa * 10 ^ gap - y.mantissa) b y.exponent r is h)

  pub near_less : (x.negative ≡ y.negative → ⊥) → x.mantissa * 10 ^ gap ≤ y.mantissa →
      IsRounded (record {
        negative = y.negative;
        numerator = y.mantissa - x.mantissa * 10 ^ gap;
        denominator = 1;
        exponent = y.exponent;
      }) r → IsRounded (total x y) r
  near_less other less h =
      let (b, is) = base in
      let v : ℕ = (y.mantissa - x.mantissa * 10 ^ gap) * 10 ^ b in
      let less' : x.mantissa * 10 ^ gap * 10 ^ b ≤ y.mantissa * 10 ^ b = mul-le-mul_right (10 ^ b) less in
      let parts : y.mantissa * 10 ^ b - x.mantissa * 10 ^ gap * 10 ^ b ≡ v =
      sym (sub_times y.mantissa (x.mantissa * 10 ^ gap) (10 ^ b)) in
      let z : scaled x +ℤ scaled y ≡ signed y.negative v =
      rw (scaled_high b is, scaled_is y b is)
      (signed_less x.negative y.negative (x.mantissa * 10 ^ gap * 10 ^ b) (y.mantissa * 10 ^ b) other less'
      ∙ ap (signed y.negative) parts) in
      signed_rounded y.negative v (scaled x +ℤ scaled y) (negsuc 95) r z
      (raised_rounded y.negative (y.mantissa - x.mantissa * 10 ^ gap) b y.exponent r is h)

-- y is above 0, and below one unit of the seventeenth digit of x
module _ (x y : Decimal) (r : Result Decimal XflFault) (xs : IsXfl x) (ys : IsXfl y) (some_x : 0 < x.mantissa)
    (some_y : 0 < y.mantissa) (far : (y.exponent +ℤ pos 17) ≤ℤ x.exponent) where
  -- the exponents of y and of that unit, from the least one on
  bases : (b : ℕ) × (a : ℕ) × (y.exponent +ℤ pos 96 ≡ pos b) × (x.exponent +ℤ pos 96 ≡ pos (a + 1)) × (b + 16 ≤ a)
  bases =
      let (b, is) = place_of y.exponent (number_of y ys some_y).least in
      let (t, this) = place_of x.exponent (number_of x xs some_x).least in
      let above : b + 17 ≤ t = omega (arith, ints) in
      (b, t - 1, is, this ∙ ap pos (omega arith), omega arith)

  -- y is above 0 and below the unit
  small : (b a : ℕ) → b + 16 ≤ a → (0 < y.mantissa * 10 ^ b) × (y.mantissa * 10 ^ b < 10 ^ a)
  small b a h =
      let over : 10 ^ (b + 16) ≤ 10 ^ a = pow-le-pow_right {n = 10} (omega arith) h in (
        omega (arith, mul-lt-mul_of_pos_right some_y (ten_pos b)),
        omega (arith, over, pow-add 10 b 16, mul-lt-mul_of_pos_right (number_of y ys some_y).high (ten_pos b)),
      )

  scaled_units : (a : ℕ) → x.exponent +ℤ pos 96 ≡ pos (a + 1) → scaled x ≡ signed x.negative (x.mantissa * 10 * 10 ^ a)
  scaled_units a is =
      let same : x.mantissa * 10 ^ (a + 1) ≡ x.mantissa * 10 * 10 ^ a = rw (pow-add 10 a 1) (omega arith) in
      scaled_is x (a + 1) is ∙ ap (signed x.negative) same

  pub far_same : x.negative ≡ y.negative →
      IsRounded
      (record { negative = x.negative; numerator = x.mantissa * 10; denominator = 1; exponent = x.exponent -ℤ pos 1 })
      r → IsRounded (total x y) r
  far_same same h =
      let (b, a, is, this, apart) = bases in
      let (positive, under) = small b a apart in
      let v : ℕ = x.mantissa * 10 * 10 ^ a + y.mantissa * 10 ^ b in
      let low : scaled y ≡ signed x.negative (y.mantissa * 10 ^ b) =
      scaled_is y b is ∙ ap (λ t. signed t (y.mantissa * 10 ^ b)) (sym same) in
      let z : scaled x +ℤ scaled y ≡ signed x.negative v =
      rw (scaled_units a this, low) (signed_same x.negative (x.mantissa * 10 * 10 ^ a) (y.mantissa * 10 ^ b)) in
      signed_rounded x.negative v (scaled x +ℤ scaled y) (negsuc 95) r z
      (floor_rounded x.negative v (x.mantissa * 10) a (x.exponent -ℤ pos 1) r (omega (arith, ints))
      (omega (arith, (number_of x xs some_x).low)) (omega (arith, positive)) (omega (arith, under)) h)

  pub far_other : (x.negative ≡ y.negative → ⊥) →
      IsRounded (record {
        negative = x.negative;
        numerator = x.mantissa * 10 - 1;
        denominator = 1;
        exponent = x.exponent -ℤ pos 1;
      }) r → IsRounded (total x y) r
  far_other other h =
      let (b, a, is, this, apart) = bases in
      let (positive, under) = small b a apart in
      let long = (number_of x xs some_x).low in
      let v : ℕ = x.mantissa * 10 * 10 ^ a - y.mantissa * 10 ^ b in
      let units : (x.mantissa * 10 - 1) * 10 ^ a + 10 ^ a ≡ x.mantissa * 10 * 10 ^ a =
      omega (arith, sub_times (x.mantissa * 10) 1 (10 ^ a), mul-le-mul_right (10 ^ a) long) in
      let z : scaled x +ℤ scaled y ≡ signed x.negative v =
      rw (scaled_units a this, scaled_is y b is) (signed_more x.negative y.negative (x.mantissa * 10 * 10 ^ a)
      (y.mantissa * 10 ^ b) other (omega (arith, units, under))) in
      signed_rounded x.negative v (scaled x +ℤ scaled y) (negsuc 95) r z
      (floor_rounded x.negative v (x.mantissa * 10 - 1) a (x.exponent -ℤ pos 1) r (omega (arith, ints))
      (omega (arith, long)) (omega (arith, units, under)) (omega (arith, units, positive, under)) h)

-- in the range the number is the answer
pub in_ranged : (n : Bool) (m : ℕ) (e : ℤ) → negsuc 95 ≤ℤ e → e ≤ℤ pos 80 →
    ranged n m e ≡ Ok (record { negative = n; mantissa = m; exponent = e })
in_ranged n m e least greatest = grind (arith, ints)

-- a number of sixteen digits is its own cut
itself : (x : Decimal) → IsNumber x → IsCut x.mantissa 1 x.exponent x.mantissa x.exponent
itself x h = whole_cut x.mantissa x.exponent h.low h.high

-- a sum with 0
with_nothing : (x : Decimal) → IsXfl x → IsRounded (whole (scaled x) (negsuc 95)) (Ok x)
with_nothing x (inl h) =
    subst (λ t. IsRounded (whole (scaled t) (negsuc 95)) (Ok t)) (sym h)
    (record { nothing = λ _. refl; something = λ some. absurd (omega (arith, some)) })
with_nothing x (inr h) =
    let (b, is) = place_of x.exponent h.least in
    signed_rounded x.negative (x.mantissa * 10 ^ b) (scaled x) (negsuc 95) (Ok x) (scaled_is x b is)
    (raised_rounded x.negative x.mantissa b x.exponent (Ok x) is
    (record {
      nothing = λ z. absurd (omega (arith, h.low));
      something =
          λ _.
          (x.mantissa, x.exponent, itself x h, sym (in_ranged x.negative x.mantissa x.exponent h.least h.greatest));
    }))

pub nothing_left : (x y : Decimal) → IsXfl y → x ≡ nought → IsRounded (total x y) (Ok y)
nothing_left x y ys h =
    let z : scaled y ≡ scaled x +ℤ scaled y = rw h (omega (arith, ints)) in
    subst (λ t. IsRounded (whole t (negsuc 95)) (Ok y)) z (with_nothing y ys)

pub turned : (x y : Decimal) (r : Result Decimal XflFault) → IsRounded (total y x) r → IsRounded (total x y) r
turned x y r h = subst (λ t. IsRounded (whole t (negsuc 95)) r) (+ℤ_comm (scaled y) (scaled x)) h

-- 0 alone has no digits
pub nought_of : (x : Decimal) → IsXfl x → x.mantissa ≡ 0 → x ≡ nought
nought_of x (inl h) z = h
nought_of x (inr h) z = absurd (omega (arith, h.low))
