-- The order of the ranks is the order of the values.
use Rattle.std.proofs.Common.{◌≡◌, ℕ, ◌+◌, ◌*◌, ◌^◌, ◌<◌, ◌≤◌, ◌⊎◌, refl, sym, ap, subst, ◌∙◌, arith, Bool, true, false}
use Rattle.std.proofs.Common.{inl, inr, ◌<ℤ◌, pos, ◌+ℤ◌, unsigned_abs, eqb}
use Rattle.std.proofs.lemmas.Bool.Decides.{nat_tests}
use Rattle.std.proofs.Math.Nat.{mul-lt-mul_of_pos_right, mul-le-mul, pow-le-pow_right}
use Rattle.std.proofs.lemmas.Bool.{cases_lt}
use Rattle.std.proofs.lemmas.Nat.{pow-add}
use Rattle.std.proofs.lemmas.Int.{ints}
use Rattle.std.specs.Ordering.{int_cmp, MatchOrdering}
use Rattle.std.proofs.Common.{Less, Equal, Greater}
use Rattle.std.specs.declared.cmp.Ordering.{Ordering}
use Rattle.std.specs.Cmp.{int_ranks, int_cmp_is}
use Rattle.xfl.specs.Value.{Decimal, IsXfl, IsNumber, signed, scaled}
use Rattle.xfl.specs.Steps.{rank_of}
use Rattle.xfl.proofs.Cuts.{ten_pos}
use Rattle.xfl.proofs.Sums.{place_of, scaled_is}

-- the sizes of the rank and of the scaled value of one XFL
abbrev pub AreSizes : ℕ → ℕ → Type 0
AreSizes r s =
    ((r ≡ 0) × (s ≡ 0))
    ⊎ ((b : ℕ) × (m : ℕ) × (10 ^ 15 ≤ m) × (m < 10 ^ 16) × (r ≡ (b + 1) * 10 ^ 16 + m) × (s ≡ m * 10 ^ b))

sizes_rise : (r s t u : ℕ) → AreSizes r s → AreSizes t u → r < t → s < u
sizes_rise r s t u (inl one) (inl two) h = absurd (omega (arith, one.0, two.0))
sizes_rise r s t u (inl one) (inr (b, m, low, high, is, this)) h =
    omega (arith, one.1, this, mul-lt-mul_of_pos_right {m = 0} {n = m} (omega arith) (ten_pos b))
sizes_rise r s t u (inr (b, m, low, high, is, this)) (inl two) h = absurd (omega (arith, two.0))
sizes_rise r s t u (inr (b, m, low, high, is, this)) (inr (c, n, low', high', is', this')) h = elim (cases_lt b c) [
  | inl g ↦
      let over : 10 ^ (b + 1) ≤ 10 ^ c = pow-le-pow_right {n = 10} (omega arith) (omega arith) in
      omega (arith, this, this', over, pow-add 10 b 1, mul-lt-mul_of_pos_right high (ten_pos b), mul-le-mul low' over)
  | inr g ↦
      let same : b ≡ c = omega (arith, is, is') in
      let equal : 10 ^ b ≡ 10 ^ c = ap (λ t. 10 ^ t) same in
      let below : m < n = omega (arith, is, is') in
      omega (arith, this, this', ap (λ t. n * t) equal, mul-lt-mul_of_pos_right below (ten_pos b))
]

sizes_agree : (r s t u : ℕ) → AreSizes r s → AreSizes t u → r ≡ t → s ≡ u
sizes_agree r s t u (inl one) (inl two) h = omega (arith, one.1, two.1)
sizes_agree r s t u (inl one) (inr (b, m, low, high, is, this)) h = absurd (omega (arith, one.0))
sizes_agree r s t u (inr (b, m, low, high, is, this)) (inl two) h = absurd (omega (arith, two.0))
sizes_agree r s t u (inr (b, m, low, high, is, this)) (inr (c, n, low', high', is', this')) h =
    let same : b ≡ c = omega (arith, is, is') in
    let digits : m ≡ n = omega (arith, is, is') in
    this ∙ ap (λ t. t * 10 ^ b) digits ∙ ap (λ t. n * 10 ^ t) same ∙ sym this'

-- a size is 0 where the other is
sizes_zero : (r s : ℕ) → AreSizes r s → r ≡ 0 → s ≡ 0
sizes_zero r s one h = sizes_agree r s 0 0 one (inl (refl, refl)) h

sizes_some : (r s : ℕ) → AreSizes r s → 0 < r → 0 < s
sizes_some r s one h = sizes_rise 0 0 r s (inl (refl, refl)) one h

signed_rise : (n o : Bool) (r s t u : ℕ) → AreSizes r s → AreSizes t u → signed n r <ℤ signed o t →
    signed n s <ℤ signed o u
signed_rise false false r s t u one two h =
    let up : s < u = sizes_rise r s t u one two (omega (arith, ints, h)) in omega (arith, ints)
signed_rise true true r s t u one two h =
    let up : u < s = sizes_rise t u r s two one (omega (arith, ints, h)) in omega (arith, ints)
signed_rise false true r s t u one two h = absurd (omega (arith, ints, h))
signed_rise true false r s t u one two h = elim (cases_lt 0 r) [
  | inl g ↦ let some : 0 < s = sizes_some r s one g in omega (arith, ints)
  | inr g ↦ let some : 0 < u = sizes_some t u two (omega (arith, ints, h)) in omega (arith, ints)
]

signed_agree : (n o : Bool) (r s t u : ℕ) → AreSizes r s → AreSizes t u → signed n r ≡ signed o t →
    signed n s ≡ signed o u
signed_agree false false r s t u one two h = ap pos (sizes_agree r s t u one two (omega (arith, ints, h)))
signed_agree true true r s t u one two h = ap (signed true) (sizes_agree r s t u one two (omega (arith, ints, h)))
signed_agree false true r s t u one two h =
    let a : s ≡ 0 = sizes_zero r s one (omega (arith, ints, h)) in
    let b : u ≡ 0 = sizes_zero t u two (omega (arith, ints, h)) in
    omega (arith, ints)
signed_agree true false r s t u one two h =
    let a : s ≡ 0 = sizes_zero r s one (omega (arith, ints, h)) in
    let b : u ≡ 0 = sizes_zero t u two (omega (arith, ints, h)) in
    omega (arith, ints)

rank_number : (x : Decimal) → IsNumber x →
    rank_of x ≡ signed x.negative (unsigned_abs (x.exponent +ℤ pos 97) * 10 ^ 16 + x.mantissa)
rank_number x h =
    let some : eqb x.mantissa 0 ≡ false = grind (arith, nat_tests) in
    rw some refl

carried : {P Q R S T U : Type 0} (o : Ordering) → (P → S) → (Q → T) → (R → U) → MatchOrdering o P Q R →
    MatchOrdering o S T U
carried Less f g h p = f p
carried Equal f g h p = g p
carried Greater f g h p = h p

record Ranked (x : Decimal) : Type 0 where
  rank : ℕ
  size : ℕ
  rank_is : rank_of x ≡ signed x.negative rank
  size_is : scaled x ≡ signed x.negative size
  sizes : AreSizes rank size

ranked : (x : Decimal) → IsXfl x → Ranked x
ranked x (inl h) =
    subst Ranked (sym h) (record { rank = 0; size = 0; rank_is = refl; size_is = refl; sizes = inl (refl, refl) })
ranked x (inr h) =
    let (b, is) = place_of x.exponent h.least in
    let up : x.exponent +ℤ pos 97 ≡ pos (b + 1) = omega (arith, ints) in
    let this : unsigned_abs (x.exponent +ℤ pos 97) ≡ b + 1 = ap unsigned_abs up in
    record {
      rank = (b + 1) * 10 ^ 16 + x.mantissa;
      size = x.mantissa * 10 ^ b;
      rank_is = rank_number x h ∙ ap (λ t. signed x.negative (t * 10 ^ 16 + x.mantissa)) this;
      size_is = scaled_is x b is;
      sizes = inr (b, x.mantissa, h.low, h.high, refl, refl);
    }

-- the order by rank is the order by value
pub rank_order : (x y : Decimal) → IsXfl x → IsXfl y → int_cmp (rank_of x) (rank_of y) ≡ int_cmp (scaled x) (scaled y)
rank_order x y xs ys =
    let a = ranked x xs in
    let b = ranked y ys in
    let rise = signed_rise x.negative y.negative a.rank a.size b.rank b.size a.sizes b.sizes in
    let fall = signed_rise y.negative x.negative b.rank b.size a.rank a.size b.sizes a.sizes in
    let agree = signed_agree x.negative y.negative a.rank a.size b.rank b.size a.sizes b.sizes in
    rw (a.rank_is, b.rank_is, a.size_is, b.size_is)
    (int_cmp_is (signed x.negative a.size) (signed y.negative b.size)
    (int_cmp (signed x.negative a.rank) (signed y.negative b.rank))
    (carried (int_cmp (signed x.negative a.rank) (signed y.negative b.rank)) rise agree fall
    (int_ranks (signed x.negative a.rank) (signed y.negative b.rank))))
