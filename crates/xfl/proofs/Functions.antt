-- From the relation that the steps show to the functions of the definitions.
use Rattle.std.proofs.Common.{◌≡◌, ℕ, ◌<◌, refl, sym, ap, ◌∙◌, arith, inl, inr, Bool, true, false, ℤ, Result, Ok, eqb}
use Rattle.std.proofs.Common.{◌*◌, ◌-ℤ◌}
use Rattle.std.proofs.lemmas.Bool.{cases_eq}
use Rattle.std.proofs.lemmas.Bool.Decides.{nat_tests}
use Rattle.xfl.specs.declared.fault.XflFault.{XflFault}
use Rattle.xfl.specs.Value.{Decimal, nought, tens}
use Rattle.xfl.specs.Cut.{IsExact, cut16, is_exact}
use Rattle.xfl.specs.Operations.{Exact, ranged, next_ranged, rounded, rounded_up, quotient, divided, share, ratio_of}
use Rattle.xfl.specs.Steps.{IsRounded, IsRoundedUp}
use Rattle.xfl.proofs.OneCut.{each_has_cut, has_one_cut}

rounded_nothing : (x : Exact) → x.numerator ≡ 0 → rounded x ≡ Ok nought
rounded_nothing x h = let test : eqb x.numerator 0 ≡ true = grind (arith, nat_tests) in rw test refl

rounded_something : (x : Exact) → 0 < x.numerator →
    rounded x
    ≡ ranged x.negative (cut16 x.numerator x.denominator x.exponent).0 (cut16 x.numerator x.denominator x.exponent).1
rounded_something x h = let test : eqb x.numerator 0 ≡ false = grind (arith, nat_tests) in rw test refl

-- there is one answer
pub rounded_is : (x : Exact) (r : Result Decimal XflFault) → 0 < x.denominator → IsRounded x r → r ≡ rounded x
rounded_is x r divisible h =
    elim (cases_eq x.numerator 0) [
      | inl z ↦ h.nothing z ∙ sym (rounded_nothing x z)
      | inr z ↦
          let some : 0 < x.numerator = omega arith in
          let (m, e, cut, gives) = h.something some in
          let one = each_has_cut x.numerator x.denominator x.exponent some divisible in
          let same =
          has_one_cut x.numerator x.denominator x.exponent divisible m (cut16 x.numerator x.denominator x.exponent).0 e
          (cut16 x.numerator x.denominator x.exponent).1 cut one in
          gives
          ∙ ap (λ t. ranged x.negative t e) same.0
          ∙ ap (ranged x.negative (cut16 x.numerator x.denominator x.exponent).0) same.1
          ∙ sym (rounded_something x some)
    ]

up_nothing : (x : Exact) → x.numerator ≡ 0 → rounded_up x ≡ Ok nought
up_nothing x h = let test : eqb x.numerator 0 ≡ true = grind (arith, nat_tests) in rw test refl

up_exact : (x : Exact) (m : ℕ) (e : ℤ) → 0 < x.numerator → m ≡ (cut16 x.numerator x.denominator x.exponent).0 →
    e ≡ (cut16 x.numerator x.denominator x.exponent).1 → IsExact x.numerator x.denominator x.exponent m e →
    ranged x.negative m e ≡ rounded_up x
up_exact x m e some is_m is_e h =
    let test : eqb x.numerator 0 ≡ false = grind (arith, nat_tests) in
    let exact : is_exact x.numerator x.denominator x.exponent m e ≡ true = grind (arith, nat_tests) in
    rw test (rw (← is_m, ← is_e, exact) refl)

up_next : (x : Exact) (m : ℕ) (e : ℤ) → 0 < x.numerator → m ≡ (cut16 x.numerator x.denominator x.exponent).0 →
    e ≡ (cut16 x.numerator x.denominator x.exponent).1 → (IsExact x.numerator x.denominator x.exponent m e → ⊥) →
    next_ranged x.negative m e ≡ rounded_up x
up_next x m e some is_m is_e h =
    let test : eqb x.numerator 0 ≡ false = grind (arith, nat_tests) in
    let other : is_exact x.numerator x.denominator x.exponent m e ≡ false = grind (arith, nat_tests) in
    rw test (rw (← is_m, ← is_e, other) refl)

pub rounded_up_is : (x : Exact) (r : Result Decimal XflFault) → 0 < x.denominator → IsRoundedUp x r → r ≡ rounded_up x
rounded_up_is x r divisible h =
    elim (cases_eq x.numerator 0) [
      | inl z ↦ h.nothing z ∙ sym (up_nothing x z)
      | inr z ↦
          let some : 0 < x.numerator = omega arith in
          let (m, e, cut, same, other) = h.something some in
          let one = each_has_cut x.numerator x.denominator x.exponent some divisible in
          let both =
          has_one_cut x.numerator x.denominator x.exponent divisible m (cut16 x.numerator x.denominator x.exponent).0 e
          (cut16 x.numerator x.denominator x.exponent).1 cut one in
          elim (cases_eq (m * x.denominator * tens (e -ℤ x.exponent)) (x.numerator * tens (x.exponent -ℤ e))) [
            | inl g ↦ same g ∙ up_exact x m e some both.0 both.1 g
            | inr g ↦ other g ∙ up_next x m e some both.0 both.1 g
          ]
    ]

pub divided_is : (x y : Decimal) (r : Result Decimal XflFault) → 0 < y.mantissa → IsRounded (quotient x y) r →
    r ≡ divided x y
divided_is x y r some h =
    let test : eqb y.mantissa 0 ≡ false = grind (arith, nat_tests) in
    rw test (rounded_is (quotient x y) r some h)

pub ratio_down : (x : Decimal) (up : Bool) (part all : ℕ) (r : Result Decimal XflFault) → 0 < all → up ≡ false →
    IsRounded (share x part all) r → r ≡ ratio_of x up part all
ratio_down x up part all r some is h =
    let test : eqb all 0 ≡ false = grind (arith, nat_tests) in
    rw (test, is) (rounded_is (share x part all) r some h)

pub ratio_up : (x : Decimal) (up : Bool) (part all : ℕ) (r : Result Decimal XflFault) → 0 < all → up ≡ true →
    IsRoundedUp (share x part all) r → r ≡ ratio_of x up part all
ratio_up x up part all r some is h =
    let test : eqb all 0 ≡ false = grind (arith, nat_tests) in
    rw (test, is) (rounded_up_is (share x part all) r some h)
