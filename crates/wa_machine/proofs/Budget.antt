-- What is left of the turns of loops, and how a passing guard pays.
use Rattle.std.proofs.Common.{◌≡◌, ◌+◌, ◌-◌, ◌*◌, ◌<◌, ◌≤◌, ◌==◌, ◌⊎◌, inl, inr, ◌++◌, ℕ, suc, List, [], ◌∷◌, Bool}
use Rattle.std.proofs.Common.{true, false, if◌then◌else◌, sym, ap, subst, refl, arith}
use Rattle.std.proofs.Math.Nat.{mul-le-mul_right}
use Rattle.std.proofs.lemmas.Bool.Decides.{nat_tests}
use Rattle.wa_ops.specs.Bound.{LoopCost, last_pass, turns as all_turns}
use Rattle.wa_machine.specs.Machine.{counted}

-- the turns that these loops may still take
abbrev pub left : List LoopCost → (ℕ → ℕ) → ℕ
left [] guards = 0
left (x ∷ xs) guards = (x.limit - guards x.id) * x.cost + left xs guards

abbrev pub Among : List LoopCost → LoopCost → Type 0
Among [] x = ⊥
Among (y ∷ ys) x = (y ≡ x) ⊎ Among ys x

abbrev pub Within : List LoopCost → List LoopCost → Type 0
Within all [] = Unit {0}
Within all (x ∷ xs) = Among all x × Within all xs

pub within_front : (all xs ys : List LoopCost) → Within all (xs ++ ys) → Within all xs
within_front all [] ys h = tt
within_front all (x ∷ xs) ys h = (h.0, within_front all xs ys h.1)

pub within_back : (all xs ys : List LoopCost) → Within all (xs ++ ys) → Within all ys
within_back all [] ys h = h
within_back all (x ∷ xs) ys h = within_back all xs ys h.1

pub within_more : (all : List LoopCost) (y : LoopCost) (xs : List LoopCost) → Within all xs → Within (y ∷ all) xs
within_more all y [] h = tt
within_more all y (x ∷ xs) h = (inr h.0, within_more all y xs h.1)

pub within_itself : (xs : List LoopCost) → Within xs xs
within_itself [] = tt
within_itself (x ∷ xs) = (inl refl, within_more xs x xs (within_itself xs))

pub counted_same : (id : ℕ) (guards : ℕ → ℕ) → counted id guards id ≡ suc (guards id)
counted_same id guards = grind (arith, nat_tests)

pub counted_less : (id other limit : ℕ) (guards : ℕ → ℕ) → limit - counted id guards other ≤ limit - guards other
counted_less id other limit guards = at (other == id)
  where
    at : (b : Bool) → limit - (if b then suc (guards other) else guards other) ≤ limit - guards other
    at true = omega arith
    at false = omega arith

pub left_less : (xs : List LoopCost) (id : ℕ) (guards : ℕ → ℕ) → left xs (counted id guards) ≤ left xs guards
left_less [] id guards = omega arith
left_less (x ∷ xs) id guards =
    omega (arith, mul-le-mul_right x.cost (counted_less id x.id x.limit guards), left_less xs id guards)

pub pays : (limit cost passed : ℕ) → passed < limit → (limit - suc passed) * cost + cost ≤ (limit - passed) * cost
pays limit cost passed h =
    let e : limit - passed ≡ (limit - suc passed) + 1 = omega arith in
    omega (arith, ap (λ n. n * cost) e)

-- a pass of a loop's guard pays for a turn of the loop
pub left_pays : (xs : List LoopCost) (x : LoopCost) (guards : ℕ → ℕ) → Among xs x → guards x.id < x.limit →
    left xs (counted x.id guards) + x.cost ≤ left xs guards
left_pays [] x guards a h = absurd a
left_pays (y ∷ ys) x guards (inl e) h =
    subst (λ z. left (z ∷ ys) (counted x.id guards) + x.cost ≤ left (z ∷ ys) guards) (sym e)
    (omega (
      arith,
      pays x.limit x.cost (guards x.id) h,
      ap (λ n. (x.limit - n) * x.cost) (counted_same x.id guards),
      left_less ys x.id guards,
    ))
left_pays (y ∷ ys) x guards (inr a) h =
    omega (arith, mul-le-mul_right y.cost (counted_less x.id y.id y.limit guards), left_pays ys x guards a h)

pub last_pass_is : (xs : List LoopCost) (x : LoopCost) → Among xs x → last_pass xs ≡ 3
last_pass_is [] x a = absurd a
last_pass_is (y ∷ ys) x a = refl

pub left_first : (xs : List LoopCost) → left xs (λ id. 0) ≡ all_turns xs
left_first [] = refl
left_first (x ∷ xs) =
    let e : x.limit - 0 ≡ x.limit = omega arith in omega (arith, ap (λ n. n * x.cost) e, left_first xs)
