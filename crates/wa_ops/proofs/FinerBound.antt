-- The bound of version 1 is at most that of version 0: each node costs no more, and so does each loop.
use Rattle.std.specs.Prelude.{ℕ, ◌≡◌, ◌≤◌, ◌+◌, ◌*◌, List, [], ◌∷◌, ◌++◌}
use Rattle.std.proofs.Common.{arith, refl}
use Rattle.std.proofs.Math.Nat.{mul-le-mul}
use Rattle.wa_ops.specs.Bound.{LoopCost, cost, loop_cost, loops, turns, last_pass, bound_at, FinerBound}
use Rattle.wa_ops.specs.Sequences.{Sequence, done, plain, block, loop, if_then, if_else}

cheaper : (code : Sequence) → cost 1 code ≤ cost 0 code
cheaper done = omega arith
cheaper (plain op rest) = omega (arith, cheaper rest)
cheaper (block result body rest) = omega (arith, cheaper body, cheaper rest)
cheaper (loop result body rest) = omega (arith, cheaper rest)
cheaper (if_then result body rest) = omega (arith, cheaper body, cheaper rest)
cheaper (if_else result first second rest) = omega (arith, cheaper first, cheaper second, cheaper rest)

-- loop by loop, with the same limits and at no greater cost
abbrev NoDearer : List LoopCost → List LoopCost → Type 0
NoDearer [] [] = Unit {0}
NoDearer (x ∷ xs) (y ∷ ys) = (x.limit ≡ y.limit) × (x.cost ≤ y.cost) × NoDearer xs ys
NoDearer xs ys = ⊥

both : (xs ys : List LoopCost) (us vs : List LoopCost) → NoDearer xs ys → NoDearer us vs →
    NoDearer (xs ++ us) (ys ++ vs)
both [] [] us vs front back = back
both [] (y ∷ ys) us vs front back = elim front [ ]
both (x ∷ xs) [] us vs front back = elim front [ ]
both (x ∷ xs) (y ∷ ys) us vs front back = (front.0, front.1, both xs ys us vs front.2 back)

loops_cheaper : (code : Sequence) → NoDearer (loops 1 code) (loops 0 code)
loops_cheaper done = tt
loops_cheaper (plain op rest) = loops_cheaper rest
loops_cheaper (block result body rest) =
    both (loops 1 body) (loops 0 body) _ _ (loops_cheaper body) (loops_cheaper rest)
loops_cheaper (loop result body rest) =
    both (loop_cost 1 body ∷ loops 1 body) (loop_cost 0 body ∷ loops 0 body) _ _
    (refl, omega (arith, cheaper body), loops_cheaper body) (loops_cheaper rest)
loops_cheaper (if_then result body rest) =
    both (loops 1 body) (loops 0 body) _ _ (loops_cheaper body) (loops_cheaper rest)
loops_cheaper (if_else result first second rest) =
    both (loops 1 first ++ loops 1 second) (loops 0 first ++ loops 0 second) _ _
    (both (loops 1 first) (loops 0 first) _ _ (loops_cheaper first) (loops_cheaper second)) (loops_cheaper rest)

turns_cheaper : (xs ys : List LoopCost) → NoDearer xs ys → turns xs ≤ turns ys
turns_cheaper [] [] none = omega arith
turns_cheaper [] (y ∷ ys) none = elim none [ ]
turns_cheaper (x ∷ xs) [] no_dearer = elim no_dearer [ ]
turns_cheaper (x ∷ xs) (y ∷ ys) no_dearer =
    omega (arith, mul-le-mul (same_limit no_dearer.0) no_dearer.1, turns_cheaper xs ys no_dearer.2)
  where
    same_limit : x.limit ≡ y.limit → x.limit ≤ y.limit
    same_limit e = omega (arith, e)

last_pass_same : (xs ys : List LoopCost) → NoDearer xs ys → last_pass xs ≡ last_pass ys
last_pass_same [] [] none = refl
last_pass_same [] (y ∷ ys) none = elim none [ ]
last_pass_same (x ∷ xs) [] no_dearer = elim no_dearer [ ]
last_pass_same (x ∷ xs) (y ∷ ys) no_dearer = refl

pub last_passes : (body : Sequence) → last_pass (loops 1 body) ≡ last_pass (loops 0 body)
last_passes body = last_pass_same (loops 1 body) (loops 0 body) (loops_cheaper body)

pub finer_bound : FinerBound
finer_bound body =
    omega (arith, cheaper body, turns_cheaper (loops 1 body) (loops 0 body) (loops_cheaper body), last_passes body)
