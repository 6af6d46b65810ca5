-- The text of a message.
use Rattle.std.proofs.Common.{◌≡◌, ℕ, zero, suc, List, [], ◌∷◌, min, take, drop, ap, sym, arith, refl}
use Rattle.wa_machine.specs.Machine.{text_of}

pub take_none : (m : ℕ) → take {A = ℕ} m [] ≡ []
take_none zero = refl
take_none (suc m) = refl

pub taken_twice : (k n m : ℕ) (xs : List ℕ) → k ≡ min n m → take k xs ≡ take m (take n xs)
taken_twice zero zero m xs e = sym (take_none m)
taken_twice zero (suc n) zero xs e = refl
taken_twice zero (suc n) (suc m) xs e = absurd (omega (arith, e))
taken_twice (suc k) zero m xs e = absurd (omega (arith, e))
taken_twice (suc k) (suc n) zero xs e = absurd (omega (arith, e))
taken_twice (suc k) (suc n) (suc m) [] e = refl
taken_twice (suc k) (suc n) (suc m) (x ∷ xs) e = ap (λ ys. x ∷ ys) (taken_twice k n m xs (omega (arith, e)))

pub text_cut : (memory : List ℕ) (from size count : ℕ) → count ≡ min size 256 →
    take count (drop from memory) ≡ text_of memory from size
text_cut memory from size count e = taken_twice count size 256 (drop from memory) e
