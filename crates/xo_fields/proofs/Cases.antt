-- Cases on a test, for a fact of the answer, and what an option has.
use Rattle.std.proofs.Common.{◌≡◌, ℕ, Bool, true, false, if◌then◌else◌, refl, List, get_or, ◌<◌, ◌≤◌, ◌==◌, nat_lt}
use Rattle.std.proofs.Common.{nat_eq, IsTrue, arith, Some, None}
use Rattle.std.proofs.lemmas.Bool.Decides.{nat_tests}

-- each item of the list is a byte
abbrev pub IsBytes : List ℕ → Type 0
IsBytes bytes = (i : ℕ) → get_or bytes i 0 < 256

pub pick : {A : Type 0} (P : A → Type 0) (b : Bool) (x y : A) → (b ≡ true → P x) → (b ≡ false → P y) →
    P (if b then x else y)
pick P true x y yes_case no_case = yes_case refl
pick P false x y yes_case no_case = no_case refl

pub either : {P : Type 0} (b : Bool) → (b ≡ true → P) → (b ≡ false → P) → P
either true yes_case no_case = yes_case refl
either false yes_case no_case = no_case refl

below_from : (m n : ℕ) → nat_lt m n ≡ true → m < n
below_from m n e = grind (arith, nat_tests)

above_from : (m n : ℕ) → nat_lt m n ≡ false → n ≤ m
above_from m n e = grind (arith, nat_tests)

equal_from : (m n : ℕ) → (m == n) ≡ true → m ≡ n
equal_from m n e = grind (arith, nat_tests)

other_from : (m n : ℕ) → (m == n) ≡ false → m ≡ n → ⊥
other_from m n e = grind (arith, nat_tests)

pub pick_below : {A : Type 0} (P : A → Type 0) (m n : ℕ) (x y : A) → (m < n → P x) → (n ≤ m → P y) →
    P (if nat_lt m n then x else y)
pick_below P m n x y below above =
    pick P (nat_lt m n) x y (λ e. below (below_from m n e)) (λ e. above (above_from m n e))

pub pick_equal : {A : Type 0} (P : A → Type 0) (m n : ℕ) (x y : A) → (m ≡ n → P x) → ((m ≡ n → ⊥) → P y) →
    P (if m == n then x else y)
pick_equal P m n x y same other = pick P (m == n) x y (λ e. same (equal_from m n e)) (λ e. other (other_from m n e))

pub same_size : (m n : ℕ) → IsTrue (nat_eq m n) → m ≡ n
same_size m n t = grind (arith, nat_tests)

pub size_same : (m n : ℕ) → m ≡ n → IsTrue (nat_eq m n)
size_same m n e = grind (arith, nat_tests)

pub some_same : {A : Type 0} (x y : A) → Some x ≡ Some y → x ≡ y
some_same x y e = cc

pub none_some : {A : Type 0} {P : Type 0} (x : A) → None ≡ Some x → P
none_some x e = absurd cc
