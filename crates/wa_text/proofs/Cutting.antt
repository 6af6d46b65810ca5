-- The first line of bytes.
use Rattle.std.proofs.Common.{◌≡◌, ℕ, suc, ◌+◌, ◌==◌, Bool, true, false, not, cond, nat_lt, if◌then◌else◌, List, []}
use Rattle.std.proofs.Common.{◌∷◌, length, take, drop, Option, Some, None, refl, sym, ap, subst, arith}
use Rattle.std.proofs.lemmas.Bool.{lt-ltb}
use Rattle.std.proofs.lemmas.Bool.Decides.{nat_tests}
use Rattle.std.specs.List.{position, position_or_len}
use Rattle.hk_lines.specs.Cut.{Cut, behind, whole, onto, cut}

-- what bytes are cut into, by the place of their first line feed
abbrev pub Cuts : Cut → List ℕ → Option ℕ → Type 0
Cuts c bytes None = c ≡ behind bytes
Cuts c bytes (Some n) = c ≡ whole (take n bytes) (cut (drop (suc n) bytes))

deeper : (test : Bool) (x : ℕ) (xs : List ℕ) (n : ℕ) → Cuts (cut xs) xs (cond test (Some n) None) →
    Cuts (onto x (cut xs)) (x ∷ xs) (cond test (Some (suc n)) None)
deeper true x xs n h = ap (onto x) h
deeper false x xs n h = ap (onto x) h

same_test : (test : Bool) (n m : ℕ) → nat_lt n m ≡ test → nat_lt (suc n) (suc m) ≡ test
same_test true n m e = grind (arith, nat_tests)
same_test false n m e = grind (arith, nat_tests)

one_more : (feed : Bool) (x : ℕ) (xs : List ℕ) (n : ℕ) → Cuts (cut xs) xs (cond (nat_lt n (length xs)) (Some n) None) →
    Cuts (if feed then whole [] (cut xs) else onto x (cut xs)) (x ∷ xs)
    (cond (nat_lt (cond (not feed) (1 + n) 0) (length (x ∷ xs))) (Some (cond (not feed) (1 + n) 0)) None)
one_more true x xs n h =
    let some : nat_lt 0 (length (x ∷ xs)) ≡ true = lt-ltb 0 (length (x ∷ xs)) (omega arith) in
    subst (λ t. Cuts (whole [] (cut xs)) (x ∷ xs) (cond t (Some 0) None)) (sym some) refl
one_more false x xs n h =
    let order : suc n ≡ 1 + n = omega arith in
    let test : nat_lt n (length xs) ≡ nat_lt (suc n) (length (x ∷ xs)) =
    sym (same_test (nat_lt n (length xs)) n (length xs) refl) in
    let below =
    subst (λ t. Cuts (onto x (cut xs)) (x ∷ xs) (cond t (Some (suc n)) None)) test
    (deeper (nat_lt n (length xs)) x xs n h) in
    subst (λ k. Cuts (onto x (cut xs)) (x ∷ xs) (cond (nat_lt k (length (x ∷ xs))) (Some k) None)) order below

pub cut_at : (bytes : List ℕ) → Cuts (cut bytes) bytes (position (λ byte. byte == 10) bytes)
cut_at [] = refl
cut_at (x ∷ xs) = one_more (x == 10) x xs (position_or_len (λ byte. byte == 10) xs) (cut_at xs)
