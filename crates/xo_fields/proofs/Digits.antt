-- Numbers of bytes, the highest first.
use Rattle.std.proofs.Common.{◌≡◌, ℕ, zero, suc, ◌+◌, ◌*◌, ◌/◌, ◌%◌, ◌<◌, ◌≤◌, ◌^◌, List, [], ◌∷◌, ◌++◌, length}
use Rattle.std.proofs.Common.{replicate, refl, sym, ap, ◌∙◌, arith, length-append}
use Rattle.std.specs.Int.{w64, to_be_bytes, from_be_bytes}
use Rattle.std.proofs.Math.Nat.{div-lt_iff_lt-mul, mul-le-mul_right}
use Rattle.std.proofs.lemmas.Nat.{be_bytes_8, from_be_bytes-to_be_bytes_8}
use Rattle.std.proofs.lemmas.List.{length-replicate}
use Rattle.xo_fields.proofs.Cases.{IsBytes}

-- how many numbers so many bytes have
abbrev pub span : ℕ → ℕ
span zero = 1
span (suc k) = 256 * span k

abbrev pub value : List ℕ → ℕ
value [] = 0
value (b ∷ bs) = b * span (length bs) + value bs

pub span-add : (m n : ℕ) → span (m + n) ≡ span m * span n
span-add zero n = let none : 0 + n ≡ n = omega arith in ap span none ∙ omega arith
span-add (suc m) n =
    let shift : suc m + n ≡ suc (m + n) = omega arith in
    ap span shift ∙ ap (λ x. 256 * x) (span-add m n) ∙ omega arith

pub value-append : (p q : List ℕ) → value (p ++ q) ≡ value p * span (length q) + value q
value-append [] q = omega arith
value-append (b ∷ bs) q =
    let l : span (length (bs ++ q)) ≡ span (length bs) * span (length q) =
    ap span (length-append bs q) ∙ span-add (length bs) (length q) in
    ap (λ x. b * x + value (bs ++ q)) l
    ∙ ap (λ x. b * (span (length bs) * span (length q)) + x) (value-append bs q)
    ∙ omega arith

pub span-pos : (k : ℕ) → 0 < span k
span-pos zero = omega arith
span-pos (suc k) = omega (arith, span-pos k)

-- bytes are below their span
pub value-below : (q : List ℕ) → IsBytes q → value q < span (length q)
value-below [] small = omega arith
value-below (b ∷ bs) small =
    let bb : b < 256 = small 0 in let more : value bs < span (length bs) = value-below bs (λ i. small (suc i)) in
    let top : b * span (length bs) ≤ 255 * span (length bs) = mul-le-mul_right (span (length bs)) (omega arith) in
    omega arith

pub value-zeros : (k : ℕ) → value (replicate k 0) ≡ 0
value-zeros zero = refl
value-zeros (suc k) = omega (arith, value-zeros k)

pub value-greatest : (k : ℕ) → value (replicate k 255) + 1 ≡ span k
value-greatest zero = refl
value-greatest (suc k) =
    let l : 255 * span (length (replicate {A = ℕ} k 255)) ≡ 255 * span k =
    ap (λ n. 255 * span n) (length-replicate {A = ℕ} k 255) in
    omega (arith, value-greatest k)

-- each number below the span has its bytes
pub digits : (k w : ℕ) → w < span k → (q : List ℕ) × (length q ≡ k) × IsBytes q × (value q ≡ w)
digits zero w h = ([], refl, λ i. omega arith, omega arith)
digits (suc k) w h =
    let pos : 0 < span k = span-pos k in
    let rest : _ = digits k (w % span k) (omega arith) in
    let first : w / span k < 256 = (div-lt_iff_lt-mul pos).1 (omega arith) in (
      w / span k ∷ rest.0,
      ap suc rest.1,
      small rest.0 rest.2 first,
      ap (λ n. w / span k * span n + value rest.0) rest.1 ∙ omega (arith, rest.3),
    )
  where
    small : (q : List ℕ) → IsBytes q → w / span k < 256 → IsBytes (w / span k ∷ q)
    small q s f zero = f
    small q s f (suc i) = s i

-- a number of eight bytes as std has it
pub value_is : (p : List ℕ) → length p ≡ 8 → value p ≡ from_be_bytes w64 p
value_is [] e = absurd (omega arith)
value_is (a ∷ []) e = absurd (omega arith)
value_is (a ∷ b ∷ []) e = absurd (omega arith)
value_is (a ∷ b ∷ c ∷ []) e = absurd (omega arith)
value_is (a ∷ b ∷ c ∷ d ∷ []) e = absurd (omega arith)
value_is (a ∷ b ∷ c ∷ d ∷ f ∷ []) e = absurd (omega arith)
value_is (a ∷ b ∷ c ∷ d ∷ f ∷ g ∷ []) e = absurd (omega arith)
value_is (a ∷ b ∷ c ∷ d ∷ f ∷ g ∷ h ∷ []) e = absurd (omega arith)
value_is (a ∷ b ∷ c ∷ d ∷ f ∷ g ∷ h ∷ i ∷ []) e = omega arith
value_is (a ∷ b ∷ c ∷ d ∷ f ∷ g ∷ h ∷ i ∷ j ∷ rest) e = absurd (omega arith)

pub eight_bytes : (p : List ℕ) (n : ℕ) → length p ≡ 8 → IsBytes p → value p ≡ n → p ≡ to_be_bytes w64 n
eight_bytes p n l small e = sym (be_bytes_8 p n l small (sym e ∙ value_is p l))

pub value-to_be_bytes : (n : ℕ) → n < 2 ^ 64 → value (to_be_bytes w64 n) ≡ n
value-to_be_bytes n small = value_is (to_be_bytes w64 n) refl ∙ from_be_bytes-to_be_bytes_8 n small

pub small-to_be_bytes : (n : ℕ) → IsBytes (to_be_bytes w64 n)
small-to_be_bytes n zero = omega arith
small-to_be_bytes n (suc zero) = omega arith
small-to_be_bytes n (suc (suc zero)) = omega arith
small-to_be_bytes n (suc (suc (suc zero))) = omega arith
small-to_be_bytes n (suc (suc (suc (suc zero)))) = omega arith
small-to_be_bytes n (suc (suc (suc (suc (suc zero))))) = omega arith
small-to_be_bytes n (suc (suc (suc (suc (suc (suc zero)))))) = omega arith
small-to_be_bytes n (suc (suc (suc (suc (suc (suc (suc zero))))))) = omega arith
small-to_be_bytes n (suc (suc (suc (suc (suc (suc (suc (suc i)))))))) = omega arith
