-- The ranges of numbers in LEB128: each byte that goes on adds seven binary digits.
use Rattle.std.proofs.Common.{◌≡◌, ℕ, ◌+◌, ◌-◌, ◌*◌, ◌^◌, ◌<◌, ◌≤◌, ℤ, pos, ◌+ℤ◌, ◌*ℤ◌, ◌≤ℤ◌, ◌<ℤ◌, w64, to_z, of_z}
use Rattle.std.proofs.Common.{FitsSigned, List, [], ◌∷◌, length, take, drop, get_or, Some, true, false, nat_lt, arith}
use Rattle.std.proofs.Common.{ap, refl, ◌∙◌}
use Rattle.std.proofs.Math.Nat.{pow-le-pow_right}
use Rattle.std.proofs.lemmas.Int.{ints, to_z-of_z}
use Rattle.std.proofs.Math.Seq.{take-length}
use Rattle.std.proofs.lemmas.Bool.Decides.{nat_tests}
use Rattle.std.proofs.lemmas.Nat.{pow-add}
use Rattle.wa_decode.specs.Reading.{signed_at}

pub seven_more : (bits : ℕ) → 7 < bits → 2 ^ bits ≡ 128 * 2 ^ (bits - 7)
seven_more bits h =
    let e : bits ≡ 7 + (bits - 7) = omega arith in ap (λ n. 2 ^ n) e ∙ pow-add 2 7 (bits - 7)

pub at_most : (bits most : ℕ) → bits ≤ most → 2 ^ bits ≤ 2 ^ most
at_most bits most h = pow-le-pow_right (omega arith) h

-- seven digits more behind the high ones still fit
pub high_fits : (bits high : ℕ) → 7 < bits → high < 2 ^ (bits - 7) → 128 * high + 128 ≤ 2 ^ bits
high_fits bits high more h = let e : 2 ^ bits ≡ 128 * 2 ^ (bits - 7) = seven_more bits more in omega arith

pub half_seven_more : (bits : ℕ) → 7 < bits → 2 ^ (bits - 1) ≡ 128 * 2 ^ (bits - 7 - 1)
half_seven_more bits h =
    let e : bits - 1 ≡ 7 + (bits - 7 - 1) = omega arith in ap (λ n. 2 ^ n) e ∙ pow-add 2 7 (bits - 7 - 1)

pub in_range : (p : ℕ) (z : ℤ) → pos 0 ≤ℤ (z +ℤ pos p) → z <ℤ pos p → p ≤ 2 ^ 63 → FitsSigned w64 z
in_range p z low high most = omega (arith, ints)

pub product_fits : (p : ℕ) (z : ℤ) → pos 0 ≤ℤ (z +ℤ pos p) → z <ℤ pos p → 128 * p ≤ 2 ^ 63 →
    FitsSigned w64 (pos 128 *ℤ to_z w64 (of_z w64 z))
product_fits p z low high most =
    let f : FitsSigned w64 z = in_range p z low high (omega arith) in
    rw (to_z-of_z w64 z f) (in_range (128 * p) (pos 128 *ℤ z) (omega (arith, ints)) (omega (arith, ints)) most)

-- the number that the code computes, without its casts
pub tidy : (p low : ℕ) (z first : ℤ) → pos 0 ≤ℤ (z +ℤ pos p) → z <ℤ pos p → 128 * p ≤ 2 ^ 63 → first ≡ pos low →
    low < 128
    → to_z w64 (of_z w64 (to_z w64 (of_z w64 first) +ℤ to_z w64 (of_z w64 (pos 128 *ℤ to_z w64 (of_z w64 z)))))
    ≡ pos low +ℤ (pos 128 *ℤ z)
tidy p low z first least high most e l = omega (arith, ints, e)

pub in_range_more : (p q low : ℕ) (z value : ℤ) → pos 0 ≤ℤ (z +ℤ pos p) → z <ℤ pos p → q ≡ 128 * p → low < 128 →
    value ≡ pos low +ℤ (pos 128 *ℤ z) → (pos 0 ≤ℤ (value +ℤ pos q)) × (value <ℤ pos q)
in_range_more p q low z value least high e l v = (omega (arith, ints, v), omega (arith, ints, v))

-- what stands behind the first byte
pub behind_first : (b : ℕ) (bs : List ℕ) → take (length (b ∷ bs) - 1) (drop 1 (b ∷ bs)) ≡ bs
behind_first b bs = let e : length (b ∷ bs) - 1 ≡ length bs = omega arith in rw e (take-length bs)

pub signed_more : (bits : ℕ) (bytes : List ℕ) (high value : ℤ) (rest : List ℕ) → 1 ≤ length bytes →
    128 ≤ get_or bytes 0 0 → 7 < bits
    → signed_at (bits - 7) (take (length bytes - 1) (drop 1 bytes)) ≡ Some (high, rest) →
    value ≡ pos (get_or bytes 0 0 - 128) +ℤ (pos 128 *ℤ high) → signed_at bits bytes ≡ Some (value, rest)
unfolding signed_at
signed_more bits [] high value rest l h m e v = absurd (omega arith)
signed_more bits (b ∷ bs) high value rest l h m e v =
    let first : nat_lt b 64 ≡ false = grind (arith, nat_tests) in
    let second : nat_lt b 128 ≡ false = grind (arith, nat_tests) in
    let third : nat_lt 7 bits ≡ true = grind (arith, nat_tests) in
    let behind : signed_at (bits - 7) bs ≡ Some (high, rest) = rw (← behind_first b bs) e in
    rw (first, second, third, behind, v) refl
