-- The shortest bytes of a number spell it, and each other spelling has more.
use Rattle.std.proofs.Common.{◌≡◌, ℕ, zero, suc, ℤ, pos, negsuc, ◌+◌, ◌-◌, ◌*◌, ◌/◌, ◌%◌, ◌^◌, ◌<◌, ◌≤◌, ◌+ℤ◌, ◌-ℤ◌}
use Rattle.std.proofs.Common.{◌*ℤ◌, ◌≤ℤ◌, ◌<ℤ◌, ◌⊎◌, inl, inr, Bool, true, false, nat_lt, int_le, if◌then◌else◌, List}
use Rattle.std.proofs.Common.{[], ◌∷◌, length, refl, sym, ap, ap₂, subst, arith}
use Rattle.std.proofs.lemmas.Bool.{ltb-true, ltb-false, lt-ltb, leb-true, leb-false, and_parts, and_cases}
use Rattle.std.proofs.lemmas.Int.{ints}
use Rattle.std.proofs.Math.Nat.{lt_of_not-le}
use Rattle.wa_decode.specs.Grammar.{IsUnsigned, IsSigned}
use Rattle.wa_decode.specs.Ranges.{IsBytes}
use Rattle.wa_decode.proofs.Powers.{seven_more, half_seven_more, at_most}
use Rattle.wa_encode.specs.Numbers.{shortest, is_short, low_bits, high_bits, shortest_signed, IsShortest}
use Rattle.wa_encode.specs.Numbers.{UnsignedShortest, SignedShortest}

-- ---- lengths

same_first : (x y : ℕ) (xs ys : List ℕ) → x ≡ y → xs ≡ ys → x ∷ xs ≡ y ∷ ys
same_first x y xs ys p q = ap₂ (λ (z : ℕ) (zs : List ℕ). z ∷ zs) p q

-- the same digit in front
one_more : (x y : ℕ) (short bytes : List ℕ) → x ≡ y → IsShortest short bytes → IsShortest (y ∷ short) (x ∷ bytes)
one_more x y short bytes p (inl e) = inl (same_first x y bytes short p e)
one_more x y short bytes p (inr l) = inr (omega (arith, l))

some_unsigned : (bits n : ℕ) (bytes : List ℕ) → IsUnsigned bits n bytes → 0 < length bytes
some_unsigned bits n [] h = absurd h
some_unsigned bits n (x ∷ xs) h = omega arith

some_signed : (bits : ℕ) (z : ℤ) (bytes : List ℕ) → IsSigned bits z bytes → 0 < length bytes
some_signed bits z [] h = absurd h
some_signed bits z (x ∷ xs) h = omega arith

-- ---- unsigned numbers

-- a number that one byte doesn't spell has more than seven bits
pub wide : (bits n : ℕ) → 128 ≤ n → n < 2 ^ bits → 7 < bits
wide bits n least most = lt_of_not-le (λ few. let power : 2 ^ bits ≤ 128 = at_most bits 7 few in omega arith)

pub unsigned_spelled : (more bits n : ℕ) → 0 < bits → bits ≤ 7 * suc more → n < 2 ^ bits →
    IsUnsigned bits n (shortest more n)
unfolding shortest
unsigned_spelled zero bits n some fits most =
    let narrow : bits ≤ 7 = omega arith in
    let below : n < 128 = omega (arith, at_most bits 7 narrow) in
    inl (below, most, refl, refl)
unsigned_spelled (suc more) bits n some fits most =
    split (nat_lt n 128) refl (unsigned_spelled more (bits - 7) (n / 128))
  where
    split : (t : Bool) → nat_lt n 128 ≡ t →
        (0 < bits - 7 → bits - 7 ≤ 7 * suc more → n / 128 < 2 ^ (bits - 7) →
        IsUnsigned (bits - 7) (n / 128) (shortest more (n / 128)))
        → IsUnsigned bits n (if t then n ∷ [] else (128 + n % 128) ∷ shortest more (n / 128))
    split true t deeper = inl (ltb-true n 128 t, most, refl, refl)
    split false t deeper =
        let least : 128 ≤ n = ltb-false n 128 t in
        let more_bits : 7 < bits = wide bits n least most in
        let power : 2 ^ bits ≡ 128 * 2 ^ (bits - 7) = seven_more bits more_bits in
        inr (omega arith, more_bits, n / 128, omega arith, deeper (omega arith) (omega arith) (omega arith))

unsigned_least : (more bits n : ℕ) → bits ≤ 7 * suc more → (bytes : List ℕ) → IsBytes bytes → IsUnsigned bits n bytes →
    IsShortest (shortest more n) bytes
unfolding shortest
unsigned_least zero bits n fits [] b h = absurd h
unsigned_least zero bits n fits (x ∷ xs) b (inl h) = inl (same_first x n xs [] (sym h.2) h.3)
unsigned_least zero bits n fits (x ∷ xs) b (inr h) = absurd (omega (arith, h.1))
unsigned_least (suc more) bits n fits [] b h = absurd h
unsigned_least (suc more) bits n fits (x ∷ xs) b (inl h) =
    let t : nat_lt n 128 ≡ true = lt-ltb n 128 (omega (arith, h.0, h.2)) in
    rw t (inl (same_first x n xs [] (sym h.2) h.3))
unsigned_least (suc more) bits n fits (x ∷ xs) b (inr h) =
    let digit : x ≡ 128 + n % 128 = omega (arith, h.0, h.3, b.0) in
    let above : h.2 ≡ n / 128 = omega (arith, h.0, h.3, b.0) in
    let P : ℕ → Type 0 = λ m. IsShortest (shortest more m) xs in
    split (nat_lt n 128) digit (subst P above (unsigned_least more (bits - 7) h.2 (omega arith) xs b.1 h.4))
    (some_unsigned (bits - 7) h.2 xs h.4)
  where
    split : (t : Bool) → x ≡ 128 + n % 128 → IsShortest (shortest more (n / 128)) xs → 0 < length xs →
        IsShortest (if t then n ∷ [] else (128 + n % 128) ∷ shortest more (n / 128)) (x ∷ xs)
    split true digit rest some = inr (omega arith)
    split false digit rest some = one_more x (128 + n % 128) (shortest more (n / 128)) xs digit rest

pub unsigned_shortest : UnsignedShortest
unsigned_shortest bits n some most fits =
    (unsigned_spelled 9 bits n some (omega arith) fits, unsigned_least 9 bits n (omega arith))

-- ---- signed numbers

-- n and -(n + 1) are within this half of a range, or beyond it
abbrev pub Within : ℕ → ℤ → Type 0
Within half (pos n) = n < half
Within half (negsuc n) = n < half

abbrev pub Beyond : ℕ → ℤ → Type 0
Beyond half (pos n) = half ≤ n
Beyond half (negsuc n) = half ≤ n

pub within : (half : ℕ) (z : ℤ) → pos 0 ≤ℤ (z +ℤ pos half) → z <ℤ pos half → Within half z
within half (pos n) low high = omega (arith, ints)
within half (negsuc n) low high = omega (arith, ints)

pub short_within : (z : ℤ) → is_short z ≡ true → Within 64 z
short_within (pos n) t = ltb-true n 64 (and_parts true (nat_lt n 64) t).1
short_within (negsuc n) t =
    let l = leb-true n 63 (and_parts (int_le (negsuc 63) (negsuc n)) true t).0 in omega (arith, l)

pub long_beyond : (z : ℤ) → is_short z ≡ false → Beyond 64 z
long_beyond (pos n) t = pick (and_cases true (nat_lt n 64) t)
  where
    pick : (true ≡ false) ⊎ (nat_lt n 64 ≡ false) → 64 ≤ n
    pick (inl e) = absurd cc
    pick (inr e) = ltb-false n 64 e
long_beyond (negsuc n) t = pick (and_cases (int_le (negsuc 63) (negsuc n)) true t)
  where
    pick : (int_le (negsuc 63) (negsuc n) ≡ false) ⊎ (true ≡ false) → 64 ≤ n
    pick (inl e) = let l = leb-false n 63 e in omega (arith, l)
    pick (inr e) = absurd cc

seven_bits : (bits n : ℕ) → 64 ≤ n → n < 2 ^ (bits - 1) → 7 < bits
seven_bits bits n least most =
    lt_of_not-le (λ few. let power : 2 ^ (bits - 1) ≤ 64 = at_most (bits - 1) 6 (omega arith) in omega arith)

pub wide_signed : (bits : ℕ) (z : ℤ) → Beyond 64 z → Within (2 ^ (bits - 1)) z → 7 < bits
wide_signed bits (pos n) least most = seven_bits bits n least most
wide_signed bits (negsuc n) least most = seven_bits bits n least most

pub high_within : (bits : ℕ) (z : ℤ) → 7 < bits → Within (2 ^ (bits - 1)) z → Within (2 ^ (bits - 7 - 1)) (high_bits z)
high_within bits (pos n) more most =
    let power : 2 ^ (bits - 1) ≡ 128 * 2 ^ (bits - 7 - 1) = half_seven_more bits more in omega arith
high_within bits (negsuc n) more most =
    let power : 2 ^ (bits - 1) ≡ 128 * 2 ^ (bits - 7 - 1) = half_seven_more bits more in omega arith

one_byte : (bits : ℕ) (z : ℤ) → Within 64 z → Within (2 ^ (bits - 1)) z → IsSigned bits z (low_bits z ∷ [])
one_byte bits (pos n) short most = inl (omega arith, omega arith, omega (arith, ints), refl)
one_byte bits (negsuc n) short most = inr (inl (omega arith, omega arith, omega arith, omega (arith, ints), refl))

more_bytes : (bits : ℕ) (z : ℤ) (rest : List ℕ) → 7 < bits → IsSigned (bits - 7) (high_bits z) rest →
    IsSigned bits z ((128 + low_bits z) ∷ rest)
more_bytes bits (pos n) rest more h = inr (inr (omega arith, more, pos (n / 128), omega (arith, ints), h))
more_bytes bits (negsuc n) rest more h = inr (inr (omega arith, more, negsuc (n / 128), omega (arith, ints), h))

narrow : (bits : ℕ) (z : ℤ) → bits ≤ 7 → Within (2 ^ (bits - 1)) z → Within 64 z
narrow bits (pos n) few most = let power : 2 ^ (bits - 1) ≤ 64 = at_most (bits - 1) 6 (omega arith) in omega arith
narrow bits (negsuc n) few most = let power : 2 ^ (bits - 1) ≤ 64 = at_most (bits - 1) 6 (omega arith) in omega arith

pub signed_spelled : (more bits : ℕ) (z : ℤ) → 0 < bits → bits ≤ 7 * suc more → Within (2 ^ (bits - 1)) z →
    IsSigned bits z (shortest_signed more z)
unfolding shortest_signed
signed_spelled zero bits z some fits most = one_byte bits z (narrow bits z (omega arith) most) most
signed_spelled (suc more) bits z some fits most = split (is_short z) refl (signed_spelled more (bits - 7) (high_bits z))
  where
    split : (t : Bool) → is_short z ≡ t →
        (0 < bits - 7 → bits - 7 ≤ 7 * suc more → Within (2 ^ (bits - 7 - 1)) (high_bits z) →
        IsSigned (bits - 7) (high_bits z) (shortest_signed more (high_bits z)))
        → IsSigned bits z (if t then low_bits z ∷ [] else (128 + low_bits z) ∷ shortest_signed more (high_bits z))
    split true t deeper = one_byte bits z (short_within z t) most
    split false t deeper =
        let more_bits : 7 < bits = wide_signed bits z (long_beyond z t) most in
        more_bytes bits z (shortest_signed more (high_bits z)) more_bits
        (deeper (omega arith) (omega arith) (high_within bits z more_bits most))

-- what the bytes of a number say of it
low_of : (x : ℕ) (z : ℤ) → x < 64 → z ≡ pos x → (is_short z ≡ true) × (low_bits z ≡ x)
low_of x (pos n) l e = let p : n ≡ x = cc in (lt-ltb n 64 (omega arith), omega arith)
low_of x (negsuc n) l e = absurd cc

low_of_negative : (x : ℕ) (z : ℤ) → 64 ≤ x → x < 128 → z ≡ (pos x -ℤ pos 128) → (is_short z ≡ true) × (low_bits z ≡ x)
low_of_negative x (pos n) l m e = absurd (omega (arith, ints))
low_of_negative x (negsuc n) l m e = let p : n + x ≡ 127 = omega (arith, ints) in (grind (arith, ints), omega arith)

abbrev pub SplitsSo : ℤ → ℕ → ℤ → Type 0
SplitsSo z low high = (low_bits z ≡ low) × (high_bits z ≡ high)

splits : (low : ℕ) (z high : ℤ) → low < 128 → z ≡ (pos low +ℤ (pos 128 *ℤ high)) → SplitsSo z low high
splits low (pos n) (pos m) l e = let p : n ≡ low + 128 * m = omega (arith, ints) in (omega arith, ap pos (omega arith))
splits low (pos n) (negsuc m) l e = absurd (omega (arith, ints))
splits low (negsuc n) (pos m) l e = absurd (omega (arith, ints))
splits low (negsuc n) (negsuc m) l e =
    let p : n + low ≡ 128 * m + 127 = omega (arith, ints) in (omega arith, ap negsuc (omega arith))

-- one byte that spells a number is the shortest spelling
short_least : (more x : ℕ) (xs : List ℕ) (z : ℤ) → is_short z ≡ true → low_bits z ≡ x → xs ≡ [] →
    IsShortest (shortest_signed more z) (x ∷ xs)
unfolding shortest_signed
short_least zero x xs z t e n = inl (same_first x (low_bits z) xs [] (sym e) n)
short_least (suc more) x xs z t e n = rw t (inl (same_first x (low_bits z) xs [] (sym e) n))

signed_least : (more bits : ℕ) (z : ℤ) → bits ≤ 7 * suc more → (bytes : List ℕ) → IsBytes bytes →
    IsSigned bits z bytes → IsShortest (shortest_signed more z) bytes
unfolding shortest_signed
signed_least zero bits z fits [] b h = absurd h
signed_least zero bits z fits (x ∷ xs) b (inl h) = let s = low_of x z h.0 h.2 in short_least zero x xs z s.0 s.1 h.3
signed_least zero bits z fits (x ∷ xs) b (inr (inl h)) =
    let s = low_of_negative x z h.0 h.1 h.3 in short_least zero x xs z s.0 s.1 h.4
signed_least zero bits z fits (x ∷ xs) b (inr (inr h)) = absurd (omega (arith, h.1))
signed_least (suc more) bits z fits [] b h = absurd h
signed_least (suc more) bits z fits (x ∷ xs) b (inl h) =
    let s = low_of x z h.0 h.2 in short_least (suc more) x xs z s.0 s.1 h.3
signed_least (suc more) bits z fits (x ∷ xs) b (inr (inl h)) =
    let s = low_of_negative x z h.0 h.1 h.3 in short_least (suc more) x xs z s.0 s.1 h.4
signed_least (suc more) bits z fits (x ∷ xs) b (inr (inr h)) =
    let low : x - 128 < 128 = omega (arith, b.0) in
    let parts : SplitsSo z (x - 128) h.2 = splits (x - 128) z h.2 low h.3 in
    let digit : x ≡ 128 + low_bits z = omega (arith, h.0, parts.0) in
    let P : ℤ → Type 0 = λ m. IsShortest (shortest_signed more m) xs in
    split (is_short z) digit (subst P (sym parts.1) (signed_least more (bits - 7) h.2 (omega arith) xs b.1 h.4))
    (some_signed (bits - 7) h.2 xs h.4)
  where
    split : (t : Bool) → x ≡ 128 + low_bits z → IsShortest (shortest_signed more (high_bits z)) xs → 0 < length xs →
        IsShortest (if t then low_bits z ∷ [] else (128 + low_bits z) ∷ shortest_signed more (high_bits z)) (x ∷ xs)
    split true digit rest some = inr (omega arith)
    split false digit rest some = one_more x (128 + low_bits z) (shortest_signed more (high_bits z)) xs digit rest

pub signed_shortest : SignedShortest
signed_shortest bits z some most fits = (
  signed_spelled 9 bits z some (omega arith) (within (2 ^ (bits - 1)) z fits.0 fits.1),
  signed_least 9 bits z (omega arith),
)
