-- Numbers cut toward zero to sixteen digits (this project's own). Numbers have no limit here.
use Rattle.std.specs.Prelude.{zero, suc, ◌/◌, pos, ◌+ℤ◌, nat_lt, if◌then◌else◌, ◌==◌, Bool, ℕ, ◌≡◌, ◌+◌, ◌*◌, ◌^◌, ◌<◌}
use Rattle.std.specs.Prelude.{◌≤◌, ℤ, ◌-ℤ◌}
use Rattle.xfl.specs.Value.{tens}

-- m * 10 ^ e is p / q * 10 ^ k, cut toward zero to sixteen digits:
-- m * 10 ^ e <= p / q * 10 ^ k < (m + 1) * 10 ^ e, each side times q and divided by the lower power of ten
pub record IsCut (p q : ℕ) (k : ℤ) (m : ℕ) (e : ℤ) : Type 0 where
  pub low : 10 ^ 15 ≤ m
  pub high : m < 10 ^ 16
  pub below : m * q * tens (e -ℤ k) ≤ p * tens (k -ℤ e)
  pub above : p * tens (k -ℤ e) < (m + 1) * q * tens (e -ℤ k)

-- m * 10 ^ e is p / q * 10 ^ k: nothing is cut off
abbrev pub IsExact : ℕ → ℕ → ℤ → ℕ → ℤ → Type 0
IsExact p q k m e = m * q * tens (e -ℤ k) ≡ p * tens (k -ℤ e)

-- the same, as a test
abbrev pub is_exact : ℕ → ℕ → ℤ → ℕ → ℤ → Bool
is_exact p q k m e = m * q * tens (e -ℤ k) == p * tens (k -ℤ e)

-- how many digits n has beyond sixteen; fuel is any number above n
unfoldable pub beyond : ℕ → ℕ → ℕ
beyond zero n = 0
beyond (suc fuel) n = if nat_lt n (10 ^ 16) then 0 else suc (beyond fuel (n / 10))

-- the cut of p / q * 10 ^ k, where p and q are above 0: the whole number of p / q * 10 ^ (15 + q) has sixteen digits
-- or more, and those beyond are dropped. That it is the one m and e with `IsCut` is a law.
unfoldable pub cut16 : ℕ → ℕ → ℤ → ℕ × ℤ
cut16 p q k =
    let n = p * 10 ^ (15 + q) / q in
    let d = beyond (suc n) n in
    (n / 10 ^ d, k +ℤ pos d -ℤ pos (15 + q))

-- `cut16` is a cut of each number above 0
abbrev pub EachHasCut : Type 0
EachHasCut = (p q : ℕ) (k : ℤ) → 0 < p → 0 < q → IsCut p q k (cut16 p q k).0 (cut16 p q k).1

-- and there is no second one
abbrev pub HasOneCut : Type 0
HasOneCut =
    (p q : ℕ) (k : ℤ) → 0 < q → (m n : ℕ) (e f : ℤ) → IsCut p q k m e → IsCut p q k n f → (m ≡ n) × (e ≡ f)
