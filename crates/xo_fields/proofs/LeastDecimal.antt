-- What the table says is the least decimal from a number on.
use Rattle.std.proofs.Common.{◌≡◌, ℕ, ◌+◌, ◌*◌, ◌/◌, ◌%◌, ◌<◌, ◌≤◌, ◌==◌, inl, inr, refl, arith, Option, Some, None}
use Rattle.std.proofs.Common.{if◌then◌else◌}
use Rattle.xo_fields.specs.Decimal.{decimal_bits, IsDecimal, IsDecimalOf}
use Rattle.xo_fields.specs.Table.{least, least_of}
use Rattle.xo_fields.proofs.Cases.{pick_below, pick_equal}

-- the least decimal from `low` on, if there is one
abbrev pub IsLeast : ℕ → Option ℕ → Type 0
IsLeast low None = (v : ℕ) → IsDecimal v → low ≤ v → ⊥
IsLeast low (Some w) = IsDecimal w × (low ≤ w) × ((v : ℕ) → IsDecimal v → low ≤ v → w ≤ v)

-- a fact of a decimal that is not 0
nonzero : (P : Type 0) (v low : ℕ) → 0 < low → low ≤ v → IsDecimal v →
    ((positive biased mantissa : ℕ) → IsDecimalOf v positive biased mantissa → P) → P
nonzero P v low some h (inl none) with_parts = absurd (omega arith)
nonzero P v low some h (inr (p, b, m, d)) with_parts = with_parts p b m d

-- no decimal stands from here on with this sign
abbrev pub Past : ℕ → ℕ → Type 0
Past biased mantissa = 177 * 18014398509481984 + 10000000000000000 ≤ biased * 18014398509481984 + mantissa

next_sign : (low positive biased mantissa : ℕ) → low ≡ decimal_bits positive biased mantissa → 0 < low → positive < 2 →
    biased < 256 → mantissa < 18014398509481984 → Past biased mantissa →
    IsLeast low (if positive == 0 then Some (decimal_bits 1 1 1000000000000000) else None)
next_sign low p b m is some sign byte bits past =
    pick_equal (IsLeast low) p 0 _ _
    (λ e. (
      inr (
        1,
        1,
        1000000000000000,
        record {
          sign = omega arith;
          exponent_low = omega arith;
          exponent_high = omega arith;
          mantissa_low = omega arith;
          mantissa_high = omega arith;
          is = refl;
        },
      ),
      omega arith,
      λ v d h. nonzero (decimal_bits 1 1 1000000000000000 ≤ v) v low some h d (λ p' b' m' n. omega arith),
    ))
    (λ e v d h. nonzero ⊥ v low some h d (λ p' b' m' n. omega arith))

at_least : (low positive biased mantissa : ℕ) → low ≡ decimal_bits positive biased mantissa → 0 < low → positive < 2 →
    biased < 256 → mantissa < 18014398509481984 → IsLeast low (least_of positive biased mantissa)
at_least low p b m is some sign byte bits =
    pick_equal (IsLeast low) b 0 _ _
    (λ e. (
      inr (
        p,
        1,
        1000000000000000,
        record {
          sign = sign;
          exponent_low = omega arith;
          exponent_high = omega arith;
          mantissa_low = omega arith;
          mantissa_high = omega arith;
          is = refl;
        },
      ),
      omega arith,
      λ v d h. nonzero (decimal_bits p 1 1000000000000000 ≤ v) v low some h d (λ p' b' m' n. omega arith),
    ))
    (λ nz. pick_below (IsLeast low) 177 b _ _
    (λ e. next_sign low p b m is some sign byte bits (omega arith))
    (λ le. pick_below (IsLeast low) m 1000000000000000 _ _
    (λ e. (
      inr (
        p,
        b,
        1000000000000000,
        record {
          sign = sign;
          exponent_low = omega arith;
          exponent_high = omega arith;
          mantissa_low = omega arith;
          mantissa_high = omega arith;
          is = refl;
        },
      ),
      omega arith,
      λ v d h. nonzero (decimal_bits p b 1000000000000000 ≤ v) v low some h d (λ p' b' m' n. omega arith),
    ))
    (λ lm. pick_below (IsLeast low) m 10000000000000000 _ _
    (λ e. (
      inr (
        p,
        b,
        m,
        record {
          sign = sign;
          exponent_low = omega arith;
          exponent_high = omega arith;
          mantissa_low = omega arith;
          mantissa_high = omega arith;
          is = refl;
        },
      ),
      omega arith,
      λ v d h. omega arith,
    ))
    (λ hm. pick_below (IsLeast low) b 177 _ _
    (λ e. (
      inr (
        p,
        b + 1,
        1000000000000000,
        record {
          sign = sign;
          exponent_low = omega arith;
          exponent_high = omega arith;
          mantissa_low = omega arith;
          mantissa_high = omega arith;
          is = refl;
        },
      ),
      omega arith,
      λ v d h. nonzero (decimal_bits p (b + 1) 1000000000000000 ≤ v) v low some h d (λ p' b' m' n. omega arith),
    ))
    (λ e. next_sign low p b m is some sign byte bits (omega arith))))))

pub is_least : (low : ℕ) → low < 9223372036854775808 → IsLeast low (least low)
is_least low small =
    pick_equal (IsLeast low) low 0 _ _
    (λ e. (inl refl, omega arith, λ v d h. omega arith))
    (λ e.
    at_least low (low / 4611686018427387904) (low / 18014398509481984 % 256) (low % 18014398509481984) (omega arith)
    (omega arith) (omega arith) (omega arith) (omega arith))
