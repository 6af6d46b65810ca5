-- The test of an XFL's bits.
use Rattle.std.proofs.Common.{◌≡◌, ℕ, ◌/◌, ◌%◌, ◌==◌, Bool, true, false, inl, inr, refl, sym, ap, ◌∙◌, arith}
use Rattle.std.proofs.Common.{if◌then◌else◌, Ok, Err}
use Rattle.std.specs.Prelude.{ℤ, pos, negsuc}
use Rattle.std.proofs.lemmas.Bool.Decides.{nat_tests}
use Rattle.xo_fields.specs.Decimal.{IsDecimal}
use Rattle.xfl.specs.Value.{decimal_of, IsXflBits}
use Rattle.hk_reading.specs.Amounts.{is_decimal}
use Rattle.hk_calls.specs.declared.code.Code.TheVariants as code
use Rattle.hk_api_pure.specs.Floats.{is_xfl, float}

-- the bits that pass the test are a decimal's
decimal_there : (bits : ℕ) → is_decimal bits ≡ true → IsDecimal bits
decimal_there bits passes = by_test (bits == 0) refl
  where
    by_test : (b : Bool) → (bits == 0) ≡ b → IsDecimal bits
    by_test true e = inl (grind (arith, nat_tests))
    by_test false e = inr (
      bits / 4611686018427387904,
      bits / 18014398509481984 % 256,
      bits % 18014398509481984,
      record {
        sign = grind (arith, nat_tests);
        exponent_low = grind (arith, nat_tests);
        exponent_high = grind (arith, nat_tests);
        mantissa_low = grind (arith, nat_tests);
        mantissa_high = grind (arith, nat_tests);
        is = omega arith;
      },
    )

not_xfl : (bits : ℤ) → (IsXflBits bits → ⊥) → is_xfl bits ≡ false
not_xfl (negsuc bits) never = refl
not_xfl (pos bits) never = by_test (is_decimal bits) refl
  where
    by_test : (b : Bool) → is_decimal bits ≡ b → is_decimal bits ≡ false
    by_test true e = absurd (never (bits, refl, decimal_there bits e))
    by_test false e = e

-- bits that are passed to a reader of XFLs, which finds none
pub no_float : (bits passed : ℤ) → passed ≡ bits → (IsXflBits passed → ⊥) → Err code.InvalidFloat ≡ float bits
no_float bits passed same never =
    sym (ap float (sym same)
    ∙ ap (λ b. if b then Ok (decimal_of passed) else Err code.InvalidFloat) (not_xfl passed never))
