-- The amount that bytes are, by what a reader answers.
use Rattle.std.proofs.Common.{◌≡◌, ℕ, ◌≤◌, List, length, take, drop, refl, sym, ap, ◌∙◌, arith, Option, Some, None}
use Rattle.std.proofs.lemmas.List.{take_all}
use Rattle.xo_fields.specs.declared.amount.Amount.{Amount}
use Rattle.xo_fields.specs.declared.amount.AmountRead.{AmountRead}
use Rattle.xo_fields.specs.declared.amount.AmountRead.TheVariants.{Amount as Whole}
use Rattle.xo_fields.specs.Amount.{IsValid, amount_bytes, AmountGives}
use Rattle.xo_fields.specs.Laws.{OneAmountRead}
use Rattle.hk_reading.specs.Amounts.{amount_of}
use Rattle.hk_reading.proofs.AmountsFound.{IsThis, amount_found}

-- all of the bytes
all_bytes : (bytes : List ℕ) (size : ℕ) → size ≡ length bytes → take size bytes ≡ bytes
all_bytes bytes size e = take_all size bytes (omega (arith, e))

pub amount_whole : (bytes : List ℕ) (a : Amount) (size : ℕ) → size ≡ length bytes → AmountGives bytes (Whole a size) →
    amount_of bytes ≡ Some a
amount_whole bytes a size e (valid, within, is) =
    (amount_found bytes).complete a (valid, sym (all_bytes bytes size e) ∙ is)

pub amount_none : OneAmountRead → (bytes : List ℕ) (r : AmountRead) → AmountGives bytes r →
    ((a : Amount) → r ≡ Whole a (length bytes) → ⊥) → amount_of bytes ≡ None
amount_none one bytes r gives never = by_answer (amount_of bytes) refl
  where
    by_answer : (o : Option Amount) → amount_of bytes ≡ o → amount_of bytes ≡ None
    by_answer None e = e
    by_answer (Some a) e =
        let is : IsThis bytes a = (amount_found bytes).sound a e in
        absurd (never a
        (one bytes r (Whole a (length bytes)) gives (is.0, omega arith, all_bytes bytes (length bytes) refl ∙ is.1)))
