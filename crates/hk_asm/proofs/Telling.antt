-- What a text is told, by its length.
use Rattle.std.proofs.Common.{◌≡◌, ◌≤◌, ◌<◌, ◌+◌, ℕ, nat_le, Bool, true, false, if◌then◌else◌, List, [], ◌++◌, length}
use Rattle.std.proofs.Common.{take, Some, None, refl, ap, sym, ◌∙◌, arith}
use Rattle.std.proofs.lemmas.Bool.Decides.{nat_tests}
use Rattle.std.proofs.lemmas.List.{take_all}
use Rattle.hk_lines.specs.Given.{Close, opened, ended, full, Given}
use Rattle.hk_lines.specs.declared.status.Status.{Status}
use Rattle.hk_lines.specs.declared.status.Status.TheVariants.{Done, BadInput, TooLong}
use Rattle.wa_text.specs.Meaning.{Meaning, means, breaks, unended, meaning}
use Rattle.hk_asm.specs.Assembling.{longest_text, undone, told, whole_lines, told_at, asm_given, Tells, GivesStatus}
use Rattle.hk_asm.specs.Assembling.{ShownLate}

-- where the limit is reached, what comes behind changes nothing
pub told_full : (bytes : List ℕ) (close : Close) → longest_text ≤ length bytes →
    asm_given bytes close ≡ told_at full (take longest_text bytes)
told_full bytes close long =
    let test : nat_le longest_text (length bytes) ≡ true = grind (arith, nat_tests) in
    ap (λ b. if b then told_at full (take longest_text bytes) else told_at close bytes) test

pub told_short : (bytes : List ℕ) (close : Close) → length bytes < longest_text →
    asm_given bytes close ≡ told_at close bytes
told_short bytes close short =
    let test : nat_le longest_text (length bytes) ≡ false = grind (arith, nat_tests) in
    ap (λ b. if b then told_at full (take longest_text bytes) else told_at close bytes) test

pub shown_late : ShownLate
shown_late bytes short = told_short bytes opened short

-- a text of just so many bytes
pub told_just : (text : List ℕ) → longest_text ≤ length text → length text ≤ longest_text →
    asm_given text ended ≡ told true (meaning (whole_lines text))
told_just text long few = told_full text ended long ∙ ap (told_at full) (take_all longest_text text few)

-- ---- there is a status

abbrev pub HasStatus : Given → Type 0
HasStatus given = (status : Status) × (given.status ≡ Some status)

undone_status : (is_full : Bool) (number : ℕ) → HasStatus (undone is_full number)
undone_status false number = (BadInput, refl)
undone_status true number = (TooLong, refl)

told_status : (is_full : Bool) (found : Meaning) → HasStatus (told is_full found)
told_status is_full (means found) = (Done, refl)
told_status is_full (breaks number rule) = (BadInput, refl)
told_status is_full (unended number) = undone_status is_full number

pub gives_status : GivesStatus
gives_status bytes = of (nat_le longest_text (length bytes)) where
  of : (test : Bool) → HasStatus (if test then told_at full (take longest_text bytes) else told_at ended bytes)
  of true = told_status true (meaning (whole_lines (take longest_text bytes)))
  of false = told_status false (meaning bytes)
