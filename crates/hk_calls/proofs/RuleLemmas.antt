-- Bytes with zeros before them, and the fields of numbers.
use Rattle.std.proofs.Common.{◌≡◌, ℕ, ◌-◌, ◌/◌, ◌%◌, ◌≤◌, ◌&&◌, Bool, true, false, List, ◌++◌, length, drop, refl, sym}
use Rattle.std.proofs.Common.{ap, ◌∙◌, arith, append-nil, if◌then◌else◌, Ok, Err}
use Rattle.std.specs.Prelude.{replicate}
use Rattle.std.proofs.lemmas.Bool.Decides.{nat_tests}
use Rattle.std.proofs.lemmas.List.{take-replicate, length-replicate, length-drop, drop_all}
use borrow.Rule.Slice.PartMut.{put_mid}
use Rattle.xo_fields.specs.declared.field.FieldId.{FieldId}
use Rattle.xo_fields.specs.Field.{IsNumbered}
use Rattle.hk_calls.specs.declared.code.Code.TheVariants as code
use Rattle.hk_calls.specs.Rules.{OrCode, is_part, field}

-- bytes that were written over the last of so many zeros
pub padded_is : (n : ℕ) (bytes copied : List ℕ) → copied ≡ bytes → length bytes ≤ n →
    put_mid (n - length bytes) (n - (n - length bytes)) (replicate n 0) copied ≡ replicate (n - length bytes) 0 ++ bytes
padded_is n bytes copied same h =
    let front : ℕ = n - length bytes in
    let rest : List ℕ = drop front (replicate n 0) in
    let size : length rest ≤ n - front =
    omega (arith, length-drop {A = ℕ} front (replicate n 0), length-replicate {A = ℕ} n 0) in
    ap (λ middle. put_mid front (n - front) (replicate n 0) middle) same
    ∙ ap (λ zeros. zeros ++ (bytes ++ drop (n - front) rest)) (take-replicate front n 0 (omega arith))
    ∙ ap (λ back. replicate front 0 ++ (bytes ++ back)) (drop_all (n - front) rest size)
    ∙ ap (λ back. replicate front 0 ++ back) (append-nil bytes)

-- the field that a number would have
abbrev guess : ℕ → FieldId
guess n = record { kind = n / 65536; code = n % 65536 }

-- what the test of a number decides
abbrev decided : ℕ → Bool → OrCode FieldId
decided n b = if b then Ok (guess n) else Err code.InvalidField

pub field_found : (f : FieldId) (n : ℕ) → IsNumbered f n → Ok f ≡ field n
field_found f n is =
    let kind : n / 65536 ≡ f.kind = omega (arith, is.is) in
    let last : n % 65536 ≡ f.code = omega (arith, is.is) in
    let passes : (is_part (n / 65536) && is_part (n % 65536)) ≡ true = grind (arith, nat_tests) in
    (λ i. Ok (record { kind = sym kind i; code = sym last i })) ∙ sym (ap (decided n) passes)

pub field_absent : (n : ℕ) → ((f : FieldId) → IsNumbered f n → ⊥) → Err code.InvalidField ≡ field n
field_absent n never = at (is_part (n / 65536) && is_part (n % 65536)) refl
  where
    at : (b : Bool) → (is_part (n / 65536) && is_part (n % 65536)) ≡ b → Err code.InvalidField ≡ field n
    at true passes = absurd (never (guess n) (record {
      kind = grind (arith, nat_tests);
      code = grind (arith, nat_tests);
      kind_byte = grind (arith, nat_tests);
      code_byte = grind (arith, nat_tests);
      is = omega arith;
    }))
    at false fails = sym (ap (decided n) fails)
