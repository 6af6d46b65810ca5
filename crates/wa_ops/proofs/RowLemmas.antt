-- Facts of the table of calls, each by one test over the whole of it.
use Rattle.std.specs.Prelude.{ℕ, zero, suc, ◌≡◌, ◌≤◌, ◌==◌, ◌&&◌, Bool, true, false, List, [], ◌∷◌, Option, Some, None}
use Rattle.std.specs.Prelude.{if◌then◌else◌, nat_le, length, reverse, slice_get}
use Rattle.std.proofs.Common.{refl, sym, ap, ◌∙◌, arith}
use Rattle.std.specs.List.{list_all, position}
use Rattle.std.specs.Option.{option_map_or}
use Rattle.std.specs.Str.{bytes_eq}
use Rattle.std.proofs.lemmas.Bool.{and_parts, eqb-true}
use Rattle.std.proofs.lemmas.List.Quantifiers.{position-Some}
use Rattle.wa_ops.specs.declared.op.ValueType.{ValueType}
use Rattle.wa_ops.specs.declared.op.ValueType.TheVariants.{I32, I64, F32, F64}
use Rattle.wa_ops.specs.Callees.{Callee, guard, accept, rollback, host_call, takes, gives}
use Rattle.wa_ops.specs.Contexts.{callee_of_row}
use Rattle.wa_ops.specs.Rows.{ApiCall, api_calls, guard_row, row_answer, row_named, row_parameters}
use Rattle.wa_ops.specs.Typing.{is_same_type}

-- a row that has a name is one of the table
pub row_below : (name : List ℕ) (row : ℕ) → row_named name ≡ Some row → row ≤ 64
unfolding row_named api_calls
row_below name row e =
    let within =
    position-Some (λ call. bytes_eq call.name name) api_calls row (record { name = []; parameters = []; answer = I64 })
    e in
    omega (arith, within.0)

-- a call takes what its row has, in order
pub row_takes : (row : ℕ) → takes (callee_of_row (Some row)) ≡ reverse (row_parameters row)
unfolding row_parameters api_calls
row_takes row = first (row == 0) refl
  where
    third : (c : Bool) → (row == 2) ≡ c →
        takes (if c then rollback else host_call row (row_parameters row)) ≡ reverse (row_parameters row)
    third true e = ap (λ n. reverse (row_parameters n)) (sym (eqb-true row 2 e))
    third false e = refl

    second : (b : Bool) → (row == 1) ≡ b →
        takes (if b then accept else if row == 2 then rollback else host_call row (row_parameters row))
        ≡ reverse (row_parameters row)
    second true e = ap (λ n. reverse (row_parameters n)) (sym (eqb-true row 1 e))
    second false e = third (row == 2) refl

    first : (a : Bool) → (row == 0) ≡ a →
        takes (if a then guard else if row == 1 then accept else if row == 2 then rollback
        else host_call row (row_parameters row)) ≡ reverse (row_parameters row)
    first true e = ap (λ n. reverse (row_parameters n)) (sym (eqb-true row 0 e))
    first false e = second (row == 1) refl

abbrev is_wide : ApiCall → Bool
is_wide call = is_same_type call.answer I64

same_wide : (kind : ValueType) → is_same_type kind I64 ≡ true → kind ≡ I64
same_wide I64 e = refl
same_wide I32 e = absurd (cc e)
same_wide F32 e = absurd (cc e)
same_wide F64 e = absurd (cc e)

all_wide : (calls : List ApiCall) (row : ℕ) → list_all is_wide calls ≡ true →
    option_map_or (λ call. call.answer) (slice_get calls row) I64 ≡ I64
all_wide [] row e = refl
all_wide (call ∷ calls) zero e = same_wide call.answer (and_parts (is_wide call) (list_all is_wide calls) e).0
all_wide (call ∷ calls) (suc row) e = all_wide calls row (and_parts (is_wide call) (list_all is_wide calls) e).1

abbrev behind_first : List ApiCall → List ApiCall
behind_first [] = []
behind_first (call ∷ calls) = calls

-- the guard alone answers an i32
guard_answers : row_answer 0 ≡ I32
unfolding row_answer api_calls
guard_answers = refl

others_answer : (row : ℕ) → (row == 0) ≡ false → row_answer row ≡ I64
unfolding row_answer api_calls
others_answer zero e = absurd (cc e)
others_answer (suc row) e = all_wide (behind_first api_calls) row refl

-- a call gives what its row says
pub row_gives : (row : ℕ) → gives (callee_of_row (Some row)) ≡ row_answer row
row_gives row = first (row == 0) refl
  where
    third : (c : Bool) → gives (if c then rollback else host_call row (row_parameters row)) ≡ I64
    third true = refl
    third false = refl

    second : (b : Bool) →
        gives (if b then accept else if row == 2 then rollback else host_call row (row_parameters row)) ≡ I64
    second true = refl
    second false = third (row == 2)

    first : (a : Bool) → (row == 0) ≡ a →
        gives (if a then guard else if row == 1 then accept else if row == 2 then rollback
        else host_call row (row_parameters row)) ≡ row_answer row
    first true e = sym (ap row_answer (eqb-true row 0 e) ∙ guard_answers)
    first false e = second (row == 1) ∙ sym (others_answer row e)
