-- What the rows of imports say of calls.
use Rattle.std.proofs.Common.{ℕ, ◌≡◌, ◌==◌, zero, suc, List, [], ◌∷◌, not, Bool, true, false, Some, refl}
use Rattle.std.specs.Prelude.{slice_get, is_some, is_none, if◌then◌else◌}
use Rattle.std.specs.Option.{option_map_or}
use Rattle.wa_ops.specs.declared.call_no.CallNo.{CallNo}
use Rattle.wa_ops.specs.Callees.{guard, accept, rollback, host_call}
use Rattle.wa_ops.specs.Contexts.{callee_of_row}
use Rattle.wa_ops.specs.HookRules.{is_guard}
use Rattle.wa_ops.specs.Rows.{row_parameters}
use Rattle.wa_ops.specs.Contexts.{callees}

pub own_row : (rows : List CallNo) (function : ℕ) →
    is_none (slice_get (callees rows) function) ≡ not (is_some (slice_get rows function))
own_row [] function = refl
own_row (row ∷ rows) zero = refl
own_row (row ∷ rows) (suc function) = own_row rows function

-- row 0 alone is `_g`
pub guard_of_row : (row : ℕ) → is_guard (Some (callee_of_row (Some row))) ≡ (row == 0)
guard_of_row row = first (row == 0)
  where
    third : (c : Bool) → is_guard (Some (if c then rollback else host_call row (row_parameters row))) ≡ false
    third true = refl
    third false = refl

    second : (b : Bool) →
        is_guard (Some (if b then accept else if row == 2 then rollback else host_call row (row_parameters row)))
        ≡ false
    second true = refl
    second false = third (row == 2)

    first : (a : Bool) →
        is_guard (Some (if a then guard else if row == 1 then accept else if row == 2 then rollback
        else host_call row (row_parameters row))) ≡ a
    first true = refl
    first false = second (row == 1)

pub guard_row : (rows : List CallNo) (function : ℕ) →
    is_guard (slice_get (callees rows) function) ≡ option_map_or (λ row. row.0 == 0) (slice_get rows function) false
guard_row [] function = refl
guard_row (row ∷ rows) zero = guard_of_row row.0
guard_row (row ∷ rows) (suc function) = guard_row rows function
