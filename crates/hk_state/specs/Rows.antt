-- Tables of answers of which no row applies. This project's own.
use Rattle.std.specs.Prelude.{◌≡◌, Bool, true, false, cond, List, [], ◌∷◌, Some, None, refl}
use Rattle.hk_base.specs.Rows.{first_row}

module _ {R : Type 0} where
  abbrev pub NoneApplies : List (Bool × R) → Type 0
  NoneApplies [] = Unit {0}
  NoneApplies (row ∷ rows) = (row.0 ≡ false) × NoneApplies rows

  pub none_applies : (rows : List (Bool × R)) → first_row rows ≡ None → NoneApplies rows
  none_applies [] h = tt
  none_applies (row ∷ rows) h =
      elim row.0 as (λ b. cond b (Some row.1) (first_row rows) ≡ None → (b ≡ false) × NoneApplies rows) [
        | true ↦ λ applies. cc
        | false ↦ λ rest. (refl, none_applies rows rest)
      ] h

  pub none_first : (row : Bool × R) (rows : List (Bool × R)) → first_row (row ∷ rows) ≡ None → first_row rows ≡ None
  none_first row rows h =
      elim row.0 as (λ b. cond b (Some row.1) (first_row rows) ≡ None → first_row rows ≡ None) [
        | true ↦ λ applies. cc
        | false ↦ λ rest. rest
      ] h
