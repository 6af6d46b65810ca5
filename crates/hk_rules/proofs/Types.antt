-- Comparing lists of types from the front.
use Rattle.std.proofs.Common.{◌≡◌, ◌&&◌, suc, List, [], ◌∷◌, Bool, true, false, refl, ap, length}
use Rattle.wa_ops.specs.declared.op.ValueType.{ValueType}
use Rattle.wa_ops.specs.Typing.{is_same_type}
use Rattle.wa_ops.specs.HookRules.{are_types}

pub other_length : (xs ys : List ValueType) → (length xs ≡ length ys → ⊥) → false ≡ are_types xs ys
other_length [] [] differ = absurd (differ refl)
other_length [] (y ∷ ys) differ = refl
other_length (x ∷ xs) [] differ = refl
other_length (x ∷ xs) (y ∷ ys) differ =
    none (is_same_type x y) (are_types xs ys) (other_length xs ys (λ e. differ (ap suc e)))
  where
    none : (a b : Bool) → false ≡ b → false ≡ (a && b)
    none true b e = e
    none false b e = refl
