-- What stands at a place of a list.
use Rattle.std.proofs.Common.{◌≡◌, ◌∙◌, ℕ, ◌+◌, ◌<◌, List, ◌∷◌, Some, ap, sym, subst, length, get_or, drop}
use Rattle.std.proofs.lemmas.List.{drop_more}
use Rattle.std.proofs.lemmas.List.Elements.{All-from_recursion}
use Rattle.std.proofs.lemmas.Option.{slice_get_within, get_or_from_slice_get}
use Rattle.std.specs.Prelude.{slice_get}
use Rattle.wa_ops.specs.Soundness.{Each}

module _ {X : Type 0} (xs : List X) (place : ℕ) (x : X) where
  -- a list from a place on: what stands there, and what is behind it
  pub read_drop : place < length xs → x ≡ get_or xs place x → drop place xs ≡ x ∷ drop (place + 1) xs
  read_drop within is = drop_more xs place x within ∙ ap (λ y. y ∷ drop (place + 1) xs) (sym is)

  pub got_drop : slice_get xs place ≡ Some x → drop place xs ≡ x ∷ drop (place + 1) xs
  got_drop at = read_drop (slice_get_within xs place x at) (sym (get_or_from_slice_get xs place x x at))

-- one of a list of which something holds of each
pub each_at : {X : Type 0} (P : X → Type 0) (xs : List X) (place : ℕ) (x : X) → place < length xs →
    x ≡ get_or xs place x → Each P xs → P x
each_at P xs place x within is each = subst P (sym is) (All-from_recursion P xs each place x within)
