-- Items somewhere in joined lists.
use Rattle.std.proofs.Common.{inl, inr, List, [], ◌∷◌, ◌++◌}
use Rattle.hk_draft.specs.Lists.{SomeOf}

module _ {X : Type 0} (P : X → Type 0) where
  pub some-front : (xs ys : List X) → SomeOf P xs → SomeOf P (xs ++ ys)
  some-front [] ys h = absurd h
  some-front (x ∷ xs) ys (inl here) = inl here
  some-front (x ∷ xs) ys (inr later) = inr (some-front xs ys later)

  pub some-behind : (xs ys : List X) → SomeOf P ys → SomeOf P (xs ++ ys)
  some-behind [] ys h = h
  some-behind (x ∷ xs) ys h = inr (some-behind xs ys h)
