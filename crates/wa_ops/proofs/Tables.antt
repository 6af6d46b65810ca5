use Rattle.std.specs.Prelude.{ℕ, ◌≡◌, List, Some, map, option_map, slice_get}
use Rattle.std.proofs.Common.{ap, ◌∙◌}
use Rattle.std.proofs.lemmas.Option.{slice_get-map}

-- an item that is there, seen through a function
pub got : {A B : Type 0} (f : A → B) (xs : List A) (i : ℕ) (x : A) → slice_get xs i ≡ Some x →
    slice_get (map f xs) i ≡ Some (f x)
got f xs i x e = slice_get-map f xs i ∙ ap (option_map f) e
