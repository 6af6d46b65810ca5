-- The labels of the regions that are left when the innermost is closed.
use Rattle.std.specs.Prelude.{List, [], ◌∷◌}

abbrev pub rest_of : {A : Type 0} → List A → List A
rest_of [] = []
rest_of (x ∷ xs) = xs
