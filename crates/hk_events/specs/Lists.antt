-- Words over lists, by recursion.
use Rattle.std.specs.Prelude.{ℕ, ◌+◌, Bool, true, false, List, [], ◌∷◌, Option, None}
use Rattle.std.specs.Option.{option_or}

abbrev pub one_if : Bool → ℕ
one_if true = 1
one_if false = 0

-- how many pass a test
abbrev pub counted : {X : Type 0} → (X → Bool) → List X → ℕ
counted test [] = 0
counted test (x ∷ xs) = one_if (test x) + counted test xs

-- what f gives of the last item of which it gives something
abbrev pub last_of : {X Y : Type 0} → (X → Option Y) → List X → Option Y
last_of f [] = None
last_of f (x ∷ xs) = option_or (last_of f xs) (f x)
