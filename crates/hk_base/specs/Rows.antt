-- Tables of answers, of which the first row that applies decides (this project's own).
use Rattle.std.specs.Prelude.{Bool, if◌then◌else◌, List, [], ◌∷◌, Option, Some, None}

-- the answer of the first row whose condition holds
abbrev pub first_row : {R : Type 0} → List (Bool × R) → Option R
first_row [] = None
first_row (row ∷ rows) = if row.0 then Some row.1 else first_row rows
