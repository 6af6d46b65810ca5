-- The sum of the balances that are told. This project's own.
use Rattle.std.specs.Prelude.{◌≡◌, ℕ, List, [], ◌∷◌, ◌++◌}
use Rattle.std.specs.List.{sum_by}
use Rattle.hk_lines.specs.declared.output_line.OutputLine.{OutputLine}
use Rattle.hk_lines.specs.declared.output_line.OutputLine.TheVariants as printed

-- the drops of an account's line
abbrev pub balance_in : OutputLine → ℕ
balance_in (printed.FinalAccount id balance sequence hooks states) = balance
balance_in line = 0

-- the last two lines are the sum of all balances in the lines before, with the burnt fees, and `done`
pub record EndsInTotal (burnt : ℕ) (shown : List OutputLine) : Type 0 where
  pub front : List OutputLine
  pub whole : shown ≡ front ++ printed.FinalTotal (sum_by balance_in front) burnt ∷ printed.Done ∷ []
