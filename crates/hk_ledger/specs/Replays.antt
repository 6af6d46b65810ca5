-- Whole replays. This project's own.
use Rattle.std.specs.Prelude.{◌≡◌, ℕ, ◌+◌, List, [], ◌∷◌, ◌++◌, Option, Some, None}
use Rattle.std.specs.Option.{option_map}
use Rattle.hk_lines.specs.declared.input_line.InputLine.{InputLine}
use Rattle.hk_lines.specs.declared.input_line.InputLine.TheVariants.{Account, End}
use Rattle.hk_lines.specs.declared.output_line.OutputLine.{OutputLine}
use Rattle.hk_lines.specs.declared.output_line.OutputLine.TheVariants.{FinalTotal, Done}
use Rattle.hk_state.specs.Rules.{Rules}
use Rattle.hk_ledger.specs.Machine.{State, start, Step, goes, ends, breaks, step}

abbrev pub continued : Step → (State → Option (List OutputLine)) → Option (List OutputLine)
continued (goes s shown) later = option_map (λ more. shown ++ more) (later s)
continued (ends shown) later = Some shown
continued (breaks rule) later = None

-- all that is printed, where every line is right up to the last one
abbrev pub replayed : Rules → State → List InputLine → Option (List OutputLine)
replayed rules s [] = None
replayed rules s (line ∷ lines) = continued (step rules s line) (λ next. replayed rules next lines)

-- the balances of the lines that open accounts
abbrev pub opened_with : List InputLine → ℕ
opened_with [] = 0
opened_with (Account id balance sequence ∷ lines) = balance + opened_with lines
opened_with (End ∷ lines) = 0
opened_with (line ∷ lines) = opened_with lines

-- the two numbers at the end add up to a total
pub record AddsUp (total : ℕ) (shown : List OutputLine) : Type 0 where
  pub front : List OutputLine
  pub balances : ℕ
  pub burnt : ℕ
  pub whole : shown ≡ front ++ FinalTotal balances burnt ∷ Done ∷ []
  pub sum : balances + burnt ≡ total

-- no drop comes or goes in a replay
abbrev pub Conserves : Rules → Type 0
Conserves rules = (lines : List InputLine) (shown : List OutputLine) →
    replayed rules start lines ≡ Some shown → AddsUp (opened_with lines) shown
