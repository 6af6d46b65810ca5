-- The lines of `check` and `run`: one hook, and the end (this project's own).
use Rattle.std.specs.Prelude.{◌≡◌, ℕ, Bool, true, false, List, [], Option, Some, None, Result, Ok, Err}
use Rattle.hk_lines.specs.Given.{Close, Turn, goes, ends, wrong, given}
use Rattle.hk_lines.specs.Lines.{Lines, right, last, Read, takes, closes, refuses, Machine, lines, fold_lines}
use Rattle.hk_lines.specs.Reached.{reached}
use Rattle.hk_lines.specs.declared.input_line.InputLine.{InputLine}
use Rattle.hk_lines.specs.declared.input_line.InputLine.TheVariants.{Hook, End}
use Rattle.hk_lines.specs.declared.line_fault.LineFault.{LineFault}
use Rattle.hk_lines.specs.declared.rule.Rule.TheVariants.{BadWord, BadOrder}
use Rattle.hk_lines.specs.declared.status.Status.TheVariants.{Done}
use Rattle.hk_lines.specs.Taken.{read_if, rule_of}
use Rattle.hk_replay.specs.Words.{is_hook_line}

-- a hook's code is held until the end
abbrev pub hook_step : Option (List ℕ) → InputLine → Turn (Option (List ℕ))
hook_step None (Hook code) = goes (Some code) []
hook_step (Some held) (Hook code) = wrong BadOrder
hook_step None End = wrong BadOrder
hook_step (Some held) End = ends [] Done
hook_step held other = wrong BadWord

abbrev pub hook_read : Option (List ℕ) → Result InputLine LineFault → Turn (Option (List ℕ))
hook_read held (Ok line) = hook_step held line
hook_read held (Err fault) = wrong (rule_of fault)

-- what a line does, by the code that is held
abbrev pub hook_turn : Option (List ℕ) → List ℕ → Turn (Option (List ℕ))
hook_turn held line = hook_read held (read_if (is_hook_line line) line)

-- a line of one of the two forms, by whether a hook came before; a right line is the hook's code
abbrev pub hook_ordered : Bool → InputLine → Read Bool (List ℕ)
hook_ordered false (Hook code) = takes true code
hook_ordered true (Hook code) = refuses BadOrder
hook_ordered false End = refuses BadOrder
hook_ordered true End = closes
hook_ordered came other = refuses BadWord

abbrev pub hook_ordered_read : Bool → Result InputLine LineFault → Read Bool (List ℕ)
hook_ordered_read came (Ok line) = hook_ordered came line
hook_ordered_read came (Err fault) = refuses (rule_of fault)

abbrev pub hook_line : Bool → List ℕ → Read Bool (List ℕ)
hook_line came line = hook_ordered_read came (read_if (is_hook_line line) line)

-- the machine keeps the last code, and prints nothing
abbrev pub hook_machine : Machine (List ℕ) (List ℕ)
hook_machine = record {
  step = λ held code. (code, []);
  final_text = λ held. [];
  final_status = λ held. Done;
}

-- the last of the lines' codes, behind one that is held
abbrev pub last_code : List ℕ → Lines (List ℕ) → List ℕ
last_code held (right code more) = last_code code more
last_code held (last ending) = held

-- reading a hook is the machine, going through the lines, and lines that are done lead to the last code
pub record FoldsHook (limit : ℕ) (bytes : List ℕ) (close : Close) : Type 0 where
  pub folds :
      given hook_turn limit None bytes close ≡ fold_lines hook_machine [] (lines hook_line limit false bytes close)
  pub leads :
      (given hook_turn limit None bytes close).status ≡ Some Done →
      reached hook_turn limit None bytes ≡ Some (last_code [] (lines hook_line limit false bytes close))

abbrev pub HookFolds : Type 0
HookFolds = (limit : ℕ) (bytes : List ℕ) (close : Close) → FoldsHook limit bytes close
