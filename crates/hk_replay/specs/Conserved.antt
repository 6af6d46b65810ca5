-- No drop comes or goes in a whole replay: its last two lines against the lines of its input (this project's own).
use Rattle.std.specs.Prelude.{◌≡◌, ℕ, ◌+◌, if◌then◌else◌, List, [], ◌∷◌, ◌++◌, take, Option, Result, Ok, Err}
use Rattle.std.specs.Io.KnownBytes.{Appends}
use Rattle.hk_lines.specs.Cut.{Cut, behind, whole, cut, trim, is_skipped}
use Rattle.hk_lines.specs.InputForms.{line_read}
use Rattle.hk_lines.specs.Numbers.{longest_input}
use Rattle.hk_lines.specs.OutputForms.{line_text}
use Rattle.hk_lines.specs.declared.input_line.InputLine.{InputLine}
use Rattle.hk_lines.specs.declared.input_line.InputLine.TheVariants.{End}
use Rattle.hk_lines.specs.declared.line_fault.LineFault.{LineFault}
use Rattle.hk_lines.specs.declared.output_line.OutputLine.{OutputLine}
use Rattle.hk_lines.specs.declared.output_line.OutputLine.TheVariants.{FinalTotal, Done}
use Rattle.hk_ledger.specs.Replays.{opened_with}
use Rattle.hk_replay.specs.Replaying.{texts}

-- a line that was read, and those behind it, unless it is the end
abbrev pub read_before : Result InputLine LineFault → List InputLine → List InputLine
read_before (Ok End) more = End ∷ []
read_before (Ok line) more = line ∷ more
read_before (Err fault) more = more

abbrev pub line_before : List ℕ → List InputLine → List InputLine
line_before line more = if is_skipped line then more else read_before (line_read line) more

-- bytes behind the last line feed are a line, unless there are none
abbrev pub last_lines : List ℕ → List InputLine
last_lines [] = []
last_lines (byte ∷ bytes) = line_before (trim (byte ∷ bytes)) []

abbrev pub cut_lines : Cut → List InputLine
cut_lines (whole line more) = line_before (trim line) (cut_lines more)
cut_lines (behind bytes) = last_lines bytes

-- the lines of the input that read as lines, in order, up to the end
abbrev pub input_lines : List ℕ → List InputLine
input_lines bytes = cut_lines (cut (take longest_input bytes))

-- lines were written, and behind them two numbers that add up to the balances of the input's accounts
pub record Conserved (bytes : List ℕ) (before now : Option (List ℕ)) : Type 0 where
  pub front : List OutputLine
  pub balances : ℕ
  pub burnt : ℕ
  pub wrote : Appends before now (texts front ++ (line_text (FinalTotal balances burnt) ++ line_text Done))
  pub sum : balances + burnt ≡ opened_with (input_lines bytes)
