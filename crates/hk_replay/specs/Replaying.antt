-- The lines of `replay`, and what the ledger machine prints for them (this project's own).
use Rattle.std.specs.Prelude.{ℕ, List, [], ◌∷◌, ◌++◌, Result, Ok, Err}
use Rattle.hk_lines.specs.Given.{Turn, goes, ends, wrong}
use Rattle.hk_lines.specs.OutputForms.{line_text}
use Rattle.hk_lines.specs.declared.input_line.InputLine.{InputLine}
use Rattle.hk_lines.specs.declared.output_line.OutputLine.{OutputLine}
use Rattle.hk_lines.specs.declared.line_fault.LineFault.{LineFault}
use Rattle.hk_lines.specs.declared.status.Status.TheVariants.{Done}
use Rattle.hk_ledger.specs.Machine as machine
use Rattle.hk_state.specs.Native.{native}
use Rattle.hk_lines.specs.Taken.{read_if, rule_of}
use Rattle.hk_replay.specs.Words.{is_replay_line}

-- the lines' texts, joined
abbrev pub texts : List OutputLine → List ℕ
texts [] = []
texts (line ∷ lines) = line_text line ++ texts lines

-- a step of the machine, printed
abbrev pub printed : machine.Step → Turn machine.State
printed (machine.goes s lines) = goes s (texts lines)
printed (machine.ends lines) = ends (texts lines) Done
printed (machine.breaks rule) = wrong rule

abbrev pub replay_read : machine.State → Result InputLine LineFault → Turn machine.State
replay_read s (Ok line) = printed (machine.step native s line)
replay_read s (Err fault) = wrong (rule_of fault)

-- what a line does in a state of the machine
abbrev pub replay_turn : machine.State → List ℕ → Turn machine.State
replay_turn s line = replay_read s (read_if (is_replay_line line) line)
