-- The lines that a command takes, by their first words (this project's own). Byte 32 is a space.
use Rattle.std.specs.Prelude.{ℕ, Bool, ◌||◌, List, [], ◌∷◌, ◌++◌, if◌then◌else◌, Result, Err, eqb}
use Rattle.std.specs.List.{starts_with}
use Rattle.std.specs.Str.{bytes_eq}
use Rattle.hk_lines.specs.InputForms.{line_read}
use Rattle.hk_lines.specs.declared.input_line.InputLine.{InputLine}
use Rattle.hk_lines.specs.declared.line_fault.LineFault.{LineFault}
use Rattle.hk_lines.specs.declared.line_fault.LineFault.TheVariants.{BadWord, BadShape}
use Rattle.hk_lines.specs.declared.rule.Rule.{Rule}
use Rattle.hk_lines.specs.declared.rule.Rule.TheVariants as rule

-- the line is this word, or this word and a space begin it
abbrev pub begins : List ℕ → List ℕ → Bool
begins line word = bytes_eq line word || starts_with eqb line (word ++ 32 ∷ [])

-- a line, where the command takes its first word
abbrev pub read_if : Bool → List ℕ → Result InputLine LineFault
read_if taken line = if taken then line_read line else Err BadWord

-- the rule that a line breaks which isn't read; its length was tested before
abbrev pub rule_of : LineFault → Rule
rule_of BadWord = rule.BadWord
rule_of BadShape = rule.BadShape
rule_of other = rule.LineTooLong
