-- The module that a text means (this project's own).
use Rattle.std.specs.Prelude.{◌≡◌, ℕ, ◌+◌, ◌==◌, List, [], ◌∷◌, Result, Ok, Err, if◌then◌else◌}
use Rattle.wa_ops.specs.declared.modules.Module.{Module}
use Rattle.wa_decode.specs.Modules.{Spells}
use Rattle.hk_lines.specs.Cut.{Cut, behind, whole, cut}
use Rattle.wa_encode.specs.Modules.{encoded}
use Rattle.wa_text.specs.declared.fault.AsmFault.{AsmFault}
use Rattle.wa_text.specs.declared.fault.AsmFault.TheVariants.{Bad, NoDone, NoMemory}
use Rattle.wa_text.specs.declared.fault.AsmRule.{AsmRule}
use Rattle.wa_text.specs.declared.text_line.TextLine.{TextLine}
use Rattle.wa_text.specs.declared.draft.Draft.{Draft}
use Rattle.wa_text.specs.Draft.{Step, goes, ends, wrong, first_draft, step}
use Rattle.wa_text.specs.Lines.{text_read, shown}

-- A text means a module, or it breaks a rule at a line, or it ends before its last line, in place of the line with this
-- number.
pub data Meaning : Type 0 where
  means : Module → Meaning
  breaks : ℕ → AsmRule → Meaning
  unended : ℕ → Meaning

abbrev pub read_step : Draft → Result TextLine AsmRule → Step
read_step draft (Ok line) = step draft line
read_step draft (Err rule) = wrong rule

-- a line without the spaces at its front: an empty one, and one that begins with `#`, does nothing
abbrev pub line_step : Draft → List ℕ → Step
line_step draft [] = goes draft
line_step draft (byte ∷ bytes) = if byte == 35 then goes draft else read_step draft (text_read (byte ∷ bytes))

abbrev pub after_step : ℕ → Step → (Draft → Meaning) → Meaning
after_step number (goes draft) later = later draft
after_step number (ends found) later = means found
after_step number (wrong rule) later = breaks number rule

-- the lines from this number on
abbrev pub meaning_from : Draft → ℕ → Cut → Meaning
meaning_from draft number (whole line more) =
    after_step number (line_step draft (shown line)) (λ next. meaning_from next (number + 1) more)
meaning_from draft number (behind []) = unended number
meaning_from draft number (behind (byte ∷ bytes)) =
    after_step number (line_step draft (shown (byte ∷ bytes))) (λ next. unended (number + 1))

abbrev pub meaning : List ℕ → Meaning
meaning text = meaning_from first_draft 1 (cut text)

-- the fault of a text that means no module
abbrev pub IsFault : Meaning → AsmFault → Type 0
IsFault found (Bad line rule) = found ≡ breaks line rule
IsFault found (NoDone line) = found ≡ unended line
IsFault found NoMemory = Unit {0}

-- the text means a module with these bytes
abbrev pub MeansBytes : Meaning → List ℕ → Type 0
MeansBytes found bytes = (m : Module) × (found ≡ means m) × (bytes ≡ encoded m)

-- the text means a module that these bytes spell
abbrev pub MeansSpelled : Meaning → List ℕ → Type 0
MeansSpelled found bytes = (m : Module) × (found ≡ means m) × Spells m bytes
