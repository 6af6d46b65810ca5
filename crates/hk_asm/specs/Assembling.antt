-- What `asm` gives for the bytes of its input: the lines of the hook that the text means (this project's own).
use Rattle.std.specs.Prelude.{◌≡◌, ℕ, ◌<◌, ◌==◌, nat_le, Bool, true, false, if◌then◌else◌, List, [], ◌∷◌, ◌++◌, length}
use Rattle.std.specs.Prelude.{take, codes, Option, Some, None}
use Rattle.std.specs.Fmt.{decimal}
use Rattle.hk_base.specs.Hexadecimal.{hex_text}
use Rattle.hk_lines.specs.Given.{Close, opened, ended, full, Given, bad, too_long}
use Rattle.hk_lines.specs.declared.rule.Rule.TheVariants.{NoEnd}
use Rattle.hk_lines.specs.declared.status.Status.{Status}
use Rattle.hk_lines.specs.declared.status.Status.TheVariants.{Done, BadInput}
use Rattle.wa_encode.specs.Modules.{encoded}
use Rattle.wa_text.specs.Meaning.{Meaning, means, breaks, unended, meaning}
use Rattle.wa_text.specs.declared.fault.AsmRule.{AsmRule}
use Rattle.wa_text.specs.declared.fault.AsmRule.TheVariants.{BadWord, BadShape, BadOrder, UnknownName, RepeatedName}
use Rattle.wa_text.specs.declared.fault.AsmRule.TheVariants.{Unbalanced}

-- the bytes of input that are taken
abbrev pub longest_text : ℕ
longest_text = 1048576

-- the printed name of a rule
abbrev pub rule_name : AsmRule → List ℕ
rule_name BadWord = codes "bad_word"
rule_name BadShape = codes "bad_shape"
rule_name BadOrder = codes "bad_order"
rule_name UnknownName = codes "unknown_name"
rule_name RepeatedName = codes "repeated_name"
rule_name Unbalanced = codes "unbalanced"

-- the line with this number breaks a rule
abbrev pub broken : ℕ → AsmRule → Given
broken number rule = record {
  text = codes "bad " ++ (decimal number ++ (32 ∷ (rule_name rule ++ 10 ∷ [])));
  status = Some BadInput;
}

-- the lines that `check` and `run` take
abbrev pub hook_lines : List ℕ → List ℕ
hook_lines code = codes "hook " ++ (hex_text code ++ (10 ∷ (codes "end" ++ 10 ∷ [])))

-- each line is right and none is `done`: the input ended, or so many bytes were taken that no more are
abbrev pub undone : Bool → ℕ → Given
undone false number = bad number NoEnd
undone true number = too_long

-- what is told of a text, by whether the limit was reached
abbrev pub told : Bool → Meaning → Given
told is_full (means found) = record { text = hook_lines (encoded found); status = Some Done }
told is_full (breaks number rule) = broken number rule
told is_full (unended number) = undone is_full number

abbrev pub kept : ℕ → List ℕ → List ℕ
kept byte [] = if byte == 10 then byte ∷ [] else []
kept byte (next ∷ more) = byte ∷ next ∷ more

-- the bytes up to the last line feed
abbrev pub whole_lines : List ℕ → List ℕ
whole_lines [] = []
whole_lines (byte ∷ bytes) = kept byte (whole_lines bytes)

-- nothing is told before the text is whole; where the limit is reached, its last line isn't looked at unless it is
-- whole
abbrev pub told_at : Close → List ℕ → Given
told_at opened text = record { text = []; status = None }
told_at ended text = told false (meaning text)
told_at full text = told true (meaning (whole_lines text))

-- what the bytes give, by what comes behind them; no more of them are taken than may be
abbrev pub asm_given : List ℕ → Close → Given
asm_given bytes close =
    if nat_le longest_text (length bytes) then told_at full (take longest_text bytes) else told_at close bytes

-- this text and this status are given
abbrev pub Tells : Given → List ℕ → Status → Type 0
Tells given text status = (text ≡ given.text) × (given.status ≡ Some status)

-- a text and the end of input behind it have a status
abbrev pub GivesStatus : Type 0
GivesStatus = (bytes : List ℕ) → (status : Status) × ((asm_given bytes ended).status ≡ Some status)

-- nothing is told before the limit, while more may come
abbrev pub ShownLate : Type 0
ShownLate = (bytes : List ℕ) → length bytes < longest_text →
    asm_given bytes opened ≡ record { text = []; status = None }
