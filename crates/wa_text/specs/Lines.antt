-- The lines of the assembler's text (this project's own).
use Rattle.std.specs.Prelude.{ℕ, ◌==◌, List, [], ◌∷◌, codes, Option, Some, None, Result, Ok, Err, Bool, true, false}
use Rattle.std.specs.Prelude.{option_map, option_and_then, if◌then◌else◌}
use Rattle.std.specs.Str.{bytes_eq}
use Rattle.wa_ops.specs.Opcodes.{form_at}
use Rattle.wa_ops.specs.declared.op.ValueType.{ValueType}
use Rattle.wa_ops.specs.declared.op.ValueType.TheVariants.{I32, I64}
use Rattle.hk_lines.specs.Cut.{trim}
use Rattle.hk_lines.specs.Words.{words_of, number_of, some_bytes_of}
use Rattle.wa_text.specs.declared.fault.AsmRule.{AsmRule}
use Rattle.wa_text.specs.declared.fault.AsmRule.TheVariants.{BadWord, BadShape}
use Rattle.wa_text.specs.declared.text_line.Constant.{Constant}
use Rattle.wa_text.specs.declared.text_line.Constant.TheVariants as constant
use Rattle.wa_text.specs.declared.text_line.TextLine.{TextLine}
use Rattle.wa_text.specs.declared.text_line.TextLine.TheVariants.{Import, Memory, Global, Data, Hook, Cbak, Local}
use Rattle.wa_text.specs.declared.text_line.TextLine.TheVariants.{Close, Done}
use Rattle.wa_text.specs.Instructions.{alone, one, two, name_of, instructions, opcode_in, operands}
use Rattle.wa_text.specs.Numbers.{word_of, signed_of}

-- `import <name>`
abbrev pub import_of : List (List ℕ) → Option TextLine
import_of parts = option_map (λ name. Import name) (one name_of parts)

-- `memory <min>`: at most 16 pages
abbrev pub memory_of : List (List ℕ) → Option TextLine
memory_of parts = option_map (λ min. Memory min) (one (number_of 0 16) parts)

-- the type of a global or a local
abbrev pub integer_type_of : List ℕ → Option ValueType
integer_type_of word =
    if bytes_eq word (codes "i32") then Some I32 else
    if bytes_eq word (codes "i64") then Some I64 else
    None

-- `var` is a global that may be set
abbrev pub mutable_of : List ℕ → Option Bool
mutable_of word =
    if bytes_eq word (codes "var") then Some true else
    if bytes_eq word (codes "const") then Some false else
    None

-- a signed number in the range of the type
abbrev pub value_of : ValueType → List ℕ → Option Constant
value_of I32 word = option_map (λ n. constant.I32 n) (signed_of 2147483648 word)
value_of _ word = option_map (λ n. constant.I64 n) (signed_of 9223372036854775808 word)

-- `global <type> <var or const> <number>`
abbrev pub global_of : List (List ℕ) → Option TextLine
global_of (kind ∷ mutable ∷ value ∷ []) =
    option_and_then
    (λ k. option_and_then (λ m. option_map (λ v. Global m v) (value_of k value)) (mutable_of mutable))
    (integer_type_of kind)
global_of _ = None

-- `data <offset> <hex>`
abbrev pub data_of : List (List ℕ) → Option TextLine
data_of parts = option_map (λ d. Data d.0 d.1) (two word_of some_bytes_of parts)

-- `func hook` and `func cbak`
abbrev pub function_of : List ℕ → Option TextLine
function_of word =
    if bytes_eq word (codes "hook") then Some Hook else
    if bytes_eq word (codes "cbak") then Some Cbak else
    None

-- `local <type>`
abbrev pub local_of : List (List ℕ) → Option TextLine
local_of parts = option_map (λ kind. Local kind) (one integer_type_of parts)

-- the parts are those of the line, or of none
abbrev pub shaped : Option TextLine → Result TextLine AsmRule
shaped None = Err BadShape
shaped (Some line) = Ok line

-- an instruction by its opcode, where there is one with this name
abbrev pub instruction_read : Option ℕ → List (List ℕ) → Result TextLine AsmRule
instruction_read None parts = Err BadWord
instruction_read (Some opcode) parts = shaped (operands (form_at opcode) opcode parts)

-- first the first word, then the parts
abbrev pub words_read : List (List ℕ) → Result TextLine AsmRule
words_read [] = Err BadWord
words_read (word ∷ parts) =
    if bytes_eq word (codes "import") then shaped (import_of parts) else
    if bytes_eq word (codes "memory") then shaped (memory_of parts) else
    if bytes_eq word (codes "global") then shaped (global_of parts) else
    if bytes_eq word (codes "data") then shaped (data_of parts) else
    if bytes_eq word (codes "func") then shaped (one function_of parts) else
    if bytes_eq word (codes "local") then shaped (local_of parts) else
    if bytes_eq word (codes "close") then shaped (alone Close parts) else
    if bytes_eq word (codes "done") then shaped (alone Done parts) else
    instruction_read (opcode_in instructions word) parts

-- a line, without the spaces at its front
abbrev pub text_read : List ℕ → Result TextLine AsmRule
text_read line = words_read (words_of line)

-- byte 32 is a space
abbrev pub without_spaces : List ℕ → List ℕ
without_spaces [] = []
without_spaces (byte ∷ bytes) = if byte == 32 then without_spaces bytes else byte ∷ bytes

-- a line without the carriage return at its end and the spaces at its front
abbrev pub shown : List ℕ → List ℕ
shown line = without_spaces (trim line)
