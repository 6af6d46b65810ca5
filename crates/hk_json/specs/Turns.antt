-- What the lines of `json` and `unjson` do (this project's own). Byte 32 is a space, 45 a dash and 10 the line feed.
use Rattle.std.specs.Prelude.{ℕ, List, [], ◌∷◌, ◌++◌, drop, take, codes, Option, Some, None, Result, Ok, Err}
use Rattle.std.specs.Prelude.{if◌then◌else◌}
use Rattle.std.specs.Str.{bytes_eq}
use Rattle.serde_json.specs.Written.{compact_text}
use Rattle.hk_lines.specs.Given.{Turn, goes, ends, wrong}
use Rattle.hk_lines.specs.OutputForms.{bytes_text}
use Rattle.hk_lines.specs.Taken.{begins}
use Rattle.hk_lines.specs.Words.{words_of, some_bytes_of}
use Rattle.hk_lines.specs.declared.rule.Rule.{Rule}
use Rattle.hk_lines.specs.declared.rule.Rule.TheVariants as rule
use Rattle.hk_lines.specs.declared.status.Status.TheVariants.{Done}
use Rattle.hk_reading.specs.Parsing.{fields_of}
use Rattle.xo_list.specs.Item.{Item, spell}
use Rattle.xo_showing.specs.Showing.{showing}
use Rattle.xo_told.specs.Told.{told}
use Rattle.xo_told.specs.declared.fault.JsonFault.{JsonFault}
use Rattle.xo_told.specs.declared.fault.JsonFault.TheVariants.{BadText, BadKey, BadValue, TooDeep, NoMemory}

-- nothing is kept from line to line
abbrev pub Step : Type 0
Step = Turn (Unit {0})

-- the last line of both; other first words are none that they take
abbrev pub closing : List ℕ → Step
closing line =
    if bytes_eq line (codes "end") then ends (codes "end" ++ 10 ∷ []) Done
    else if begins line (codes "end") then wrong rule.BadShape
    else wrong rule.BadWord

-- ---- `json`

-- `json <text>`
abbrev pub text_line : List Item → List ℕ
text_line fields = codes "json " ++ (compact_text (showing fields) ++ 10 ∷ [])

-- bytes are an object with these fields, or none
abbrev pub object_step : Option (List Item) → Step
object_step None = wrong rule.Object
object_step (Some fields) = goes tt (text_line fields)

abbrev pub bytes_step : Option (List ℕ) → Step
bytes_step None = wrong rule.BadShape
bytes_step (Some bytes) = object_step (fields_of bytes)

-- the bytes of `obj <hex>`, by its words
abbrev pub bytes_of : List (List ℕ) → Option (List ℕ)
bytes_of (name ∷ word ∷ []) = some_bytes_of word
bytes_of words = None

-- a line of `json`
abbrev pub json_turn : Unit {0} → List ℕ → Step
json_turn state line =
    if begins line (codes "obj") then bytes_step (bytes_of (words_of line)) else closing line

-- ---- `unjson`

-- `obj <hex>`, or a dash for an object without fields
abbrev pub bytes_line : List ℕ → List ℕ
bytes_line bytes = codes "obj " ++ (bytes_text bytes ++ 10 ∷ [])

abbrev pub object_line : List Item → List ℕ
object_line fields = bytes_line (spell fields)

-- the rule that a text breaks; want of memory breaks none
abbrev pub json_rule : JsonFault → Rule
json_rule BadText = rule.JsonText
json_rule BadKey = rule.JsonKey
json_rule BadValue = rule.JsonValue
json_rule TooDeep = rule.JsonDeep
json_rule NoMemory = rule.JsonText

abbrev pub told_step : Result (List Item) JsonFault → Step
told_step (Ok fields) = goes tt (object_line fields)
told_step (Err fault) = wrong (json_rule fault)

-- a line without a text
abbrev pub no_text_step : List ℕ → Step
no_text_step line = if bytes_eq line (codes "json") then wrong rule.BadShape else closing line

-- a line of `unjson`: all behind `json` and its space is the text
abbrev pub unjson_turn : Unit {0} → List ℕ → Step
unjson_turn state line =
    if bytes_eq (take 5 line) (codes "json ") then told_step (told (drop 5 line)) else no_text_step line
