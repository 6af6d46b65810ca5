-- The forms of lines that are read (this project's own).
use Rattle.std.specs.Prelude.{ℕ, nat_le, if◌then◌else◌, List, [], ◌∷◌, length, codes, Option, Some, None, Result, Ok}
use Rattle.std.specs.Prelude.{Err, option_and_then}
use Rattle.std.specs.Option.{option_map}
use Rattle.std.specs.Str.{bytes_eq}
use Rattle.hk_base.specs.declared.ids.AccountId.{AccountId}
use Rattle.hk_base.specs.declared.ids.Hash256.{Hash256}
use Rattle.hk_lines.specs.Numbers.{longest_line, most_drops}
use Rattle.hk_lines.specs.Words.{words_of, number_of, sized_bytes_of, some_bytes_of}
use Rattle.hk_lines.specs.declared.input_line.InputLine.{InputLine}
use Rattle.hk_lines.specs.declared.input_line.InputLine.TheVariants.{Account, Ledger, Tx, Hook, End}
use Rattle.hk_lines.specs.declared.line_fault.LineFault.{LineFault}
use Rattle.hk_lines.specs.declared.line_fault.LineFault.TheVariants.{TooLong, BadWord, BadShape}
use Rattle.hk_lines.specs.declared.verdict.Verdict.{Verdict}
use Rattle.hk_lines.specs.declared.verdict.Verdict.TheVariants.{Good, Bad}

-- an account's id is 40 hex digits
abbrev pub id_of : List ℕ → Option AccountId
id_of word = option_map (λ bytes. record { 0 = bytes }) (sized_bytes_of 20 word)

-- a hash is 64 hex digits
abbrev pub hash_of : List ℕ → Option Hash256
hash_of word = option_map (λ bytes. record { 0 = bytes }) (sized_bytes_of 32 word)

-- `account <id> <balance> <sequence>`
abbrev pub account_of : List (List ℕ) → Option InputLine
account_of (first ∷ second ∷ third ∷ []) =
    option_and_then
    (λ id. option_and_then
    (λ balance. option_map (λ sequence. Account id balance sequence) (number_of 1 4294967294 third))
    (number_of 0 most_drops second))
    (id_of first)
account_of parts = None

-- `ledger <seq> <time> <hash>`
abbrev pub ledger_of : List (List ℕ) → Option InputLine
ledger_of (first ∷ second ∷ third ∷ []) =
    option_and_then
    (λ seq. option_and_then
    (λ time. option_map (λ hash. Ledger seq time hash) (hash_of third))
    (number_of 0 4294967295 second))
    (number_of 1 4294967000 first)
ledger_of parts = None

-- `good` or `bad`
abbrev pub verdict_of : List ℕ → Option Verdict
verdict_of word =
    if bytes_eq word (codes "good") then Some Good else if bytes_eq word (codes "bad") then Some Bad else None

-- `tx good <blob>` and `tx bad <blob>`
abbrev pub tx_of : List (List ℕ) → Option InputLine
tx_of (first ∷ second ∷ []) =
    option_and_then (λ verdict. option_map (λ blob. Tx verdict blob) (some_bytes_of second)) (verdict_of first)
tx_of parts = None

-- `hook <code>`
abbrev pub hook_of : List (List ℕ) → Option InputLine
hook_of (first ∷ []) = option_map (λ code. Hook code) (some_bytes_of first)
hook_of parts = None

-- `end`
abbrev pub end_of : List (List ℕ) → Option InputLine
end_of [] = Some End
end_of parts = None

-- a line, where the words are those of its form
abbrev pub shaped : Option InputLine → Result InputLine LineFault
shaped (Some line) = Ok line
shaped None = Err BadShape

-- the line of some words: the first names the form
abbrev pub words_read : List (List ℕ) → Result InputLine LineFault
words_read [] = Err BadWord
words_read (word ∷ parts) =
    if bytes_eq word (codes "account") then shaped (account_of parts)
    else if bytes_eq word (codes "ledger") then shaped (ledger_of parts)
    else if bytes_eq word (codes "tx") then shaped (tx_of parts)
    else if bytes_eq word (codes "hook") then shaped (hook_of parts)
    else if bytes_eq word (codes "end") then shaped (end_of parts)
    else Err BadWord

-- a line, or why it isn't read; its length is tested first
abbrev pub line_read : List ℕ → Result InputLine LineFault
line_read line = if nat_le (length line) longest_line then words_read (words_of line) else Err TooLong
