-- Which words spell which line (this project's own), as a relation.
use Rattle.std.specs.Prelude.{◌≡◌, ◌≤◌, ◌↔◌, ◌⊎◌, ℕ, List, [], ◌∷◌, length, codes, Some, Ok, Err}
use Rattle.std.specs.Fmt.{decimal}
use Rattle.hk_base.specs.Hexadecimal.{hex_bytes}
use Rattle.hk_lines.specs.Numbers.{most_drops}
use Rattle.hk_lines.specs.InputForms.{words_read}
use Rattle.hk_lines.specs.declared.input_line.InputLine.{InputLine}
use Rattle.hk_lines.specs.declared.input_line.InputLine.TheVariants.{Account, Ledger, Tx, Hook, End}
use Rattle.hk_lines.specs.declared.line_fault.LineFault.TheVariants.{BadWord, BadShape}
use Rattle.hk_lines.specs.declared.verdict.Verdict.{Verdict}
use Rattle.hk_lines.specs.declared.verdict.Verdict.TheVariants.{Good, Bad}

-- a word in hex digits of either case has these bytes
abbrev pub SpellsBytes : List ℕ → List ℕ → Type 0
SpellsBytes bytes word = hex_bytes word ≡ Some bytes

-- a verdict is one of two words
abbrev pub verdict_word : Verdict → List ℕ
verdict_word Good = codes "good"
verdict_word Bad = codes "bad"

-- these words spell the line; a number is the decimal that it prints as, in its range
abbrev pub Spells : InputLine → List (List ℕ) → Type 0
Spells (Account id balance sequence) words =
    (word : List ℕ) × SpellsBytes id.0 word × (length id.0 ≡ 20) × (balance ≤ most_drops) × (1 ≤ sequence)
    × (sequence ≤ 4294967294)
    × (words ≡ codes "account" ∷ word ∷ decimal balance ∷ decimal sequence ∷ [])
Spells (Ledger seq time last_hash) words =
    (word : List ℕ) × SpellsBytes last_hash.0 word × (length last_hash.0 ≡ 32) × (1 ≤ seq) × (seq ≤ 4294967000)
    × (time ≤ 4294967295)
    × (words ≡ codes "ledger" ∷ decimal seq ∷ decimal time ∷ word ∷ [])
Spells (Tx verdict blob) words =
    (word : List ℕ) × SpellsBytes blob word × (1 ≤ length blob)
    × (words ≡ codes "tx" ∷ verdict_word verdict ∷ word ∷ [])
Spells (Hook code) words =
    (word : List ℕ) × SpellsBytes code word × (1 ≤ length code) × (words ≡ codes "hook" ∷ word ∷ [])
Spells End words = words ≡ codes "end" ∷ []

-- the words begin with the name of a form
abbrev pub IsNamed : List (List ℕ) → Type 0
IsNamed [] = ⊥
IsNamed (word ∷ parts) =
    (word ≡ codes "account")
    ⊎ ((word ≡ codes "ledger") ⊎ ((word ≡ codes "tx") ⊎ ((word ≡ codes "hook") ⊎ (word ≡ codes "end"))))

-- words are read as a line exactly where they spell it
abbrev pub ReadsSpelled : Type 0
ReadsSpelled = (words : List (List ℕ)) (line : InputLine) → (words_read words ≡ Ok line) ↔ Spells line words

-- words are a bad word exactly where they begin with the name of no form
abbrev pub ReadsNamed : Type 0
ReadsNamed = (words : List (List ℕ)) → (words_read words ≡ Err BadWord) ↔ (IsNamed words → ⊥)

-- words are a bad shape exactly where they begin with the name of a form and spell no line
abbrev pub ReadsShaped : Type 0
ReadsShaped =
    (words : List (List ℕ)) →
    (words_read words ≡ Err BadShape) ↔ (IsNamed words × ((line : InputLine) → Spells line words → ⊥))
