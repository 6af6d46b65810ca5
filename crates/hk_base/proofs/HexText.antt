-- Hex text by this crate's definitions is hex text by those of the crate `hex`, and it fails where it is said to.
use Rattle.std.proofs.Common.{◌≡◌, ℕ, suc, zero, ◌+◌, ◌*◌, ◌/◌, ◌%◌, ◌<◌, ◌⊎◌, inl, inr, List, [], ◌∷◌, length}
use Rattle.std.proofs.Common.{slice_index_or, Option, Some, None, Result, Ok, Err, refl, sym, ap, ◌∙◌, arith, Any}
use Rattle.std.proofs.lemmas.Bool.{cases_eq}
use Rattle.hex.proofs.HexLemmas.{decode_of-even}
use Rattle.hk_base.specs.Hexadecimal.{digit_value, pair_value, all_of, hex_bytes, lower_digit, hex_text}
use Rattle.hex.specs.Hex.{encode_with, encode_lower, hex_digit_value, decode_pairs, decode_of, value_at, digit_or_error}
use Rattle.hex.specs.Hex.{◌>>=◌}
use Rattle.hex.specs.Hex as hex
use Rattle.hex.specs.declared.error.FromHexError.{FromHexError}

-- the lower-case text is that of the crate
pub encode_lower-is : (bytes : List ℕ) → encode_lower bytes ≡ hex_text bytes
unfolding encode_with
encode_lower-is [] = refl
encode_lower-is (byte ∷ bytes) =
    ap (λ text. lower_digit (byte / 16) ∷ lower_digit (byte % 16) ∷ text) (encode_lower-is bytes)

-- ---- the bytes of a text

-- a digit has the number that the crate gives it
digit_value-is : (character : ℕ) → digit_value character ≡ hex_digit_value character
digit_value-is character = grind arith

-- the value of an answer, if it has one
abbrev pub value_of : {A : Type 0} → Result A FromHexError → Option A
value_of (Ok value) = Some value
value_of (Err error) = None

-- a digit's answer has its number
digit : (character index : ℕ) (number : Option ℕ) → value_of (digit_or_error character index number) ≡ number
digit character index (Some number) = refl
digit character index None = refl

-- two digits' answers make a byte's
pair : (high low : Result ℕ FromHexError) →
    value_of (high >>= (λ h. low >>= (λ l. Ok (h * 16 + l)))) ≡ pair_value (value_of high) (value_of low)
pair (Ok h) (Ok l) = refl
pair (Ok h) (Err e) = refl
pair (Err e) low = refl

-- a byte's answer and that of the rest make the answer
joined : (byte : Result ℕ FromHexError) (bytes : Result (List ℕ) FromHexError) →
    value_of (byte >>= (λ b. bytes >>= (λ bs. Ok (b ∷ bs)))) ≡ all_of (value_of byte) (value_of bytes)
joined (Ok b) (Ok bs) = refl
joined (Ok b) (Err e) = refl
joined (Err e) bytes = refl

-- the crate reads pairs as the definition does, from any index
decode_pairs-is : (text : List ℕ) (index : ℕ) → value_of (decode_pairs index text) ≡ hex_bytes text
unfolding decode_pairs
decode_pairs-is [] index = refl
decode_pairs-is (high ∷ []) index = refl
decode_pairs-is (high ∷ low ∷ text) index =
    joined (hex.pair_value high low index) (decode_pairs (index + 2) text)
    ∙ ap (λ byte. all_of byte (value_of (decode_pairs (index + 2) text)))
    (pair (value_at high index) (value_at low (index + 1))
    ∙ ap (λ h. pair_value h (value_of (value_at low (index + 1))))
    (digit high index (hex_digit_value high) ∙ sym (digit_value-is high))
    ∙ ap (λ l. pair_value (digit_value high) l)
    (digit low (index + 1) (hex_digit_value low) ∙ sym (digit_value-is low)))
    ∙ ap (λ bytes. all_of (pair_value (digit_value high) (digit_value low)) bytes) (decode_pairs-is text (index + 2))

-- where the rest has no bytes, a text has none
all_of-none : (byte : Option ℕ) → all_of byte None ≡ None
all_of-none (Some byte) = refl
all_of-none None = refl

-- where the second digit is none, so is the byte
pair_none : (high : Option ℕ) (bytes : Option (List ℕ)) → all_of (pair_value high None) bytes ≡ None
pair_none (Some high) bytes = refl
pair_none None bytes = refl

-- a text with a last digit that stands alone has no bytes
pub odd_none : (text : List ℕ) → length text % 2 ≡ 1 → hex_bytes text ≡ None
odd_none [] odd = absurd (omega arith)
odd_none (high ∷ []) odd = refl
odd_none (high ∷ low ∷ text) odd =
    let rest : hex_bytes text ≡ None = odd_none text (omega arith) in
    rw rest (all_of-none (pair_value (digit_value high) (digit_value low)))

-- what the crate answers has the bytes of the text
pub decode_of-is : (text : List ℕ) → value_of (decode_of text) ≡ hex_bytes text
decode_of-is text =
    elim (cases_eq (length text % 2) 1) [
      | inl odd ↦ rw odd (sym (odd_none text odd))
      | inr even ↦ ap value_of (decode_of-even text (omega arith)) ∙ decode_pairs-is text 0
    ]

-- no digit's number stands for the character
abbrev pub IsNoDigit : ℕ → Type 0
IsNoDigit character = digit_value character ≡ None

-- where one of three is missing, the list is
missing : (high low : Option ℕ) (bytes : Option (List ℕ)) → all_of (pair_value high low) bytes ≡ None →
    (high ≡ None) ⊎ ((low ≡ None) ⊎ (bytes ≡ None))
missing None low bytes h = inl refl
missing (Some high) None bytes h = inr (inl refl)
missing (Some high) (Some low) None h = inr (inr refl)
missing (Some high) (Some low) (Some bytes) h = cc h

-- an element past the first two is an element
Any-later : (a b : ℕ) (text : List ℕ) → Any IsNoDigit text → Any IsNoDigit (a ∷ b ∷ text)
Any-later a b text (k, x, within, is, bad) = (suc (suc k), x, omega arith, is, bad)

-- a text without bytes is odd or has a character that is no digit
pub none_shows : (text : List ℕ) → hex_bytes text ≡ None → (length text % 2 ≡ 1) ⊎ Any IsNoDigit text
none_shows [] h = cc h
none_shows (high ∷ []) h = inl (omega arith)
none_shows (high ∷ low ∷ text) h =
    elim (missing (digit_value high) (digit_value low) (hex_bytes text) h) [
      | inl no_high ↦ inr (0, high, omega arith, refl, no_high)
      | inr others ↦ elim others [
        | inl no_low ↦ inr (1, low, omega arith, refl, no_low)
        | inr no_rest ↦ elim (none_shows text no_rest) [
          | inl odd ↦ inl (omega arith)
          | inr bad ↦ inr (Any-later high low text bad)
        ]
      ]
    ]

-- a text with a character that is no digit has no bytes
bad_has_none : (text : List ℕ) (k x : ℕ) → k < length text → slice_index_or text k x ≡ x → IsNoDigit x →
    hex_bytes text ≡ None
bad_has_none [] k x within is bad = absurd (omega arith)
bad_has_none (high ∷ []) k x within is bad = refl
bad_has_none (high ∷ low ∷ text) zero x within is bad =
    let no_high : digit_value high ≡ None = ap digit_value is ∙ bad in
    rw no_high refl
bad_has_none (high ∷ low ∷ text) (suc zero) x within is bad =
    let no_low : digit_value low ≡ None = ap digit_value is ∙ bad in
    rw no_low (pair_none (digit_value high) (hex_bytes text))
bad_has_none (high ∷ low ∷ text) (suc (suc k)) x within is bad =
    let no_rest : hex_bytes text ≡ None = bad_has_none text k x (omega arith) is bad in
    rw no_rest (all_of-none (pair_value (digit_value high) (digit_value low)))

-- a text that is odd or has a character that is no digit has no bytes
pub shown_none : (text : List ℕ) → (length text % 2 ≡ 1) ⊎ Any IsNoDigit text → hex_bytes text ≡ None
shown_none text (inl odd) = odd_none text odd
shown_none text (inr (k, x, within, is, bad)) = bad_has_none text k x within is bad
