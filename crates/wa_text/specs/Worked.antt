-- Worked texts (this project's own).
use Rattle.std.specs.Prelude.{◌≡◌, ℕ, ◌++◌, List, [], ◌∷◌, codes, flat_map}
use Rattle.wa_encode.specs.Modules.{encoded}
use Rattle.wa_text.specs.declared.fault.AsmRule.TheVariants.{UnknownName, Unbalanced}
use Rattle.wa_text.specs.Meaning.{Meaning, means, breaks, unended, meaning}

-- lines with their line feeds
abbrev pub text_of : List (List ℕ) → List ℕ
text_of lines = flat_map (λ line. line ++ 10 ∷ []) lines

abbrev pub smallest_text : List ℕ
smallest_text = text_of (
    codes "import accept" ∷
    codes "func hook" ∷
    codes "i32.const 0" ∷
    codes "i32.const 0" ∷
    codes "i64.const 0" ∷
    codes "call accept" ∷
    codes "close" ∷
    codes "done" ∷
    [])

abbrev pub bytes_of : Meaning → List ℕ
bytes_of (means m) = encoded m
bytes_of _ = []

abbrev pub smallest_bytes : List ℕ
smallest_bytes =
    0x00 ∷ 0x61 ∷ 0x73 ∷ 0x6D ∷ 0x01 ∷ 0x00 ∷ 0x00 ∷ 0x00 ∷ 0x01 ∷ 0x0D ∷ 0x02 ∷ 0x60 ∷ 0x01 ∷ 0x7F ∷ 0x01 ∷ 0x7E ∷
    0x60 ∷ 0x03 ∷ 0x7F ∷ 0x7F ∷ 0x7E ∷ 0x01 ∷ 0x7E ∷ 0x02 ∷ 0x0E ∷ 0x01 ∷ 0x03 ∷ 0x65 ∷ 0x6E ∷ 0x76 ∷ 0x06 ∷ 0x61 ∷
    0x63 ∷ 0x63 ∷ 0x65 ∷ 0x70 ∷ 0x74 ∷ 0x00 ∷ 0x01 ∷ 0x03 ∷ 0x02 ∷ 0x01 ∷ 0x00 ∷ 0x07 ∷ 0x08 ∷ 0x01 ∷ 0x04 ∷ 0x68 ∷
    0x6F ∷ 0x6F ∷ 0x6B ∷ 0x00 ∷ 0x01 ∷ 0x0A ∷ 0x0C ∷ 0x01 ∷ 0x0A ∷ 0x00 ∷ 0x41 ∷ 0x00 ∷ 0x41 ∷ 0x00 ∷ 0x42 ∷ 0x00 ∷
    0x10 ∷ 0x00 ∷ 0x0B ∷
    []

-- the smallest hook has these 67 bytes; an `end` is missing; a name is no row; no `done` comes
pub record WorkedTexts : Type 0 where
  pub smallest : bytes_of (meaning smallest_text) ≡ smallest_bytes
  pub open_region :
      meaning (text_of (codes "func hook" ∷ codes "block" ∷ codes "i64.const 0" ∷ codes "close" ∷ []))
      ≡ breaks 4 Unbalanced
  pub no_row : meaning (text_of (codes "import util_raddr" ∷ [])) ≡ breaks 1 UnknownName
  pub nothing : meaning [] ≡ unended 1
