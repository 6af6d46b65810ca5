-- Worked objects (this project's own), each by the hex of its bytes and by its text.
use Rattle.std.specs.Prelude.{◌≡◌, ℕ, List, [], ◌∷◌, ◌++◌, Option, Some, codes}
use Rattle.std.specs.Option.{option_and_then, option_map}
use Rattle.serde_json.specs.Written.{compact_text}
use Rattle.hk_base.specs.Hexadecimal.{hex_bytes}
use Rattle.hk_reading.specs.Parsing.{fields_of}
use Rattle.xo_showing.specs.Showing.{showing}

-- the text of the object whose bytes have this hex
abbrev pub text_of : List ℕ → Option (List ℕ)
text_of hex = option_map (λ fields. compact_text (showing fields)) (option_and_then fields_of (hex_bytes hex))

-- parts of a text, one behind the other
abbrev pub joined : List (List ℕ) → List ℕ
joined [] = []
joined (part ∷ parts) = part ++ joined parts

-- two numbers; a payment of drops; a field of other kinds: UInt8, Hash128, UInt64, an array, an issued amount
pub record WorkedTexts : Type 0 where
  pub numbers : text_of (codes "22000000002400000001") ≡ Some (codes "{\"Flags\":0,\"Sequence\":1}")
  pub payment : text_of (joined (
      codes "1200002400000001" ∷
      codes "6140000000000f4240" ∷
      codes "68400000000000000a" ∷
      codes "7300" ∷
      codes "81141111111111111111111111111111111111111111" ∷
      codes "83142222222222222222222222222222222222222222" ∷ [])) ≡ Some (joined (
      codes "{\"Account\":\"1111111111111111111111111111111111111111\"," ∷
      codes "\"Amount\":\"1000000\",\"Destination\":\"2222222222222222222222222222222222222222\"," ∷
      codes "\"Fee\":\"10\",\"Sequence\":1,\"SigningPubKey\":\"\",\"TransactionType\":0}" ∷ []))
  pub kinds : text_of (joined (
      codes "3d000000000000000a" ∷
      codes "4100112233445566778899aabbccddeeff" ∷
      codes "69d4838d7ea4c68000cccccccccccccccccccccccccccccccccccccccc" ∷
      codes "1111111111111111111111111111111111111111" ∷
      codes "f9ea7d02abcde1f1" ∷
      codes "0110ff" ∷ [])) ≡ Some (joined (
      codes "{\"16/1\":255,\"4/1\":\"00112233445566778899aabbccddeeff\",\"EmitBurden\":\"000000000000000a\"," ∷
      codes "\"Memos\":[{\"Memo\":{\"MemoData\":\"abcd\"}}]," ∷
      codes "\"SendMax\":{\"currency\":\"cccccccccccccccccccccccccccccccccccccccc\"," ∷
      codes "\"issuer\":\"1111111111111111111111111111111111111111\",\"value\":\"6089866696204910592\"}}" ∷ []))
