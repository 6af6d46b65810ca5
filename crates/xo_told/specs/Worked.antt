-- Worked texts (this project's own), each with the fields that it shows, or its fault.
use Rattle.std.specs.Prelude.{◌≡◌, ℕ, zero, suc, List, ◌++◌, length, Some, Ok, Err, codes}
use Rattle.hk_base.specs.Hexadecimal.{hex_bytes}
use Rattle.xo_list.specs.Item.{spell}
use Rattle.xo_told.specs.declared.fault.JsonFault.TheVariants.{BadText, BadKey, BadValue, TooDeep}
use Rattle.xo_told.specs.Told.{Told, told_map, told}

-- the bytes of the object that a text shows
abbrev pub bytes_of : List ℕ → Told (List ℕ)
bytes_of text = told_map spell (told text)

-- so many objects, one in another
abbrev pub nested : ℕ → List ℕ
nested zero = codes "{}"
nested (suc more) = codes "{\"Memo\":" ++ (nested more ++ codes "}")

pub record WorkedTexts : Type 0 where
  -- two numbers; hex digits of either case in an array; a key that is given twice
  pub numbers :
      told_map Some (bytes_of (codes "{\"Flags\":0,\"Sequence\":1}")) ≡ Ok (hex_bytes (codes "22000000002400000001"))
  pub array :
      told_map Some (bytes_of (codes "{\"Memos\":[{\"Memo\":{\"MemoData\":\"aBcD\"}}]}"))
      ≡ Ok (hex_bytes (codes "f9ea7d02abcde1f1"))
  pub twice : told_map Some (bytes_of (codes "{\"Flags\":0,\"Flags\":1}")) ≡ Ok (hex_bytes (codes "2200000001"))
  -- text
  pub cut : bytes_of (codes "{\"Flags\":0") ≡ Err BadText
  pub deep : bytes_of (nested 127) ≡ Err BadText
  -- keys: no name, numbers of a field with a name, an end mark, no kind, an element of kind 2
  pub unnamed : bytes_of (codes "{\"Flag\":0}") ≡ Err BadKey
  pub named : bytes_of (codes "{\"2/2\":0}") ≡ Err BadKey
  pub end_mark : bytes_of (codes "{\"14/1\":{}}") ≡ Err BadKey
  pub no_kind : bytes_of (codes "{\"9/1\":0}") ≡ Err BadKey
  pub element : bytes_of (codes "{\"Memos\":[{\"Flags\":\"\"}]}") ≡ Err BadKey
  -- values: no object, below zero, too large, too many hex digits, a leading zero, an element with two keys
  pub root : bytes_of (codes "[]") ≡ Err BadValue
  pub negative : bytes_of (codes "{\"Flags\":-1}") ≡ Err BadValue
  pub large : bytes_of (codes "{\"Flags\":4294967296}") ≡ Err BadValue
  pub long : bytes_of (codes "{\"Account\":\"000000000000000000000000000000000000000000\"}") ≡ Err BadValue
  pub drops : bytes_of (codes "{\"Fee\":\"010\"}") ≡ Err BadValue
  pub two_keys : bytes_of (codes "{\"Memos\":[{\"Memo\":{},\"Hook\":{}}]}") ≡ Err BadValue
  -- ten objects may be open in an object, and not eleven
  pub ten : told_map length (bytes_of (nested 10)) ≡ Ok 20
  pub eleven : bytes_of (nested 11) ≡ Err TooDeep
