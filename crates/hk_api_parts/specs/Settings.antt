-- Rows 27 to 30, 38 to 40 and 42 to 44 of the table of calls: what the setting tells (this
-- project's own, after the XRPL Hooks).
use Rattle.std.specs.Prelude.{ℕ, ℤ, pos, List, Option, Ok}
use Rattle.std.specs.Option.{option_and_then}
use Rattle.xo_fields.specs.declared.field.FieldId.{FieldId}
use Rattle.xo_list.specs.Item.{lookup}
use Rattle.hk_reading.specs.Parsing.{fields_of}
use Rattle.hk_calls.specs.declared.arguments.Pair.{Pair}
use Rattle.hk_calls.specs.Outputs.{Output, writes, writes_or_number}
use Rattle.hk_calls.specs.Rules.{OrCode, ◌>>=◌, ◌>>◌, inside, read, name, field, found}
use Rattle.hk_api_parts.specs.Overrides.{named}
use Rattle.hk_api_parts.specs.declared.setting.Setting.{Setting}

-- 27
abbrev pub fee_base : OrCode ℤ
fee_base = Ok (pos 10)

-- 28
abbrev pub ledger_seq : Setting → OrCode ℤ
ledger_seq setting = Ok (pos setting.header.seq)

-- 29
abbrev pub ledger_last_time : Setting → OrCode ℤ
ledger_last_time setting = Ok (pos setting.header.time)

-- 30: the pair is wp wl
abbrev pub ledger_last_hash : Setting → List ℕ → Pair → OrCode Output
ledger_last_hash setting m write = do
  inside m write
  Ok (writes setting.header.last_hash.0)

-- 38
abbrev pub otxn_type : Setting → OrCode ℤ
otxn_type setting = Ok (pos setting.transaction.kind)

-- 39: the pair is wp wl; the flags change nothing
abbrev pub otxn_id : Setting → List ℕ → Pair → OrCode Output
otxn_id setting m write = do
  inside m write
  Ok (writes setting.transaction.id.0)

-- the value of a field in an object's bytes
unfoldable pub value_in : List ℕ → FieldId → Option (List ℕ)
value_in blob f = option_and_then (lookup f) (fields_of blob)

-- 40: the pair is wp wl, and the field's number
abbrev pub otxn_field : Setting → List ℕ → Pair → ℕ → OrCode Output
otxn_field setting m write number = do
  inside m write
  f ← field number
  value ← found (value_in setting.transaction.blob f)
  Ok (writes_or_number value)

-- 42: the pairs are wp wl and rp rl
abbrev pub otxn_param : Setting → List ℕ → Pair → Pair → OrCode Output
otxn_param setting m write from = do
  inside m write
  bytes ← read m from
  n ← name bytes
  p ← found (named n setting.transaction.parameters)
  Ok (writes_or_number p.value)

-- 43
abbrev pub otxn_burden : Setting → OrCode ℤ
otxn_burden setting = Ok (pos setting.transaction.burden)

-- 44
abbrev pub otxn_generation : Setting → OrCode ℤ
otxn_generation setting = Ok (pos setting.transaction.generation)
