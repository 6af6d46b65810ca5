-- The rules that all rows share (this project's own, after the XRPL Hooks). A row is its conditions, one after the
-- other, and then what it gives.
use Rattle.std.specs.Prelude.{ℕ, ◌-◌, ◌/◌, ◌%◌, ◌==◌, ◌&&◌, nat_lt, nat_le, Bool, List, ◌++◌, length, take, drop}
use Rattle.std.specs.Prelude.{replicate, Option, ok_or, Result, Ok, Err, if◌then◌else◌}
use Rattle.hk_base.specs.declared.ids.Hash256.{Hash256}
use Rattle.wa_num.specs.Memory.{fits}
use Rattle.xo_fields.specs.declared.field.FieldId.{FieldId}
use Rattle.hk_calls.specs.declared.arguments.Pair.{Pair}
use Rattle.hk_calls.specs.declared.code.Code.{Code}
use Rattle.hk_calls.specs.declared.code.Code.TheVariants as code

-- what a row gives, or the code that refuses it
abbrev pub OrCode : Type 0 → Type 0
OrCode A = Result A Code

infixl 15 ◌>>=◌ ◌>>◌
-- one condition and then the next: the first that refuses decides (a `do` block stands for these two)
abbrev pub ◌>>=◌ : {A B : Type 0} → OrCode A → (A → OrCode B) → OrCode B
Ok x >>= rest = rest x
Err refused >>= rest = Err refused

abbrev pub ◌>>◌ : {A B : Type 0} → OrCode A → OrCode B → OrCode B
Ok x >> rest = rest
Err refused >> rest = Err refused

-- this code, where the condition holds
abbrev pub refuse : Bool → Code → OrCode (Unit {0})
refuse condition refusal = if condition then Err refusal else Ok tt

-- a pair lies in the memory
abbrev pub inside : List ℕ → Pair → OrCode (Unit {0})
inside m pair = if fits m pair.at pair.count then Ok tt else Err code.OutOfBounds

-- the bytes of a pair, which lies in the memory
abbrev pub read : List ℕ → Pair → OrCode (List ℕ)
read m pair = if fits m pair.at pair.count then Ok (take pair.count (drop pair.at m)) else Err code.OutOfBounds

-- what may be absent
abbrev pub found : {A : Type 0} → Option A → OrCode A
found there = ok_or there code.DoesntExist

-- bytes as a name: 1 to 32
abbrev pub name : List ℕ → OrCode (List ℕ)
name bytes =
    if length bytes == 0 then Err code.TooSmall else
    if nat_lt 32 (length bytes) then Err code.TooBig else Ok bytes

-- bytes as a key: 1 to 32, with zeros on the left
abbrev pub key : List ℕ → OrCode Hash256
key bytes =
    if length bytes == 0 then Err code.TooSmall else
    if nat_lt 32 (length bytes) then Err code.TooBig else Ok (record { 0 = replicate (32 - length bytes) 0 ++ bytes })

-- a part of a field's number
abbrev pub is_part : ℕ → Bool
is_part n = nat_le 1 n && nat_le n 255

-- the field of a number
abbrev pub field : ℕ → OrCode FieldId
field n =
    if is_part (n / 65536) && is_part (n % 65536) then Ok (record { kind = n / 65536; code = n % 65536 })
    else Err code.InvalidField
