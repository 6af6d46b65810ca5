-- Rows 41, 45 and 47 to 53 of the table of calls: slots (this project's own, after the XRPL Hooks). Row 46 needs the
-- ledger.
use Rattle.std.specs.Prelude.{ℕ, ◌==◌, not, nat_lt, ℤ, pos, negsuc, Bool, false, List, length, Option, Some, None}
use Rattle.std.specs.Prelude.{ok_or, Result, Ok, Err, if◌then◌else◌}
use Rattle.std.specs.Option.{option_map_or}
use Rattle.xo_fields.specs.declared.amount.Amount.{Amount}
use Rattle.xo_fields.specs.declared.amount.Amount.TheVariants.{Native, Issued}
use Rattle.xo_fields.specs.declared.field.FieldId.{FieldId}
use Rattle.xo_fields.specs.Field.{number}
use Rattle.xfl.specs.declared.fault.XflFault.{XflFault}
use Rattle.xfl.specs.Value.{Decimal, bits_of}
use Rattle.xfl.specs.Operations.{rounded, whole}
use Rattle.hk_reading.specs.Amounts.{amount_of}
use Rattle.hk_calls.specs.declared.arguments.Pair.{Pair}
use Rattle.hk_calls.specs.declared.code.Code.{Code}
use Rattle.hk_calls.specs.declared.code.Code.TheVariants as code
use Rattle.hk_calls.specs.Outputs.{Output, writes_or_number}
use Rattle.hk_calls.specs.Rules.{OrCode, ◌>>=◌, ◌>>◌, refuse, inside, field}
use Rattle.hk_slots.specs.declared.fault.SlotFault.{SlotFault}
use Rattle.hk_slots.specs.declared.fault.SlotFault.TheVariants as faults
use Rattle.hk_slots.specs.Slots.{SlotMap, Slotted, bytes_at, kind_at, count_at, cleared, with_object, with_subfield}
use Rattle.hk_slots.specs.Slots.{with_element}
use Rattle.hk_api_parts.specs.declared.setting.Setting.{Setting}

-- the code of a fault; no definition gives the last one
abbrev pub code_of : SlotFault → Code
code_of faults.BadNumber = code.InvalidArgument
code_of faults.DoesntExist = code.DoesntExist
code_of faults.NotAnObject = code.NotAnObject
code_of faults.NotAnArray = code.NotAnArray
code_of faults.NoFreeSlots = code.NoFreeSlots
code_of faults.NoMemory = code.NoFreeSlots

-- what a call on slots gives, or the code of its fault
abbrev pub slotted : {A : Type 0} → Slotted A → OrCode A
slotted (Ok x) = Ok x
slotted (Err fault) = Err (code_of fault)

-- the number used, and the slots after it
abbrev pub numbered : ℕ × SlotMap → OrCode (ℤ × SlotMap)
numbered after = Ok (pos after.0, after.1)

-- an object put into a slot
abbrev pub put_object : SlotMap → ℕ → List ℕ → OrCode (ℤ × SlotMap)
put_object slots into bytes = do
  after ← slotted (with_object slots into bytes)
  numbered after

-- 41
abbrev pub otxn_slot : SlotMap → Setting → ℕ → OrCode (ℤ × SlotMap)
otxn_slot slots setting into = put_object slots into setting.transaction.blob

-- 45: the pair is wp wl, and the slot
abbrev pub slot : SlotMap → List ℕ → Pair → ℕ → OrCode Output
slot slots m write n = do
  inside m write
  bytes ← slotted (bytes_at slots n)
  Ok (writes_or_number bytes)

-- 47
abbrev pub slot_clear : SlotMap → ℕ → OrCode (ℤ × SlotMap)
slot_clear slots n = do
  after ← slotted (cleared slots n)
  Ok (pos 1, after)

-- 48
abbrev pub slot_count : SlotMap → ℕ → OrCode ℤ
slot_count slots n = do
  count ← slotted (count_at slots n)
  Ok (pos count)

-- 49
abbrev pub slot_size : SlotMap → ℕ → OrCode ℤ
slot_size slots n = do
  bytes ← slotted (bytes_at slots n)
  Ok (pos (length bytes))

-- 50: the slot, the field and the new slot
abbrev pub slot_subfield : SlotMap → ℕ → ℕ → ℕ → OrCode (ℤ × SlotMap)
slot_subfield slots n f into = do
  part ← field f
  after ← slotted (with_subfield slots n part into)
  numbered after

-- 51: the slot, the index and the new slot
abbrev pub slot_subarray : SlotMap → ℕ → ℕ → ℕ → OrCode (ℤ × SlotMap)
slot_subarray slots n index into = do
  after ← slotted (with_element slots n index into)
  numbered after

-- the amount of a field's bytes
abbrev pub amount_in : Option FieldId → List ℕ → OrCode Amount
amount_in kind bytes =
    if option_map_or (λ f. f.kind == 6) kind false then ok_or (amount_of bytes) code.NotAnAmount else
    Err code.NotAnAmount

-- 1 for drops, 0 for an issued amount
abbrev pub native_number : Amount → ℤ
native_number (Native drops) = pos 1
native_number (Issued value currency issuer) = pos 0

-- a field's number, 0 for none; or what kind of amount it is
abbrev pub type_of : Option FieldId → List ℕ → ℕ → OrCode ℤ
type_of kind bytes flags =
    if flags == 0 then Ok (pos (option_map_or number kind 0)) else
    (amount_in kind bytes >>= λ amount. Ok (native_number amount))

-- 52: the slot and the flags
abbrev pub slot_type : SlotMap → ℕ → ℕ → OrCode ℤ
slot_type slots n flags = do
  kind ← slotted (kind_at slots n)
  bytes ← slotted (bytes_at slots n)
  refuse (nat_lt 1 flags) code.InvalidArgument
  type_of kind bytes flags

-- drops as an XFL: one is 10^-6
abbrev pub float_of_drops : Result Decimal XflFault → OrCode ℤ
float_of_drops (Ok x) = Ok (bits_of x)
float_of_drops (Err fault) = Err code.XflOverflow

-- an amount as an XFL
abbrev pub float_of : Amount → OrCode ℤ
float_of (Native drops) = float_of_drops (rounded (whole (pos drops) (negsuc 5)))
float_of (Issued value currency issuer) = Ok value

-- 53
abbrev pub slot_float : SlotMap → ℕ → OrCode ℤ
slot_float slots n = do
  kind ← slotted (kind_at slots n)
  bytes ← slotted (bytes_at slots n)
  amount ← amount_in kind bytes
  float_of amount
