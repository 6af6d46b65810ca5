-- Slots: numbered places from which a hook reads objects and their parts (this project's own, after the Hooks
-- documentation, "Slots").
use Rattle.std.specs.Prelude.{◌≡◌, ℕ, ◌+◌, ◌-◌, ◌==◌, Bool, true, false, not, nat_lt, List, [], length, replicate}
use Rattle.std.specs.Prelude.{slice_get, slice_set, Option, Some, None, is_none, unwrap_or, ok_or, option_map, position}
use Rattle.std.specs.Prelude.{Result, Ok, Err, if◌then◌else◌}
use Rattle.std.specs.Option.{option_map_or, option_flatten}
use Rattle.xo_fields.specs.declared.field.FieldId.{FieldId}
use Rattle.xo_list.specs.Item.{Item, lookup}
use Rattle.hk_reading.specs.Parsing.{fields_of, elements_of}
use Rattle.hk_slots.specs.declared.fault.SlotFault.{SlotFault}
use Rattle.hk_slots.specs.declared.fault.SlotFault.TheVariants.{BadNumber, DoesntExist, NotAnObject, NotAnArray}
use Rattle.hk_slots.specs.declared.fault.SlotFault.TheVariants.{NoFreeSlots, NoMemory}

-- what a slot shows: bytes, and the field whose value they are. An object that was put there whole has no field.
pub record Slot : Type 0 where
  pub field : Option FieldId
  pub bytes : List ℕ

-- the slots 1 to 255 in order, each empty or not
abbrev pub SlotMap : Type 0
SlotMap = List (Option Slot)

unfoldable pub no_slots : SlotMap
no_slots = replicate 255 None

-- what stands at a number from 1; nothing stands at 0
abbrev pub numbered : {A : Type 0} → List (Option A) → ℕ → Option A
numbered slots n = if n == 0 then None else option_flatten (slice_get slots (n - 1))

abbrev pub put : {A : Type 0} → List (Option A) → ℕ → Option A → List (Option A)
put slots n slot = slice_set slots (n - 1) slot

-- a slot is an object where it has no field or one of kind 14, and an array where its field is of kind 15
abbrev pub is_object : Option FieldId → Bool
is_object field = option_map_or (λ f. f.kind == 14) field true

abbrev pub is_array : Option FieldId → Bool
is_array field = option_map_or (λ f. f.kind == 15) field false

abbrev pub fields : Slot → List Item
fields slot = unwrap_or (fields_of slot.bytes) []

abbrev pub elements : Slot → List Item
elements slot = unwrap_or (elements_of slot.bytes) []

-- one test after the other; the first that refuses is the answer
abbrev pub Slotted : Type 0 → Type 0
Slotted A = Result A SlotFault

infixl 15 ◌>>=◌ ◌>>◌
abbrev pub ◌>>=◌ : {A B : Type 0} → Slotted A → (A → Slotted B) → Slotted B
(Ok x) >>= rest = rest x
(Err fault) >>= rest = Err fault

abbrev pub ◌>>◌ : {A B : Type 0} → Slotted A → Slotted B → Slotted B
(Ok x) >> rest = rest
(Err fault) >> rest = Err fault

abbrev pub refuse : Bool → SlotFault → Slotted (Unit {0})
refuse condition fault = if condition then Err fault else Ok tt

abbrev pub is_number : ℕ → Slotted (Unit {0})
is_number n = refuse (nat_lt 255 n) BadNumber

abbrev pub lowest_free : {A : Type 0} → List (Option A) → Option ℕ
lowest_free slots = option_map (λ k. k + 1) (position is_none slots)

-- where a target stands: 0 is the lowest free slot
abbrev pub target : {A : Type 0} → List (Option A) → ℕ → Slotted ℕ
target slots n = if n == 0 then ok_or (lowest_free slots) NoFreeSlots else Ok n

-- the slot that is read
abbrev pub held_at : {A : Type 0} → List (Option A) → ℕ → Slotted A
held_at slots n = do
  is_number n
  ok_or (numbered slots n) DoesntExist

unfoldable pub bytes_at : SlotMap → ℕ → Slotted (List ℕ)
bytes_at slots n = do
  slot ← held_at slots n
  Ok slot.bytes

unfoldable pub size_at : SlotMap → ℕ → Slotted ℕ
size_at slots n = do
  slot ← held_at slots n
  Ok (length slot.bytes)

unfoldable pub kind_at : SlotMap → ℕ → Slotted (Option FieldId)
kind_at slots n = do
  slot ← held_at slots n
  Ok slot.field

unfoldable pub count_at : SlotMap → ℕ → Slotted ℕ
count_at slots n = do
  slot ← held_at slots n
  refuse (not (is_array slot.field)) NotAnArray
  Ok (length (elements slot))

-- the calls that change slots answer a number, and leave these slots
unfoldable pub cleared : SlotMap → ℕ → Slotted SlotMap
cleared slots n = do
  slot ← held_at slots n
  Ok (put slots n None)

unfoldable pub with_object : SlotMap → ℕ → List ℕ → Slotted (ℕ × SlotMap)
with_object slots n bytes = do
  is_number n
  into ← target slots n
  Ok (into, put slots into (Some (record { field = None; bytes = bytes })))

-- a field's value, as a slot shows it
abbrev pub subfield_of : FieldId → Slot → Slotted Slot
subfield_of field slot = do
  refuse (not (is_object slot.field)) NotAnObject
  value ← ok_or (lookup field (fields slot)) DoesntExist
  Ok (record { field = Some field; bytes = value })

-- an element's contents, as a slot shows them
abbrev pub element_of : ℕ → Slot → Slotted Slot
element_of index slot = do
  refuse (not (is_array slot.field)) NotAnArray
  element ← ok_or (slice_get (elements slot) index) DoesntExist
  Ok (record { field = Some element.field; bytes = element.value })

-- a part of a slot, put into another or the same one
abbrev pub with_part : (Slot → Slotted Slot) → SlotMap → ℕ → ℕ → Slotted (ℕ × SlotMap)
with_part part slots n m = do
  is_number n
  is_number m
  slot ← held_at slots n
  shown ← part slot
  into ← target slots m
  Ok (into, put slots into (Some shown))

unfoldable pub with_subfield : SlotMap → ℕ → FieldId → ℕ → Slotted (ℕ × SlotMap)
with_subfield slots n field m = with_part (subfield_of field) slots n m

unfoldable pub with_element : SlotMap → ℕ → ℕ → ℕ → Slotted (ℕ × SlotMap)
with_element slots n index m = with_part (element_of index) slots n m

-- a call answers and leaves what the definition gives; a refusal leaves all as it was
abbrev pub Answers : {A : Type 0} → SlotMap → SlotMap → Slotted A → Slotted (A × SlotMap) → Type 0
Answers old new (Ok answer) given = given ≡ Ok (answer, new)
Answers old new (Err fault) given = (given ≡ Err fault) × (new ≡ old)

-- the same, but that there may be no memory
abbrev pub AnswersUnless : {A : Type 0} → SlotMap → SlotMap → Slotted A → Slotted (A × SlotMap) → Type 0
AnswersUnless old new (Ok answer) given = given ≡ Ok (answer, new)
AnswersUnless old new (Err NoMemory) given = new ≡ old
AnswersUnless old new (Err fault) given = (given ≡ Err fault) × (new ≡ old)
