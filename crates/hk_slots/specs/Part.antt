-- Slots as parts of kept bytes, which several of them share.
use Rattle.std.specs.Prelude.{ℕ, ◌+◌, ◌<◌, ◌≤◌, ◌^◌, ◌==◌, Bool, false, List, [], length, map, All, slice_get, Option}
use Rattle.std.specs.Prelude.{Some, unwrap_or, option_map, IfSome, IsTrue}
use Rattle.std.specs.Option.{option_map_or}
use Rattle.xo_fields.specs.declared.field.FieldId.{FieldId}
use Rattle.xo_list.specs.declared.span.Span.{Span}
use Rattle.xo_list.specs.Span.{part}
use Rattle.xo_list.specs.Value.{HasFields, HasElements}
use Rattle.hk_slots.specs.declared.part.Part.{Part}
use Rattle.hk_slots.specs.declared.part.Step.{Step}
use Rattle.hk_slots.specs.declared.part.Step.TheVariants.{Field, Element}
use Rattle.hk_slots.specs.Slots.{Slot, SlotMap, Slotted, is_object, is_array, subfield_of, element_of}

abbrev pub blob_at : List (List ℕ) → ℕ → List ℕ
blob_at blobs place = unwrap_or (slice_get blobs place) []

abbrev pub slot_of : List (List ℕ) → Part → Slot
slot_of blobs p = record { field = p.field; bytes = part (blob_at blobs p.blob) p.span.from p.span.to }

-- a part of a part
abbrev pub inner : Part → FieldId → Span → Part
inner whole field span = record {
  field = Some field;
  blob = whole.blob;
  span = record { from = whole.span.from + span.from; to = whole.span.from + span.to };
}

-- the part of a slot that is asked for
abbrev pub part_of : Step → Slot → Slotted Slot
part_of (Field field) slot = subfield_of field slot
part_of (Element index) slot = element_of index slot

-- what the parts show
abbrev pub shown : List (List ℕ) → List (Option Part) → SlotMap
shown blobs parts = map (option_map (slot_of blobs)) parts

-- bytes that a slot shows as an object are one, and so for an array
pub record Fits (slot : Slot) : Type 0 where
  pub object : IsTrue (is_object slot.field) → HasFields slot.bytes
  pub array : IsTrue (is_array slot.field) → HasElements slot.bytes

-- a part lies within its blob and fits its field
pub record IsPart (blobs : List (List ℕ)) (p : Part) : Type 0 where
  pub there : p.blob < length blobs
  pub order : p.span.from ≤ p.span.to
  pub within : p.span.to ≤ length (blob_at blobs p.blob)
  pub short : length (blob_at blobs p.blob) < 2 ^ 32
  pub fits : Fits (slot_of blobs p)

-- the slot is on that blob
abbrev pub is_on : ℕ → Option Part → Bool
is_on place p = option_map_or (λ q. q.blob == place) p false

abbrev pub ArePartsOf : List (List ℕ) → List (Option Part) → Type 0
ArePartsOf blobs parts = All (λ p. IfSome p (IsPart blobs)) parts
