-- Collected spans name the values that stand in the bytes.
use Rattle.std.proofs.Common.{◌≡◌, ℕ, zero, suc, ◌-◌, ◌<◌, Bool, true, false, List, [], ◌∷◌, All, refl, subst, arith}
use Rattle.xo_fields.specs.declared.field.FieldId.{FieldId}
use Rattle.xo_fields.specs.Field.{number}
use Rattle.xo_fields.specs.declared.form.Form.TheVariants.{Object, Array}
use Rattle.xo_list.specs.declared.fault.ObjectFault.{ObjectFault}
use Rattle.xo_list.specs.declared.skip.Place.{Place}
use Rattle.xo_list.specs.declared.skip.Place.TheVariants.{Fields, NestedFields, Elements, NestedElements}
use Rattle.xo_list.specs.declared.span.Span.{Span}
use Rattle.xo_list.specs.Collected.{Collects}
use Rattle.xo_list.specs.Fault.{is_array, BodyFails, Comes, IsEnd, Meets, Reads, ends, fails}
use Rattle.xo_list.specs.Item.{Item}
use Rattle.xo_list.specs.Laws.{OneReading}
use Rattle.xo_list.specs.List.{ListFits}
use Rattle.xo_list.specs.Span.{items_of, InRange}
use Rattle.xo_list.specs.Value.{Whole, IsValue}
use Rattle.xo_list.proofs.ListLemmas.{listed}
use Rattle.xo_list.proofs.Parts.{asks_less}
use Rattle.hk_reading.specs.Parsing.{all_at, value_at}
use Rattle.xo_showing.specs.Placed.{IsPlaced, IsOuter}
use Rattle.xo_showing.proofs.Nested.{found_in}

ended : (room : ℕ) (place : Place) (rest : List ℕ) → IsOuter place → (n : ℕ) (left : List ℕ) →
    Meets (BodyFails room) place (ends rest) n left → left ≡ []
ended room Fields rest outer n left h = h.0
ended room Elements rest outer n left h = h.0
ended room NestedFields rest outer n left h = absurd outer
ended room NestedElements rest outer n left h = absurd outer

pub collected_whole : (room : ℕ) (place : Place) (bytes : List ℕ) (spans : List (FieldId × Span)) → IsOuter place →
    Collects room place bytes spans → Whole (IsValue room) (is_array place) (items_of bytes spans) bytes
collected_whole room place bytes spans outer h =
    asks_less (IsValue room) (is_array place) (Meets (BodyFails room) place (ends h.comes.0)) (λ n left. left ≡ [])
    (ended room place h.comes.0 outer) 0 (items_of bytes spans) bytes h.comes.1

pub placed : (room : ℕ) (array : Bool) (bytes : List ℕ) (last : ℕ) (spans : List (FieldId × Span)) →
    ListFits (IsValue room) array last (items_of bytes spans) → All (InRange bytes) spans →
    All (IsPlaced room bytes) spans
placed room array bytes last [] fit ranges k d within = absurd (omega arith)
placed room array bytes last (s ∷ spans) (f, fit) ranges zero d within = (ranges 0 d within, (f.form, f.known, f.value))
placed room array bytes last (s ∷ spans) (f, fit) ranges (suc k) d within =
    placed room array bytes (number s.0) spans fit (λ j e lt. ranges (suc j) e (omega arith)) k d (omega arith)

pub whole_placed : (room : ℕ) (array : Bool) (bytes : List ℕ) (spans : List (FieldId × Span)) →
    Whole (IsValue room) array (items_of bytes spans) bytes → All (InRange bytes) spans →
    All (IsPlaced room bytes) spans
whole_placed room array bytes spans h ranges =
    placed room array bytes 0 spans (listed (IsValue room) array 0 (items_of bytes spans) bytes h).0 ranges

pub collected_items : (room : ℕ) (place : Place) (bytes : List ℕ) (spans : List (FieldId × Span)) → IsOuter place →
    Collects room place bytes spans → (all_at (value_at room) (is_array place) bytes).0 ≡ items_of bytes spans
collected_items room place bytes spans outer h =
    found_in room (is_array place) (items_of bytes spans) bytes (collected_whole room place bytes spans outer h)

pub collected_placed : (room : ℕ) (place : Place) (bytes : List ℕ) (spans : List (FieldId × Span)) → IsOuter place →
    Collects room place bytes spans → All (IsPlaced room bytes) spans
collected_placed room place bytes spans outer h =
    whole_placed room (is_array place) bytes spans (collected_whole room place bytes spans outer h) h.ranges

-- ---- nothing else is collected

ends_there : (place : Place) (rest : List ℕ) → IsOuter place → rest ≡ [] → IsEnd place rest []
ends_there Fields rest outer e = (e, refl)
ends_there Elements rest outer e = (e, refl)
ends_there NestedFields rest outer e = absurd outer
ends_there NestedElements rest outer e = absurd outer

pub no_fault : OneReading → (room : ℕ) (place : Place) (bytes : List ℕ) (fault : ObjectFault) → IsOuter place →
    ((fields : List Item) × Whole (IsValue room) (is_array place) fields bytes) →
    Reads room place 0 bytes (fails fault) → ⊥
no_fault one room place bytes fault outer (a, h) (b, k) =
    let comes : Comes (IsValue room) (BodyFails room) place 0 a bytes (ends []) =
    asks_less (IsValue room) (is_array place) (λ n rest. rest ≡ []) (Meets (BodyFails room) place (ends []))
    (λ n rest e. ends_there place rest outer e) 0 a bytes h in
    let same : _ = one room place a b bytes (ends []) (fails fault) comes k in
    let e : ends [] ≡ fails fault = same.1 in
    cc

-- a value that has something open has room for it, and what stands in it has room for one less
pub object_opened : (room : ℕ) (value : List ℕ) → IsValue room Object value →
    (0 < room) × ((fields : List Item) × Whole (IsValue (room - 1)) false fields value)
object_opened zero value h = absurd h
object_opened (suc room) value (fields, h) =
    let less : room ≡ suc room - 1 = omega arith in
    (omega arith, (fields, subst (λ r. Whole (IsValue r) false fields value) less h))

pub array_opened : (room : ℕ) (value : List ℕ) → IsValue room Array value →
    (0 < room) × ((fields : List Item) × Whole (IsValue (room - 1)) true fields value)
array_opened zero value h = absurd h
array_opened (suc room) value (fields, h) =
    let less : room ≡ suc room - 1 = omega arith in
    (omega arith, (fields, subst (λ r. Whole (IsValue r) true fields value) less h))
