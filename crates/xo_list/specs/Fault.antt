-- The fault of the leftmost field that fails (this project's own order of faults).
use Rattle.std.specs.Prelude.{◌≡◌, ℕ, zero, suc, ◌+◌, ◌<◌, ◌≤◌, ◌⊎◌, Bool, true, false, List, [], ◌∷◌, length}
use Rattle.xo_fields.specs.declared.field.FieldId.{FieldId}
use Rattle.xo_fields.specs.declared.form.Form.{Form}
use Rattle.xo_fields.specs.declared.form.Form.TheVariants.{Fixed, Money, Blob, Account, Object, Array}
use Rattle.xo_fields.specs.declared.header.HeaderRead.{HeaderRead}
use Rattle.xo_fields.specs.declared.header.HeaderRead.TheVariants as headers
use Rattle.xo_fields.specs.declared.length.LengthRead.{LengthRead}
use Rattle.xo_fields.specs.declared.length.LengthRead.TheVariants as lengths
use Rattle.xo_fields.specs.declared.amount.AmountRead.{AmountRead}
use Rattle.xo_fields.specs.declared.amount.AmountRead.TheVariants as amounts
use Rattle.xo_fields.specs.Amount.{AmountGives}
use Rattle.xo_fields.specs.Field.{number}
use Rattle.xo_fields.specs.Header.{HeaderGives}
use Rattle.xo_fields.specs.Length.{LengthGives}
use Rattle.xo_list.specs.declared.fault.ObjectFault.{ObjectFault}
use Rattle.xo_list.specs.declared.fault.ObjectFault.TheVariants.{Cut, UnknownField, OutOfOrder, BadLength, BadAmount}
use Rattle.xo_list.specs.declared.fault.ObjectFault.TheVariants.{TooDeep}
use Rattle.xo_list.specs.declared.skip.Place.{Place}
use Rattle.xo_list.specs.declared.skip.Place.TheVariants.{Fields, NestedFields, Elements, NestedElements}
use Rattle.xo_list.specs.Item.{Item}
use Rattle.xo_list.specs.Value.{Head, Goes, IsValue}

abbrev pub is_array : Place → Bool
is_array Fields = false
is_array NestedFields = false
is_array Elements = true
is_array NestedElements = true

-- the fields end here, with these bytes left after the end mark
abbrev pub IsEnd : Place → List ℕ → List ℕ → Type 0
IsEnd Fields bytes rest = (bytes ≡ []) × (rest ≡ [])
IsEnd Elements bytes rest = (bytes ≡ []) × (rest ≡ [])
IsEnd NestedFields bytes rest = bytes ≡ 225 ∷ rest
IsEnd NestedElements bytes rest = bytes ≡ 241 ∷ rest

abbrev pub IsNoEnd : Place → List ℕ → Type 0
IsNoEnd place bytes = (rest : List ℕ) → IsEnd place bytes rest → ⊥

-- how what stands in a place goes on
pub data Outcome : Type 0 where
  ends : List ℕ → Outcome
  fails : ObjectFault → Outcome

-- the fault of a header as it is read
abbrev pub HeaderFault : Bool → ℕ → HeaderRead → ObjectFault → Type 0
HeaderFault array last headers.Cut fault = fault ≡ Cut
HeaderFault array last headers.Bad fault = fault ≡ UnknownField
HeaderFault true last (headers.Header f size) fault = (f.kind ≡ 14 → ⊥) × (fault ≡ UnknownField)
HeaderFault false last (headers.Header f size) fault = (number f ≤ last) × (fault ≡ OutOfOrder)

-- the header of the first field fails
abbrev pub HeadFails : Bool → ℕ → List ℕ → ObjectFault → Type 0
HeadFails array last bytes fault = (read : HeaderRead) × HeaderGives bytes read × HeaderFault array last read fault

-- the first field fails, in its header or after it
abbrev pub FieldFails : (Form → List ℕ → ObjectFault → Type 0) → Bool → ℕ → List ℕ → ObjectFault → Type 0
FieldFails inside array last bytes fault =
    HeadFails array last bytes fault
    ⊎ ((f : FieldId) × (form : Form) × (tail : List ℕ) × Head array last f form bytes tail × inside form tail fault)

-- what stands in a place, with such an outcome
abbrev pub Meets : (Form → List ℕ → ObjectFault → Type 0) → Place → Outcome → ℕ → List ℕ → Type 0
Meets inside place (ends rest) last bytes = IsEnd place bytes rest
Meets inside place (fails fault) last bytes = IsNoEnd place bytes × FieldFails inside (is_array place) last bytes fault

-- these fields stand first, and then comes the outcome
abbrev pub Comes : (Form → List ℕ → Type 0) → (Form → List ℕ → ObjectFault → Type 0) → Place → ℕ → List Item → List ℕ →
    Outcome → Type 0
Comes fits inside place last items bytes outcome =
    Goes fits (is_array place) last items bytes (Meets inside place outcome)

abbrev pub AmountFault : AmountRead → ObjectFault → Type 0
AmountFault amounts.Cut fault = fault ≡ Cut
AmountFault amounts.Bad fault = fault ≡ BadAmount
AmountFault (amounts.Amount amount size) fault = ⊥

abbrev pub BlobFault : List ℕ → LengthRead → ObjectFault → Type 0
BlobFault bytes lengths.Cut fault = fault ≡ Cut
BlobFault bytes lengths.Bad fault = fault ≡ BadLength
BlobFault bytes (lengths.Length n size) fault = (length bytes < size + n) × (fault ≡ Cut)

abbrev pub AccountFault : List ℕ → LengthRead → ObjectFault → Type 0
AccountFault bytes lengths.Cut fault = fault ≡ Cut
AccountFault bytes lengths.Bad fault = fault ≡ BadLength
AccountFault bytes (lengths.Length n size) fault =
    ((n ≡ 20 → ⊥) × (fault ≡ BadLength)) ⊎ ((n ≡ 20) × (length bytes < size + n) × (fault ≡ Cut))

-- how a field fails after its header, where so many objects and arrays may be open
abbrev pub BodyFails : ℕ → Form → List ℕ → ObjectFault → Type 0
BodyFails room (Fixed n) bytes fault = (length bytes < n) × (fault ≡ Cut)
BodyFails room Money bytes fault = (read : AmountRead) × AmountGives bytes read × AmountFault read fault
BodyFails room Blob bytes fault = (read : LengthRead) × LengthGives bytes read × BlobFault bytes read fault
BodyFails room Account bytes fault = (read : LengthRead) × LengthGives bytes read × AccountFault bytes read fault
BodyFails zero Object bytes fault = fault ≡ TooDeep
BodyFails zero Array bytes fault = fault ≡ TooDeep
BodyFails (suc room) Object bytes fault =
    (items : List Item) × Comes (IsValue room) (BodyFails room) NestedFields 0 items bytes (fails fault)
BodyFails (suc room) Array bytes fault =
    (items : List Item) × Comes (IsValue room) (BodyFails room) NestedElements 0 items bytes (fails fault)

-- what stands in a place with room for so many
abbrev pub Reads : ℕ → Place → ℕ → List ℕ → Outcome → Type 0
Reads room place last bytes outcome =
    (items : List Item) × Comes (IsValue room) (BodyFails room) place last items bytes outcome

-- the leftmost field of an object's bytes that fails has this fault
abbrev pub IsFault : List ℕ → ObjectFault → Type 0
IsFault bytes fault = Reads 10 Fields 0 bytes (fails fault)

-- the leftmost element of an array's bytes that fails has this fault
abbrev pub IsArrayFault : List ℕ → ObjectFault → Type 0
IsArrayFault bytes fault = Reads 9 Elements 0 bytes (fails fault)
