-- What private helpers answer. The public clauses speak of texts and objects alone.
use Rattle.std.specs.Prelude.{◌≡◌, ℕ, ◌+◌, ◌^◌, ◌<◌, ◌≤◌, List, ◌++◌, codes, false, true}
use Rattle.std.specs.Prelude.{Option, MatchOption, Result, MatchResult, Vec}
use Rattle.std.specs.Fmt.{decimal}
use Rattle.std.specs.Int.{w64, to_be_bytes}
use Rattle.std.specs.declared.alloc.Global.{Global}
use Rattle.serde_json.specs.Data.{Data, string, object, Items, Members, member, no_members}
use Rattle.xo_fields.specs.declared.field.FieldId.{FieldId}
use Rattle.xo_fields.specs.declared.form.Form.{Form}
use Rattle.xo_fields.specs.Amount.{IsAmount}
use Rattle.xo_list.specs.Item.{Item}
use Rattle.xo_list.specs.List.{ListFits}
use Rattle.xo_list.specs.Value.{IsValue}
use Rattle.xo_showing.specs.Bytes.{AreBytes, HaveBytes}
use Rattle.xo_showing.specs.Showing.{hex, members, elements, shown}
use Rattle.xo_showing.specs.Shows.{lowered, lowered_items, lowered_members}
use Rattle.xo_told.specs.declared.fault.JsonFault.{JsonFault}
use Rattle.xo_told.specs.declared.fault.JsonFault.TheVariants.{BadValue, NoMemory}
use Rattle.xo_json.specs.declared.key.Keyed.{Keyed}
use Rattle.xo_told.specs.Faults.{ValueFails}
use Rattle.xo_told.specs.Reading.{IsKey, ShowsValue}

-- what reading a value of a form answers, where so many objects and arrays may be open in it
abbrev pub ReadsValue : ℕ → Form → Data → Result (Vec ℕ Global) JsonFault → Type 0
ReadsValue room form d result = MatchResult result (λ bytes. ShowsValue room form d bytes.items)
    (λ fault. (fault ≡ NoMemory → ⊥) → ValueFails room form d fault)

-- what reading bytes in hex answers
abbrev pub ReadsHex : Data → Result (Vec ℕ Global) JsonFault → Type 0
ReadsHex d result = MatchResult result (λ bytes. AreBytes bytes.items × (lowered d ≡ hex bytes.items))
    (λ fault. (fault ≡ NoMemory → ⊥) →
    (fault ≡ BadValue) × ((bytes : List ℕ) → AreBytes bytes → lowered d ≡ hex bytes → ⊥))

-- what reading a decimal up to a number answers
abbrev pub ReadsDecimal : ℕ → List ℕ → Option ℕ → Type 0
ReadsDecimal most text found =
    MatchOption found ((n : ℕ) → n ≤ most → text ≡ decimal n → ⊥) (λ n. (n ≤ most) × (text ≡ decimal n))

-- what reading a key answers
abbrev pub ReadsKey : List ℕ → Option Keyed → Type 0
ReadsKey text found = MatchOption found ((field : FieldId) (form : Form) → IsKey text field form → ⊥)
    (λ keyed. IsKey text keyed.field keyed.form)

-- the bytes of an issued amount, of the bits of its value
abbrev pub issued_bytes : ℕ → List ℕ → List ℕ → List ℕ
issued_bytes bits currency issuer = to_be_bytes w64 (2 ^ 63 + bits) ++ (currency ++ issuer)

-- the members of an issued amount
abbrev pub issued_members : Data → Data → Data → Members
issued_members currency issuer value =
    member (codes "currency") currency (member (codes "issuer") issuer (member (codes "value") value no_members))

-- what reading the bits of an issued amount's value answers
abbrev pub ReadsBits : Data → Result ℕ JsonFault → Type 0
ReadsBits d result = MatchResult result (λ bits. (bits < 2 ^ 63) × (lowered d ≡ string (decimal bits)))
    (λ fault. (fault ≡ NoMemory → ⊥) →
    (fault ≡ BadValue) × ((bits : ℕ) → bits < 2 ^ 63 → lowered d ≡ string (decimal bits) → ⊥))

-- an issued amount of that value
pub record Worth (d : Data) (currency issuer bytes : List ℕ) : Type 0 where
  pub bits : ℕ
  pub small : bits < 2 ^ 63
  pub shows : lowered d ≡ string (decimal bits)
  pub is : bytes ≡ issued_bytes bits currency issuer
  pub amount : IsAmount bytes

-- what reading an issued amount's value answers, with its currency and its issuer
abbrev pub ReadsWorth : Data → List ℕ → List ℕ → Result (Vec ℕ Global) JsonFault → Type 0
ReadsWorth d currency issuer result = MatchResult result (λ bytes. Worth d currency issuer bytes.items)
    (λ fault. (fault ≡ NoMemory → ⊥) →
    (fault ≡ BadValue) × ((bytes : List ℕ) → Worth d currency issuer bytes → ⊥))

-- the members show these fields, in whose values so many objects and arrays may be open
pub record ShowsFields (room : ℕ) (ms : Members) (fields : List Item) : Type 0 where
  pub fits : ListFits (IsValue room) false 0 fields
  pub bytes : HaveBytes fields
  pub shows : lowered_members ms ≡ members (shown room) fields

-- the items show these elements, likewise
pub record ShowsElements (room : ℕ) (ds : Items) (fields : List Item) : Type 0 where
  pub fits : ListFits (IsValue room) true 0 fields
  pub bytes : HaveBytes fields
  pub shows : lowered_items ds ≡ elements (shown room) fields

-- the value is an object that shows these fields
abbrev pub ShowsRoot : Data → List Item → Type 0
ShowsRoot d fields = (ms : Members) × (d ≡ object ms) × ShowsFields 10 ms fields
