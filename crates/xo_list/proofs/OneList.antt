-- Bytes are a list of fields, or have a fault, and their list is one.
use Rattle.std.proofs.Common.{◌≡◌, ℕ, true, false, List, [], refl, IsTrue}
use Rattle.xo_list.specs.declared.fault.ObjectFault.{ObjectFault}
use Rattle.xo_list.specs.declared.skip.Place.TheVariants.{Fields, Elements}
use Rattle.xo_list.specs.Fault.{ends, fails, Comes, BodyFails, Reads}
use Rattle.xo_list.specs.Item.{Item}
use Rattle.xo_list.specs.Laws.{OneReading}
use Rattle.xo_list.specs.Value.{Whole, IsValue, IsObject, IsArray, HasElements}
use Rattle.xo_list.proofs.Parts.{asks_less}

pub never_true : IsTrue false → ⊥
never_true t = cc

fields_come : (room : ℕ) (items : List Item) (bytes : List ℕ) → Whole (IsValue room) false items bytes →
    Comes (IsValue room) (BodyFails room) Fields 0 items bytes (ends [])
fields_come room items bytes h = asks_less (IsValue room) false _ _ (λ last rest e. (e, refl)) 0 items bytes h

elements_come : (items : List Item) (bytes : List ℕ) → IsArray items bytes →
    Comes (IsValue 9) (BodyFails 9) Elements 0 items bytes (ends [])
elements_come items bytes h = asks_less (IsValue 9) true _ _ (λ last rest e. (e, refl)) 0 items bytes h

pub same_fields : OneReading → (a b : List Item) (bytes : List ℕ) → IsObject a bytes → IsObject b bytes → a ≡ b
same_fields one a b bytes h k =
    (one 10 Fields a b bytes (ends []) (ends []) (fields_come 10 a bytes h) (fields_come 10 b bytes k)).0

pub same_elements : OneReading → (a b : List Item) (bytes : List ℕ) → IsArray a bytes → IsArray b bytes → a ≡ b
same_elements one a b bytes h k =
    (one 9 Elements a b bytes (ends []) (ends []) (elements_come a bytes h) (elements_come b bytes k)).0

-- with room for so many open objects and arrays in the values
pub fields_or_fault : OneReading → (room : ℕ) (bytes : List ℕ) (fault : ObjectFault) →
    Reads room Fields 0 bytes (fails fault) → ((items : List Item) × Whole (IsValue room) false items bytes) → ⊥
fields_or_fault one room bytes fault (b, k) (a, h) =
    let same : _ = one room Fields a b bytes (ends []) (fails fault) (fields_come room a bytes h) k in
    let e : ends [] ≡ fails fault = same.1 in
    cc

pub elements_or_fault : OneReading → (bytes : List ℕ) (fault : ObjectFault) → Reads 9 Elements 0 bytes (fails fault) →
    HasElements bytes → ⊥
elements_or_fault one bytes fault (b, k) (a, h) =
    let same : _ = one 9 Elements a b bytes (ends []) (fails fault) (elements_come a bytes h) k in
    let e : ends [] ≡ fails fault = same.1 in
    cc

pub fields_whole : (room : ℕ) (bytes rest : List ℕ) → Reads room Fields 0 bytes (ends rest) →
    ((items : List Item) × Whole (IsValue room) false items bytes)
fields_whole room bytes rest (items, h) =
    (items, asks_less (IsValue room) false _ _ (λ last left e. e.0) 0 items bytes h)

pub elements_whole : (bytes rest : List ℕ) → Reads 9 Elements 0 bytes (ends rest) → HasElements bytes
elements_whole bytes rest (items, h) = (items, asks_less (IsValue 9) true _ _ (λ last left e. e.0) 0 items bytes h)
