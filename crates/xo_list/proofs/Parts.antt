-- Values as parts of bytes.
use Rattle.std.proofs.Common.{◌≡◌, ℕ, zero, suc, ◌+◌, ◌-◌, ◌<◌, ◌≤◌, Bool, true, false, List, [], ◌∷◌, ◌++◌, length}
use Rattle.std.proofs.Common.{take, drop, refl, sym, ap, subst, ◌∙◌, arith, append_assoc, length-append, length-take}
use Rattle.std.proofs.Common.{length-drop}
use Rattle.std.proofs.Common.{drop-drop, Some}
use Rattle.std.proofs.lemmas.List.{take-append-drop, take_at}
use Rattle.xo_fields.specs.declared.field.FieldId.{FieldId}
use Rattle.xo_fields.specs.declared.form.Form.{Form}
use Rattle.xo_fields.specs.declared.form.Form.TheVariants.{Blob, Account, Object, Array}
use Rattle.xo_fields.specs.declared.header.HeaderRead.TheVariants as headers
use Rattle.xo_fields.specs.declared.length.LengthRead.TheVariants as lengths
use Rattle.xo_fields.specs.Field.{number}
use Rattle.xo_fields.specs.Form.{form_at}
use Rattle.xo_fields.specs.Header.{header, HeaderGives}
use Rattle.xo_fields.specs.Length.{prefix, LengthGives}
use Rattle.xo_list.specs.declared.fault.ObjectFault.{ObjectFault}
use Rattle.xo_list.specs.declared.skip.Place.TheVariants.{NestedFields, NestedElements}
use Rattle.xo_list.specs.Item.{Item, body, lead}
use Rattle.xo_list.specs.Value.{Allowed, Head, Goes, Whole, IsValue}
use Rattle.xo_list.specs.Fault.{BodyFails, Reads, ends, fails}
use Rattle.xo_list.specs.Span.{part, Valued}

-- the rest after a part of the rest
pub rest_after : (bytes : List ℕ) (at size : ℕ) → drop size (drop at bytes) ≡ drop (at + size) bytes
rest_after bytes at size = drop-drop size at bytes

pub split_at : (bytes front : List ℕ) (at size : ℕ) → take size (drop at bytes) ≡ front →
    drop at bytes ≡ front ++ drop (at + size) bytes
split_at bytes front at size e =
    sym (take-append-drop size (drop at bytes))
    ∙ ap (λ x. x ++ drop size (drop at bytes)) e
    ∙ ap (λ x. front ++ x) (rest_after bytes at size)

-- a header that was read is the head of the field
pub header_stands : (array : Bool) (last : ℕ) (f : FieldId) (form : Form) (bytes : List ℕ) (at size : ℕ) →
    HeaderGives (drop at bytes) (headers.Header f size) → form_at f.kind ≡ Some form → Allowed array last f →
    Head array last f form (drop at bytes) (drop (at + size) bytes)
header_stands array last f form bytes at size h known allowed = record {
  is = h.0;
  known = known;
  whole = split_at bytes (header f) at size h.3;
  allowed = allowed;
}

part_is : (bytes : List ℕ) (from to n : ℕ) → to ≡ from + n → part bytes from to ≡ take n (drop from bytes)
part_is bytes from to n e = let k : to - from ≡ n = omega arith in ap (λ m. take m (drop from bytes)) k

-- a value after its length
pub value_after : (bytes : List ℕ) (at n size : ℕ) → LengthGives (drop at bytes) (lengths.Length n size) →
    n ≤ length bytes - (at + size) → at ≤ length bytes →
    (length (part bytes (at + size) (at + size + n)) ≡ n)
    × (drop at bytes
    ≡ (prefix (length (part bytes (at + size) (at + size + n))) ++ part bytes (at + size) (at + size + n)) ++
    drop (at + size + n) bytes)
value_after bytes at n size h there within =
    let v : part bytes (at + size) (at + size + n) ≡ take n (drop (at + size) bytes) =
    part_is bytes (at + size) (at + size + n) n refl in
    let l : length (part bytes (at + size) (at + size + n)) ≡ n =
    omega (arith, ap length v, length-take n (drop (at + size) bytes), length-drop (at + size) bytes) in
    let rest : drop (at + size) bytes ≡ part bytes (at + size) (at + size + n) ++ drop (at + size + n) bytes =
    split_at bytes (part bytes (at + size) (at + size + n)) (at + size) n (sym v) in (
      l,
      split_at bytes (prefix n) at size h.2
          ∙ ap (λ x. prefix n ++ x) rest
          ∙ sym (append_assoc (prefix n) (part bytes (at + size) (at + size + n)) (drop (at + size + n) bytes))
          ∙ ap (λ m. (prefix m ++ part bytes (at + size) (at + size + n)) ++ drop (at + size + n) bytes) (sym l),
    )

pub blob_valued : (bytes : List ℕ) (at n size : ℕ) → LengthGives (drop at bytes) (lengths.Length n size) →
    n ≤ length bytes - (at + size) → at ≤ length bytes →
    Valued 0 Blob (drop at bytes) (part bytes (at + size) (at + size + n)) (drop (at + size + n) bytes)
blob_valued bytes at n size h there within =
    let v : (length (part bytes (at + size) (at + size + n)) ≡ n)
    × (drop at bytes
    ≡ (prefix (length (part bytes (at + size) (at + size + n))) ++ part bytes (at + size) (at + size + n)) ++
    drop (at + size + n) bytes) =
    value_after bytes at n size h there within in
    record { fits = omega (arith, v.0, h.0); whole = v.1 }

-- a value stands behind its length
pub length_before : (bytes : List ℕ) (at n size : ℕ) → LengthGives (drop at bytes) (lengths.Length n size) →
    n ≤ length bytes - (at + size) → at ≤ length bytes →
    at + size ≡ at + length (lead (Some Blob) (part bytes (at + size) (at + size + n)))
length_before bytes at n size h there within =
    let v : length (part bytes (at + size) (at + size + n)) ≡ n = (value_after bytes at n size h there within).0 in
    let l : size ≡ length (prefix n) = omega (arith, ap length h.2, length-take size (drop at bytes), h.1) in
    ap (λ m. at + m) (l ∙ ap (λ m. length (prefix m)) (sym v))

pub account_before : (bytes : List ℕ) (at n size : ℕ) → LengthGives (drop at bytes) (lengths.Length n size) → n ≡ 20 →
    20 ≤ length bytes - (at + size) → at ≤ length bytes →
    at + size ≡ at + length (lead (Some Account) (part bytes (at + size) (at + size + 20)))
account_before bytes at n size h twenty there within =
    length_before bytes at 20 size (subst (λ m. LengthGives (drop at bytes) (lengths.Length m size)) twenty h) there
    within

pub account_valued : (bytes : List ℕ) (at n size : ℕ) → LengthGives (drop at bytes) (lengths.Length n size) → n ≡ 20 →
    20 ≤ length bytes - (at + size) → at ≤ length bytes →
    Valued 0 Account (drop at bytes) (part bytes (at + size) (at + size + 20)) (drop (at + size + 20) bytes)
account_valued bytes at n size h twenty there within =
    let v : (length (part bytes (at + size) (at + size + 20)) ≡ 20)
    × (drop at bytes
    ≡ (prefix (length (part bytes (at + size) (at + size + 20))) ++ part bytes (at + size) (at + size + 20)) ++
    drop (at + size + 20) bytes) =
    value_after bytes at 20 size (subst (λ m. LengthGives (drop at bytes) (lengths.Length m size)) twenty h) there
    within in
    record { fits = v.0; whole = v.1 }

-- where what is asked at the end follows from what was asked there
pub asks_less : (fits : Form → List ℕ → Type 0) (array : Bool) (asked then_asked : ℕ → List ℕ → Type 0) →
    ((n : ℕ) (rest : List ℕ) → asked n rest → then_asked n rest) →
    (last : ℕ) (items : List Item) (bytes : List ℕ) → Goes fits array last items bytes asked →
    Goes fits array last items bytes then_asked
asks_less fits array asked then_asked less last [] bytes h = less last bytes h
asks_less fits array asked then_asked less last (x ∷ xs) bytes (tail, stands, more) =
    (tail, stands, asks_less fits array asked then_asked less (number x.field) xs tail more)

-- fields before an end are fields alone
pub enclosed : (fits : Form → List ℕ → Type 0) (array : Bool) (last : ℕ) (items : List Item) (bytes after : List ℕ) →
    Goes fits array last items bytes (λ _ rest. rest ≡ after) →
    (value : List ℕ) × Goes fits array last items value (λ _ rest. rest ≡ []) × (bytes ≡ value ++ after)
enclosed fits array last [] bytes after h = ([], refl, h)
enclosed fits array last (x ∷ xs) bytes after (tail, s, h) =
    let more : (value : List ℕ) × Goes fits array (number x.field) xs value (λ _ rest. rest ≡ [])
    × (tail ≡ value ++ after) =
    enclosed fits array (number x.field) xs tail after h in (
      header x.field ++ (body s.form x.value ++ more.0),
      (
        more.0,
        record {
          form = s.form;
          head = record { is = s.head.is; known = s.head.known; whole = refl; allowed = s.head.allowed };
          value = s.value;
        },
        more.1,
      ),
      s.head.whole
          ∙ ap (λ t. header x.field ++ (body s.form x.value ++ t)) more.2
          ∙ ap (λ t. header x.field ++ t) (sym (append_assoc (body s.form x.value) more.0 after))
          ∙ sym (append_assoc (header x.field) (body s.form x.value ++ more.0) after),
    )

-- fields alone are fields before an end
pub disclosed : (fits : Form → List ℕ → Type 0) (array : Bool) (last : ℕ) (items : List Item) (value after : List ℕ) →
    Goes fits array last items value (λ _ rest. rest ≡ []) →
    Goes fits array last items (value ++ after) (λ _ rest. rest ≡ after)
disclosed fits array last [] value after h = ap (λ x. x ++ after) h
disclosed fits array last (x ∷ xs) value after (tail, s, h) = (
  tail ++ after,
  record {
    form = s.form;
    head = record {
      is = s.head.is;
      known = s.head.known;
      allowed = s.head.allowed;
      whole =
          ap (λ t. t ++ after) s.head.whole
          ∙ append_assoc (header x.field) (body s.form x.value ++ tail) after
          ∙ ap (λ t. header x.field ++ t) (append_assoc (body s.form x.value) tail after);
    };
    value = s.value;
  },
  disclosed fits array (number x.field) xs tail after h,
)

-- nested fields, and the value that they are
marked : (bytes value : List ℕ) (at next mark : ℕ) → drop at bytes ≡ value ++ (mark ∷ drop next bytes) →
    at ≤ length bytes → next ≤ length bytes →
    (at < next) × (part bytes at (next - 1) ≡ value)
marked bytes value at next mark e within enough =
    let l : length value + (length bytes - next) + 1 ≡ length bytes - at =
    omega
    (arith, length-drop at bytes, length-drop next bytes, ap length e, length-append value (mark ∷ drop next bytes)) in
    let k : next - 1 - at ≡ length value = omega arith in (
      omega arith,
      ap (λ n. take n (drop at bytes)) k
          ∙ ap (take (length value)) e
          ∙ take_at value (mark ∷ drop next bytes) (length value) refl,
    )

pub object_valued : (room : ℕ) (bytes : List ℕ) (at next : ℕ) → 0 < room → at ≤ length bytes → next ≤ length bytes →
    Reads (room - 1) NestedFields 0 (drop at bytes) (ends (drop next bytes)) →
    (at < next) × Valued room Object (drop at bytes) (part bytes at (next - 1)) (drop next bytes)
object_valued zero bytes at next some within enough h = absurd (omega arith)
object_valued (suc room) bytes at next some within enough h =
    let same : suc room - 1 ≡ room = omega arith in
    let r : Reads room NestedFields 0 (drop at bytes) (ends (drop next bytes)) =
    subst (λ n. Reads n NestedFields 0 (drop at bytes) (ends (drop next bytes))) same h in
    let v : (value : List ℕ) × Goes (IsValue room) false 0 r.0 value (λ _ rest. rest ≡ [])
    × (drop at bytes ≡ value ++ (225 ∷ drop next bytes)) =
    enclosed (IsValue room) false 0 r.0 (drop at bytes) (225 ∷ drop next bytes) r.1 in
    let m : (at < next) × (part bytes at (next - 1) ≡ v.0) = marked bytes v.0 at next 225 v.2 within enough in (
      m.0,
      record {
        fits = (r.0, subst (λ x. Whole (IsValue room) false r.0 x) (sym m.1) v.1);
        whole =
            v.2
            ∙ ap (λ x. x ++ (225 ∷ drop next bytes)) (sym m.1)
            ∙ sym (append_assoc (part bytes at (next - 1)) (225 ∷ []) (drop next bytes));
      },
    )

pub array_valued : (room : ℕ) (bytes : List ℕ) (at next : ℕ) → 0 < room → at ≤ length bytes → next ≤ length bytes →
    Reads (room - 1) NestedElements 0 (drop at bytes) (ends (drop next bytes)) →
    (at < next) × Valued room Array (drop at bytes) (part bytes at (next - 1)) (drop next bytes)
array_valued zero bytes at next some within enough h = absurd (omega arith)
array_valued (suc room) bytes at next some within enough h =
    let same : suc room - 1 ≡ room = omega arith in
    let r : Reads room NestedElements 0 (drop at bytes) (ends (drop next bytes)) =
    subst (λ n. Reads n NestedElements 0 (drop at bytes) (ends (drop next bytes))) same h in
    let v : (value : List ℕ) × Goes (IsValue room) true 0 r.0 value (λ _ rest. rest ≡ [])
    × (drop at bytes ≡ value ++ (241 ∷ drop next bytes)) =
    enclosed (IsValue room) true 0 r.0 (drop at bytes) (241 ∷ drop next bytes) r.1 in
    let m : (at < next) × (part bytes at (next - 1) ≡ v.0) = marked bytes v.0 at next 241 v.2 within enough in (
      m.0,
      record {
        fits = (r.0, subst (λ x. Whole (IsValue room) true r.0 x) (sym m.1) v.1);
        whole =
            v.2
            ∙ ap (λ x. x ++ (241 ∷ drop next bytes)) (sym m.1)
            ∙ sym (append_assoc (part bytes at (next - 1)) (241 ∷ []) (drop next bytes));
      },
    )

pub object_fails : (room : ℕ) (bytes : List ℕ) (fault : ObjectFault) → 0 < room →
    Reads (room - 1) NestedFields 0 bytes (fails fault) → BodyFails room Object bytes fault
object_fails zero bytes fault some h = absurd (omega arith)
object_fails (suc room) bytes fault some h =
    let same : suc room - 1 ≡ room = omega arith in subst (λ n. Reads n NestedFields 0 bytes (fails fault)) same h

pub array_fails : (room : ℕ) (bytes : List ℕ) (fault : ObjectFault) → 0 < room →
    Reads (room - 1) NestedElements 0 bytes (fails fault) → BodyFails room Array bytes fault
array_fails zero bytes fault some h = absurd (omega arith)
array_fails (suc room) bytes fault some h =
    let same : suc room - 1 ≡ room = omega arith in subst (λ n. Reads n NestedElements 0 bytes (fails fault)) same h

pub too_deep_object : (room : ℕ) (bytes : List ℕ) (fault : ObjectFault) → room ≡ 0 → BodyFails 0 Object bytes fault →
    BodyFails room Object bytes fault
too_deep_object room bytes fault none h = subst (λ n. BodyFails n Object bytes fault) (sym none) h

pub too_deep_array : (room : ℕ) (bytes : List ℕ) (fault : ObjectFault) → room ≡ 0 → BodyFails 0 Array bytes fault →
    BodyFails room Array bytes fault
too_deep_array room bytes fault none h = subst (λ n. BodyFails n Array bytes fault) (sym none) h
