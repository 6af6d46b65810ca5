-- Fields and elements of slots, and where they lie.
use Rattle.std.proofs.Common.{◌≡◌, ℕ, zero, suc, ◌+◌, ◌-◌, ◌<◌, ◌≤◌, ◌==◌, true, not, List, [], ◌∷◌, ◌++◌, length, take}
use Rattle.std.proofs.Common.{drop, refl, sym, ap, subst, ◌∙◌, arith, append_assoc, append-nil, length-append}
use Rattle.std.proofs.Common.{length-drop, Option, Some, None, option_map, ok_or, unwrap_or, slice_get, Ok, Err, IsSome}
use Rattle.std.proofs.Common.{is_some}
use Rattle.std.proofs.lemmas.List.{take-append-drop, take-take, take_at, drop_at, drop-take, length-take-le}
use Rattle.xo_fields.specs.declared.field.FieldId.{FieldId}
use Rattle.xo_fields.specs.declared.form.Form.{Form}
use Rattle.xo_fields.specs.declared.form.Form.TheVariants.{Object, Array}
use Rattle.xo_fields.specs.declared.header.HeaderRead.TheVariants.{Cut, Bad, Header}
use Rattle.xo_fields.specs.Form.{form_at}
use Rattle.xo_fields.specs.Field.{number}
use Rattle.xo_fields.specs.Header.{header, IsField, HeaderGives}
use Rattle.xo_fields.specs.Laws.{OneHeaderRead}
use Rattle.xo_fields.proofs.Cases.{some_same}
use Rattle.xo_list.specs.declared.span.Span.{Span}
use Rattle.xo_list.specs.Item.{Item, body_of, lookup}
use Rattle.xo_list.specs.Laws.{MoreRoom}
use Rattle.xo_list.specs.List.{Fits as Listed, ListFits}
use Rattle.xo_list.specs.Span.{part, item_of, InRange, FindsValue, FindsElement}
use Rattle.xo_list.specs.Value.{IsValue, IsObject, IsArray, HasFields, HasElements}
use Rattle.xo_list.proofs.ListLemmas.{listed}
use Rattle.xo_list.proofs.Parts.{rest_after}
use Rattle.xo_object.proofs.Values.{lookup_fits}
use Rattle.hk_reading.proofs.FieldsFound.{fields_found, elements_found}
use Rattle.hk_reading.proofs.Finding.{nat_same}
use Rattle.hk_slots.specs.declared.fault.SlotFault.TheVariants.{DoesntExist, NotAnObject, NotAnArray}
use Rattle.hk_slots.specs.declared.part.Part.{Part}
use Rattle.hk_slots.specs.Slots.{Slot, ◌>>=◌, ◌>>◌, refuse, is_object, is_array, fields, elements, subfield_of}
use Rattle.hk_slots.specs.Slots.{element_of}
use Rattle.hk_slots.specs.Part.{blob_at, slot_of, inner, Fits, IsPart}

-- the part of a part
part_part : (blob : List ℕ) (a b from to : ℕ) → b ≤ length blob → from ≤ to → to ≤ b - a →
    part (part blob a b) from to ≡ part blob (a + from) (a + to)
part_part blob a b from to within order inside =
    let m : ℕ = b - a - from in
    let wide : b - a ≡ from + m = omega arith in
    ap (λ n. take (to - from) (drop from (take n (drop a blob)))) wide
    ∙ ap (take (to - from)) (drop-take from m (drop a blob))
    ∙ take-take (to - from) m (drop from (drop a blob)) (omega arith)
    ∙ ap (take (to - from)) (rest_after blob a from)
    ∙ ap (λ n. take n (drop (a + from) blob)) (let same : to - from ≡ a + to - (a + from) = omega arith in same)

part_length : (blob : List ℕ) (a b : ℕ) → a ≤ b → b ≤ length blob → length (part blob a b) ≡ b - a
part_length blob a b order within =
    length-take-le (b - a) (drop a blob) (omega (arith, order, within, length-drop a blob))

-- the part's part shows what stands there in its bytes
pub inner_shows : (blobs : List (List ℕ)) (whole : Part) (field : FieldId) (span : Span) → IsPart blobs whole →
    span.from ≤ span.to → span.to ≤ length (slot_of blobs whole).bytes →
    slot_of blobs (inner whole field span)
    ≡ record { field = Some field; bytes = part (slot_of blobs whole).bytes span.from span.to }
inner_shows blobs whole field span is order within =
    let long : length (slot_of blobs whole).bytes ≡ whole.span.to - whole.span.from =
    part_length (blob_at blobs whole.blob) whole.span.from whole.span.to is.order is.within in
    ap (λ bytes. record { field = Some field; bytes = bytes }) (sym (part_part (blob_at blobs whole.blob)
    whole.span.from whole.span.to span.from span.to is.within order (omega arith)))

pub inner_part : (blobs : List (List ℕ)) (whole : Part) (field : FieldId) (span : Span) → IsPart blobs whole →
    span.from ≤ span.to → span.to ≤ length (slot_of blobs whole).bytes →
    Fits (record { field = Some field; bytes = part (slot_of blobs whole).bytes span.from span.to }) →
    IsPart blobs (inner whole field span)
inner_part blobs whole field span is order within fits =
    let long : length (slot_of blobs whole).bytes ≡ whole.span.to - whole.span.from =
    part_length (blob_at blobs whole.blob) whole.span.from whole.span.to is.order is.within in
    record {
      there = is.there;
      order = omega arith;
      within = omega (arith, is.within, is.order);
      short = is.short;
      fits = subst Fits (sym (inner_shows blobs whole field span is order within)) fits;
    }

-- a part's places are numbers of the machine
pub inner_small : (blobs : List (List ℕ)) (whole : Part) (n : ℕ) → IsPart blobs whole →
    n ≤ length (slot_of blobs whole).bytes → whole.span.from + n < 4294967296
inner_small blobs whole n is within =
    let long : length (slot_of blobs whole).bytes ≡ whole.span.to - whole.span.from =
    part_length (blob_at blobs whole.blob) whole.span.from whole.span.to is.order is.within in
    omega (arith, is.within, is.order, is.short)

module _ (slot : Slot) where
  -- what an object's field and an array's element are
  subfield_shown : (field : FieldId) (items : List Item) (o : Option (List ℕ)) → is_object slot.field ≡ true →
      IsObject items slot.bytes → lookup field items ≡ o →
      subfield_of field slot ≡ (ok_or o DoesntExist >>= λ value. Ok (record { field = Some field; bytes = value }))
  subfield_shown field items o object is e =
      ap (λ b.
      refuse (not b) NotAnObject
      >> (ok_or (lookup field (fields slot)) DoesntExist
      >>= λ value. Ok (record { field = Some field; bytes = value }))) object
      ∙ ap (λ found.
      ok_or (lookup field (unwrap_or found [])) DoesntExist
      >>= λ value. Ok (record { field = Some field; bytes = value })) ((fields_found slot.bytes).complete items is)
      ∙ ap (λ found. ok_or found DoesntExist >>= λ value. Ok (record { field = Some field; bytes = value })) e

  element_shown : (index : ℕ) (items : List Item) (o : Option Item) → is_array slot.field ≡ true →
      IsArray items slot.bytes → slice_get items index ≡ o →
      element_of index slot ≡ (ok_or o DoesntExist >>= λ x. Ok (record { field = Some x.field; bytes = x.value }))
  element_shown index items o array is e =
      ap (λ b.
      refuse (not b) NotAnArray
      >> (ok_or (slice_get (elements slot) index) DoesntExist
      >>= λ x. Ok (record { field = Some x.field; bytes = x.value }))) array
      ∙ ap (λ found.
      ok_or (slice_get (unwrap_or found []) index) DoesntExist
      >>= λ x. Ok (record { field = Some x.field; bytes = x.value })) ((elements_found slot.bytes).complete items is)
      ∙ ap (λ found. ok_or found DoesntExist >>= λ x. Ok (record { field = Some x.field; bytes = x.value })) e

  pub no_field : (field : FieldId) (items : List Item) → is_object slot.field ≡ true → IsObject items slot.bytes →
      lookup field items ≡ None → subfield_of field slot ≡ Err DoesntExist
  no_field field items object is e = subfield_shown field items None object is e

  pub no_element : (index : ℕ) (items : List Item) → is_array slot.field ≡ true → IsArray items slot.bytes →
      slice_get items index ≡ None → element_of index slot ≡ Err DoesntExist
  no_element index items array is e = element_shown index items None array is e

  pub elements_counted : (items : List Item) → IsArray items slot.bytes → length (elements slot) ≡ length items
  elements_counted items is = ap (λ found. length (unwrap_or found [])) ((elements_found slot.bytes).complete items is)

-- a value that is an object or an array is one by itself
value_fits : MoreRoom → (field : FieldId) (value : List ℕ) →
    ((form : Form) → form_at field.kind ≡ Some form → IsValue 10 form value) →
    Fits (record { field = Some field; bytes = value })
value_fits more field value fits = record {
  object = λ e. more 10 Object value (fits Object (ap form_at ((nat_same field.kind 14).0 e)));
  array = λ e. fits Array (ap form_at ((nat_same field.kind 15).0 e));
}

listed_element : (last : ℕ) (items : List Item) (index : ℕ) (x : Item) → ListFits (IsValue 9) true last items →
    slice_get items index ≡ Some x → (n : ℕ) × Listed (IsValue 9) true n x
listed_element last [] index x h e = absurd (cc)
listed_element last (y ∷ items) zero x h e =
    let same : y ≡ x = cc in (last, subst (Listed (IsValue 9) true last) same h.0)
listed_element last (y ∷ items) (suc index) x h e = listed_element (number y.field) items index x h.1 e

pub field_fits : MoreRoom → (bytes : List ℕ) (field : FieldId) (items : List Item) (value : List ℕ) →
    IsObject items bytes → lookup field items ≡ Some value → Fits (record { field = Some field; bytes = value })
field_fits more bytes field items value is e =
    value_fits more field value (λ form known. lookup_fits bytes items field form value is known e)

an_element : (bytes : List ℕ) (items : List Item) (index : ℕ) (x : Item) → IsArray items bytes →
    slice_get items index ≡ Some x → (n : ℕ) × Listed (IsValue 9) true n x
an_element bytes items index x is e = listed_element 0 items index x (listed (IsValue 9) true 0 items bytes is).0 e

pub element_fits : MoreRoom → (bytes : List ℕ) (items : List Item) (index : ℕ) (x : Item) → IsArray items bytes →
    slice_get items index ≡ Some x → Fits (record { field = Some x.field; bytes = x.value })
element_fits more bytes items index x is e =
    let found : (n : ℕ) × Listed (IsValue 9) true n x = an_element bytes items index x is e in
    value_fits more x.field x.value (λ form known.
    subst (λ f. IsValue 10 f x.value) (some_same found.1.form form (sym found.1.known ∙ known))
    (more 9 found.1.form x.value found.1.value))

-- an element's contents stand between its header and its end mark
module _ (one : OneHeaderRead) (bytes : List ℕ) (items : List Item) (index : ℕ) (span : Span)
    (array : IsArray items bytes) (found : FindsElement bytes items index (Some span)) where
  x : Item
  x = found.2.0

  here : slice_get items index ≡ Some x
  unfolding x
  here = found.2.1

  opened : part bytes span.from span.to ≡ header x.field ++ (x.value ++ 225 ∷ [])
  unfolding x
  opened =
      let f : (n : ℕ) × Listed (IsValue 9) true n found.2.0 = an_element bytes items index found.2.0 array found.2.1 in
      let known : form_at found.2.0.field.kind ≡ Some Object = ap form_at f.1.allowed in
      found.2.2
      ∙ ap (λ o. header found.2.0.field ++ (body_of o found.2.0.value ++ [])) known
      ∙ ap (λ y. header found.2.0.field ++ y) (append-nil (found.2.0.value ++ 225 ∷ []))

  there : drop span.from bytes ≡ header x.field ++ (x.value ++ 225 ∷ drop span.to bytes)
  there =
      let rest : List ℕ = drop (span.to - span.from) (drop span.from bytes) in
      let after : rest ≡ drop span.to bytes =
      rest_after bytes span.from (span.to - span.from)
      ∙ ap (λ n. drop n bytes)
      (let same : span.from + (span.to - span.from) ≡ span.to = omega (arith, found.0) in same) in
      sym (take-append-drop (span.to - span.from) (drop span.from bytes))
      ∙ ap (λ y. y ++ rest) opened
      ∙ append_assoc (header x.field) (x.value ++ 225 ∷ []) rest
      ∙ ap (λ y. header x.field ++ y) (append_assoc x.value (225 ∷ []) rest)
      ∙ ap (λ y. header x.field ++ (x.value ++ 225 ∷ y)) after

  long : length (header x.field) + length x.value + 1 ≡ span.to - span.from
  long =
      let whole : length (part bytes span.from span.to) ≡ span.to - span.from =
      part_length bytes span.from span.to found.0 found.1 in
      omega (
        arith,
        whole,
        ap length opened,
        length-append (header x.field) (x.value ++ 225 ∷ []),
        length-append x.value (225 ∷ []),
      )

  is_field : IsField x.field
  unfolding x
  is_field =
      let f : (n : ℕ) × Listed (IsValue 9) true n found.2.0 = an_element bytes items index found.2.0 array found.2.1 in
      f.1.is

  known : IsSome (form_at x.field.kind)
  unfolding x
  known =
      let f : (n : ℕ) × Listed (IsValue 9) true n found.2.0 = an_element bytes items index found.2.0 array found.2.1 in
      ap is_some (ap form_at f.1.allowed)

  begins : HeaderGives (drop span.from bytes) (Header x.field (length (header x.field)))
  begins = (
    is_field,
    known,
    subst (λ y. length (header x.field) ≤ length y) (sym there)
        (omega (arith, length-append (header x.field) (x.value ++ 225 ∷ drop span.to bytes))),
    ap (take (length (header x.field))) there
        ∙ take_at (header x.field) (x.value ++ 225 ∷ drop span.to bytes) (length (header x.field)) refl,
  )

  pub header_cut : HeaderGives (drop span.from bytes) Cut → ⊥
  header_cut h =
      let same : Cut ≡ Header x.field (length (header x.field)) =
      one (drop span.from bytes) Cut (Header x.field (length (header x.field))) h begins in
      cc

  pub header_bad : HeaderGives (drop span.from bytes) Bad → ⊥
  header_bad h =
      let same : Bad ≡ Header x.field (length (header x.field)) =
      one (drop span.from bytes) Bad (Header x.field (length (header x.field))) h begins in
      cc

  read : (field : FieldId) (size : ℕ) → HeaderGives (drop span.from bytes) (Header field size) →
      (field ≡ x.field) × (size ≡ length (header x.field))
  read field size h =
      let same : Header field size ≡ Header x.field (length (header x.field)) =
      one (drop span.from bytes) (Header field size) (Header x.field (length (header x.field))) h begins in
      (cc, cc)

  contents : part bytes (span.from + length (header x.field)) (span.to - 1) ≡ x.value
  contents =
      let size : ℕ = length (header x.field) in
      let wide : span.to - 1 - (span.from + size) ≡ length x.value = omega (arith, long) in
      ap (λ y. take (span.to - 1 - (span.from + size)) y)
      (sym (rest_after bytes span.from size)
      ∙ ap (drop size) there
      ∙ drop_at (header x.field) (x.value ++ 225 ∷ drop span.to bytes) size refl)
      ∙ take_at x.value (225 ∷ drop span.to bytes) _ (sym wide)

  pub contents_found : (field : FieldId) (size : ℕ) → HeaderGives (drop span.from bytes) (Header field size) →
      slice_get items index
      ≡ option_map (item_of bytes) (Some (field, record { from = span.from + size; to = span.to - 1 }))
  contents_found field size h =
      here ∙ ap (λ v. Some (record { field = x.field; value = v })) (sym contents)
      ∙ ap (λ n. Some (record { field = x.field; value = part bytes (span.from + n) (span.to - 1) }))
      (sym (read field size h).1)
      ∙ ap (λ f. Some (record { field = f; value = part bytes (span.from + size) (span.to - 1) }))
      (sym (read field size h).0)

  pub contents_within : (field : FieldId) (size : ℕ) → HeaderGives (drop span.from bytes) (Header field size) →
      (span.from + size ≤ span.to - 1) × (span.to - 1 ≤ length bytes) × (1 ≤ span.to)
  contents_within field size h =
      (omega (arith, long, (read field size h).1), omega (arith, found.1), omega (arith, long))

-- what is found in a slot's bytes is the part that is asked for
module _ (more : MoreRoom) (blobs : List (List ℕ)) (whole : Part) (is : IsPart blobs whole) (bytes : List ℕ)
    (same : bytes ≡ (slot_of blobs whole).bytes) where
  shows : (field : FieldId) (span : Span) (p : Part) → span.from ≤ span.to →
      span.to ≤ length (slot_of blobs whole).bytes → p ≡ inner whole field span →
      slot_of blobs p ≡ record { field = Some field; bytes = part (slot_of blobs whole).bytes span.from span.to }
  shows field span p order within e = ap (slot_of blobs) e ∙ inner_shows blobs whole field span is order within

  module _ (object : is_object whole.field ≡ true) (field : FieldId) where
    in_slot : (o : Option Span) →
        ((items : List Item) → IsObject items bytes → FindsValue bytes (lookup field items) o) → (items : List Item) →
        IsObject items (slot_of blobs whole).bytes → FindsValue (slot_of blobs whole).bytes (lookup field items) o
    in_slot o found =
        subst (λ b. (items : List Item) → IsObject items b → FindsValue b (lookup field items) o) same found

    pub field_missing : ((items : List Item) → IsObject items bytes → FindsValue bytes (lookup field items) None) →
        subfield_of field (slot_of blobs whole) ≡ Err DoesntExist
    field_missing found =
        let has : HasFields (slot_of blobs whole).bytes = is.fits.object object in
        no_field (slot_of blobs whole) field has.0 object has.1 (in_slot None found has.0 has.1)

    pub field_found : (span : Span) (p : Part) →
        ((items : List Item) → IsObject items bytes → FindsValue bytes (lookup field items) (Some span)) →
        p ≡ inner whole field span →
        (subfield_of field (slot_of blobs whole) ≡ Ok (slot_of blobs p)) × IsPart blobs p
    field_found span p found e =
        let has : HasFields (slot_of blobs whole).bytes = is.fits.object object in
        let there : FindsValue (slot_of blobs whole).bytes (lookup field has.0) (Some span) =
        in_slot (Some span) found has.0 has.1 in
        let value : List ℕ = part (slot_of blobs whole).bytes span.from span.to in (
          subfield_shown (slot_of blobs whole) field has.0 (Some value) object has.1 there.2
              ∙ ap (λ s. Ok s) (sym (shows field span p there.0 there.1 e)),
          subst (IsPart blobs) (sym e) (inner_part blobs whole field span is there.0 there.1
              (field_fits more (slot_of blobs whole).bytes field has.0 value has.1 there.2)),
        )

  module _ (array : is_array whole.field ≡ true) (index : ℕ) where
    among : (o : Option (FieldId × Span)) →
        ((items : List Item) → IsArray items bytes → slice_get items index ≡ option_map (item_of bytes) o) →
        (items : List Item) → IsArray items (slot_of blobs whole).bytes →
        slice_get items index ≡ option_map (item_of (slot_of blobs whole).bytes) o
    among o found =
        subst (λ b. (items : List Item) → IsArray items b → slice_get items index ≡ option_map (item_of b) o) same found

    pub element_missing : ((items : List Item) → IsArray items bytes → slice_get items index ≡ None) →
        element_of index (slot_of blobs whole) ≡ Err DoesntExist
    element_missing found =
        let has : HasElements (slot_of blobs whole).bytes = is.fits.array array in
        no_element (slot_of blobs whole) index has.0 array has.1 (among None found has.0 has.1)

    pub element_found : (field : FieldId) (span : Span) (p : Part) →
        ((items : List Item) → IsArray items bytes → slice_get items index ≡ Some (item_of bytes (field, span))) →
        InRange bytes (field, span) → p ≡ inner whole field span →
        (element_of index (slot_of blobs whole) ≡ Ok (slot_of blobs p)) × IsPart blobs p
    element_found field span p found range e =
        let has : HasElements (slot_of blobs whole).bytes = is.fits.array array in
        let there : slice_get has.0 index ≡ Some (item_of (slot_of blobs whole).bytes (field, span)) =
        among (Some (field, span)) found has.0 has.1 in
        let within : InRange (slot_of blobs whole).bytes (field, span) =
        subst (λ b. InRange b (field, span)) same range in
        let x : Item = item_of (slot_of blobs whole).bytes (field, span) in (
          element_shown (slot_of blobs whole) index has.0 (Some x) array has.1 there
              ∙ ap (λ s. Ok s) (sym (shows field span p within.0 within.1 e)),
          subst (IsPart blobs) (sym e) (inner_part blobs whole field span is within.0 within.1
              (element_fits more (slot_of blobs whole).bytes has.0 index x has.1 there)),
        )
