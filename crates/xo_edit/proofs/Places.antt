-- Where values and elements stand.
use Rattle.std.proofs.Common.{◌≡◌, ℕ, zero, suc, ◌-◌, ◌<◌, List, [], ◌∷◌, ◌++◌, length, take, drop, refl, sym, ap}
use Rattle.std.proofs.Common.{subst, ◌∙◌, arith, append_assoc, append-nil, length-append, length-take, length-drop}
use Rattle.std.proofs.Common.{Option, Some, None}
use Rattle.std.proofs.lemmas.Bool.Decides.{nat_tests}
use Rattle.std.specs.Prelude.{slice_get}
use Rattle.std.proofs.lemmas.List.{take_all, take_at}
use Rattle.std.proofs.lemmas.Option.{slice_get_within}
use Rattle.xo_fields.specs.declared.field.FieldId.{FieldId}
use Rattle.xo_fields.specs.declared.form.Form.{Form}
use Rattle.xo_fields.specs.declared.form.Form.TheVariants.{Fixed, Money, Blob, Account, Object, Array}
use Rattle.xo_fields.specs.Form.{form_at}
use Rattle.xo_fields.specs.Header.{header}
use Rattle.xo_fields.specs.Length.{prefix}
use Rattle.xo_list.specs.declared.find.Located.TheVariants.{Found, Absent}
use Rattle.xo_list.specs.declared.span.Span.{Span}
use Rattle.xo_list.specs.Item.{Item, body_of, lead, opening, spell, lookup}
use Rattle.xo_list.specs.Laws.{OneReading, OneSpelling, OneArray}
use Rattle.xo_list.specs.Located.{Locates}
use Rattle.xo_list.specs.Span.{part, FindsElement}
use Rattle.xo_list.specs.Value.{IsObject, IsArray}
use Rattle.xo_edit.specs.Part.{IsFieldAt, IsElementAt, LacksField, LacksElement}
use Rattle.xo_fields.proofs.Cases.{some_same, none_some}
use Rattle.xo_list.proofs.Cuts.{lookup_at, lookup_absent}
use Rattle.xo_list.proofs.OneList.{same_fields, same_elements}
use Rattle.xo_list.proofs.Placing.{spell-append}

abbrev mark : Option Form → List ℕ
mark None = []
mark (Some (Fixed n)) = []
mark (Some Money) = []
mark (Some Blob) = []
mark (Some Account) = []
mark (Some Object) = 225 ∷ []
mark (Some Array) = 241 ∷ []

body_parts : (o : Option Form) (value : List ℕ) → body_of o value ≡ lead o value ++ (value ++ mark o)
body_parts None value = sym (append-nil value)
body_parts (Some (Fixed n)) value = sym (append-nil value)
body_parts (Some Money) value = sym (append-nil value)
body_parts (Some Blob) value = ap (λ t. prefix (length value) ++ t) (sym (append-nil value))
body_parts (Some Account) value = ap (λ t. prefix (length value) ++ t) (sym (append-nil value))
body_parts (Some Object) value = refl
body_parts (Some Array) value = refl

-- the bytes before and after a field's value
field_parts : (before after : List Item) (x : Item) →
    spell (before ++ x ∷ after)
    ≡ (spell before ++ opening x) ++ (x.value ++ (mark (form_at x.field.kind) ++ spell after))
field_parts before after x =
    let o : Option Form = form_at x.field.kind in
    let rest : List ℕ = x.value ++ (mark o ++ spell after) in
    spell-append before (x ∷ after)
    ∙ ap (λ b. spell before ++ (header x.field ++ (b ++ spell after))) (body_parts o x.value)
    ∙ ap (λ b. spell before ++ (header x.field ++ b))
    (append_assoc (lead o x.value) (x.value ++ mark o) (spell after)
    ∙ ap (λ b. lead o x.value ++ b) (append_assoc x.value (mark o) (spell after)))
    ∙ ap (λ b. spell before ++ b) (sym (append_assoc (header x.field) (lead o x.value) rest))
    ∙ sym (append_assoc (spell before) (opening x) rest)

-- the value of a field that was located stands where it is said
pub value_place : OneSpelling →
    (bytes : List ℕ) (field : FieldId) (items : List Item) (from : ℕ) (value : Span) (to : ℕ) → IsObject items bytes →
    Locates bytes field items (Found from value to) → IsFieldAt bytes field value
value_place spelling bytes field items from value to object (before, after, cuts, is, order, within, exact) =
    let v : List ℕ = part bytes value.from value.to in
    let x : Item = record { field = field; value = v } in
    let front : List ℕ = spell before ++ opening x in
    let back : List ℕ = v ++ (mark (form_at field.kind) ++ spell after) in
    let here : IsObject (before ++ x ∷ after) bytes = subst (λ l. IsObject l bytes) is object in
    let whole : bytes ≡ front ++ back = (spelling.0 (before ++ x ∷ after) bytes here).1 ∙ field_parts before after x in
    let start : from ≡ length (spell before) =
    omega (arith, cuts.order, cuts.within, ap length cuts.front, length-take from bytes) in
    let begins : value.from ≡ length front =
    omega (arith, ap (λ (s : Span). s.from) exact, start, length-append (spell before) (opening x)) in (
      before,
      after,
      v,
      here,
      lookup_at field v before after cuts.below,
      ap (λ n. take n bytes) begins ∙ ap (take (length front)) whole ∙ take_at front back (length front) refl,
      refl,
      order,
      within,
    )

pub field_lacks : (bytes : List ℕ) (field : FieldId) (items : List Item) (at : ℕ) → IsObject items bytes →
    Locates bytes field items (Absent at) → LacksField bytes field
field_lacks bytes field items at object (before, after, cuts, whole) =
    (items, object, ap (lookup field) whole ∙ lookup_absent field before after cuts.below cuts.above)

pub located_value : (bytes : List ℕ) (field : FieldId) (items : List Item) (from : ℕ) (value : Span) (to : ℕ) →
    Locates bytes field items (Found from value to) → lookup field items ≡ Some (part bytes value.from value.to)
located_value bytes field items from value to (before, after, cuts, whole, order, within, exact) =
    ap (lookup field) whole ∙ lookup_at field (part bytes value.from value.to) before after cuts.below

pub field_there : OneReading →
    (bytes : List ℕ) (field : FieldId) (items : List Item) (from : ℕ) (value : Span) (to : ℕ) → IsObject items bytes →
    Locates bytes field items (Found from value to) → LacksField bytes field → ⊥
field_there one bytes field items from value to object l (others, there, none) =
    none_some (part bytes value.from value.to) (sym (sym (located_value bytes field items from value to l)
    ∙ ap (lookup field) (same_fields one items others bytes object there)
    ∙ none))

-- a slice up to the end
pub all_left : (bytes : List ℕ) (at : ℕ) → take (length bytes - at) (drop at bytes) ≡ drop at bytes
all_left bytes at = take_all (length bytes - at) (drop at bytes) (omega (arith, length-drop at bytes))

spell_some : (x : Item) (xs : List Item) → 0 < length (spell (x ∷ xs))
spell_some x xs =
    omega
    (arith, header_some x.field, length-append (header x.field) (body_of (form_at x.field.kind) x.value ++ spell xs))
  where
    header_some : (f : FieldId) → 0 < length (header f)
    header_some f = grind (arith, nat_tests)

pub spell_none : (xs : List Item) → length (spell xs) ≡ 0 → xs ≡ []
spell_none [] e = refl
spell_none (x ∷ xs) e = absurd (omega (arith, spell_some x xs, e))

-- a list, cut at one of its elements
cut_list : (xs : List Item) (i : ℕ) (x : Item) → slice_get xs i ≡ Some x →
    (before : List Item) × (after : List Item) × (xs ≡ before ++ x ∷ after) × (length before ≡ i) × (take i xs ≡ before)
cut_list [] i x e = absurd (omega (arith, slice_get_within [] i x e))
cut_list (y ∷ ys) zero x e = ([], ys, ap (λ z. z ∷ ys) (some_same y x e), refl, refl)
cut_list (y ∷ ys) (suc i) x e =
    let rest : (before : List Item) × (after : List Item) × (ys ≡ before ++ x ∷ after) × (length before ≡ i)
    × (take i ys ≡ before) =
    cut_list ys i x e in
    (y ∷ rest.0, rest.1, ap (λ l. y ∷ l) rest.2, omega (arith, rest.3), ap (λ l. y ∷ l) rest.4)

-- elements
pub element_place : OneArray → (bytes : List ℕ) (elements : List Item) (index : ℕ) (span : Span) →
    IsArray elements bytes → FindsElement bytes elements index (Some span) → IsElementAt bytes index span
element_place one bytes elements index span array (order, within, (x, is, place), from) =
    let cut : (before : List Item) × (after : List Item) × (elements ≡ before ++ x ∷ after) × (length before ≡ index)
    × (take index elements ≡ before) =
    cut_list elements index x is in
    let front : List ℕ = spell cut.0 in
    let back : List ℕ = spell (x ∷ cut.1) in
    let whole : bytes ≡ front ++ back = one elements bytes array ∙ ap spell cut.2 ∙ spell-append cut.0 (x ∷ cut.1) in
    let start : span.from ≡ length front = from ∙ ap (λ l. length (spell l)) cut.4 in (
      cut.0,
      cut.1,
      x,
      subst (λ l. IsArray l bytes) cut.2 array,
      cut.3,
      ap (λ n. take n bytes) start ∙ ap (take (length front)) whole ∙ take_at front back (length front) refl,
      place,
      order,
      within,
    )

pub element_there : OneReading → (bytes : List ℕ) (index : ℕ) (span : Span) → IsElementAt bytes index span →
    LacksElement bytes index → ⊥
element_there one bytes index span (before, after, element, array, count, front, is, order, within)
    (elements, there, few) =
    omega (
      arith,
      few,
      count,
      ap length (same_elements one elements (before ++ element ∷ after) bytes there array),
      length-append before (element ∷ after),
    )
