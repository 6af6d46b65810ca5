-- Parts and edits by relation are those by function.
use Rattle.std.proofs.Common.{◌≡◌, ℕ, zero, suc, ◌+◌, ◌-◌, ◌<◌, ◌≤◌, ◌⊎◌, inl, inr, Bool, true, false, ◌||◌, List, []}
use Rattle.std.proofs.Common.{◌∷◌, ◌++◌, length, take, drop, refl, sym, ap, subst, ◌∙◌, arith, length-take, length-drop}
use Rattle.std.proofs.Common.{Option, Some, None, Ok, Err, nat_lt, if◌then◌else◌}
use Rattle.std.specs.Prelude.{slice_get, option_map, IsSome}
use Rattle.std.proofs.lemmas.Bool.Decides.{nat_tests}
use Rattle.std.proofs.lemmas.List.{take_at}
use Rattle.xo_fields.specs.declared.field.FieldId.{FieldId}
use Rattle.xo_list.specs.declared.span.Span.{Span}
use Rattle.xo_list.specs.Item.{Item, spell, is_same, lookup, without, with_item}
use Rattle.xo_list.specs.Laws.{OneSpelling}
use Rattle.xo_list.specs.Span.{places, place_of}
use Rattle.xo_list.specs.Value.{IsObject, HasFields, HasElements}
use Rattle.xo_edit.specs.Edit.{IsField, Emplaces, Erases}
use Rattle.xo_edit.specs.Part.{IsElementAt, LacksField, LacksElement}
use Rattle.hk_calls.specs.declared.code.Code.TheVariants as code
use Rattle.hk_calls.specs.Rules.{OrCode, ◌>>=◌, ◌>>◌, refuse, found}
use Rattle.hk_api_pure.specs.Editing.{object_fields, parsed, subfield, span_behind, subarray, only, emplaced, erased}
use Rattle.hk_api_pure.proofs.Readings.{fields_are, are_fields, no_fields, elements_are, no_elements}
use Rattle.xo_list.proofs.ListLemmas.{one_field}

-- parts

-- what an object's field is found as
abbrev field_in : FieldId → Option (List Item) → OrCode Span
field_in f reading = parsed reading >>= λ fields. found (place_of f (places 0 fields))

pub subfield_fails : (bytes : List ℕ) (f : FieldId) → (HasFields bytes → ⊥) → Err code.ParseError ≡ subfield bytes f
subfield_fails bytes f never = sym (ap (field_in f) (no_fields bytes never))

pub subfield_is : (bytes : List ℕ) (f : FieldId) (place : Option Span) → HasFields bytes →
    ((items : List Item) → IsObject items bytes → place ≡ place_of f (places 0 items)) → found place ≡ subfield bytes f
subfield_is bytes f place (items, object) is =
    ap found (is items object) ∙ sym (ap (field_in f) (fields_are bytes items object))

-- where an element stands among others, if it is there
abbrev stands : ℕ → List Item → Option Item → OrCode Span
stands index elements there = found (option_map (λ element. span_behind (spell (take index elements)) element) there)

-- what an array's element is found as
abbrev element_in : ℕ → Option (List Item) → OrCode Span
element_in index reading = parsed reading >>= λ elements. stands index elements (slice_get elements index)

pub subarray_fails : (bytes : List ℕ) (index : ℕ) → (HasElements bytes → ⊥) → Err code.ParseError ≡ subarray bytes index
subarray_fails bytes index never = sym (ap (element_in index) (no_elements bytes never))

-- no element stands past the last
none_there : (elements : List Item) (index : ℕ) → length elements ≤ index → slice_get elements index ≡ None
none_there [] index h = refl
none_there (x ∷ xs) zero h = absurd (omega arith)
none_there (x ∷ xs) (suc index) h = none_there xs index (omega arith)

pub subarray_lacks : (bytes : List ℕ) (index : ℕ) → LacksElement bytes index →
    Err code.DoesntExist ≡ subarray bytes index
subarray_lacks bytes index (elements, array, few) =
    sym (ap (element_in index) (elements_are bytes elements array)
    ∙ ap (stands index elements) (none_there elements index few))

-- the element behind others stands at their number
there_it_is : (before after : List Item) (x : Item) (index : ℕ) → length before ≡ index →
    slice_get (before ++ x ∷ after) index ≡ Some x
there_it_is [] after x zero h = refl
there_it_is [] after x (suc index) h = absurd (omega arith)
there_it_is (y ∷ before) after x zero h = absurd (omega arith)
there_it_is (y ∷ before) after x (suc index) h = there_it_is before after x index (omega arith)

pub subarray_is : (bytes : List ℕ) (index : ℕ) (span : Span) → IsElementAt bytes index span →
    Ok span ≡ subarray bytes index
subarray_is bytes index span (before, after, x, array, count, front, here, order, within) =
    let from : length (spell before) ≡ span.from = sym (ap length front) ∙ omega (arith, length-take span.from bytes) in
    let size : length (spell (x ∷ [])) ≡ span.to - span.from =
    sym (ap length here)
    ∙ omega (arith, length-take (span.to - span.from) (drop span.from bytes), length-drop span.from bytes) in
    let to : length (spell before) + length (spell (x ∷ [])) ≡ span.to = omega arith in
    let elements : List Item = before ++ x ∷ after in
    sym (ap (element_in index) (elements_are bytes elements array)
    ∙ ap (stands index elements) (there_it_is before after x index count)
    ∙ ap (λ some. Ok (span_behind (spell some) x)) (take_at before (x ∷ after) index count)
    ∙ (λ i. Ok (record { from = from i; to = to i })))

-- edits

-- an object with a field put into it, by what both are read as
abbrev put_into : Bool → Option (List Item) → Option (List Item) → FieldId → OrCode (List ℕ)
put_into is_big reading put f = do
  refuse is_big code.TooBig
  fields ← parsed reading
  item ← parsed (only f put)
  Ok (spell (with_item item fields))

same_itself : (f : FieldId) → is_same f f ≡ true
same_itself f = grind (arith, nat_tests)

not_only : (bytes : List ℕ) (f : FieldId) → (IsField bytes f → ⊥) → only f (object_fields bytes) ≡ None
not_only bytes f never = by_reading (object_fields bytes) refl
  where
    by_test : (x : Item) (b : Bool) → is_same x.field f ≡ b → object_fields bytes ≡ Some (x ∷ []) →
        (if b then Some x else None) ≡ None
    by_test x false e h = refl
    by_test x true e h =
        let IsAlone : FieldId → Type 0 = λ g. IsObject (record { field = g; value = x.value } ∷ []) bytes in
        absurd (never (x.value, subst IsAlone (one_field x.field f e) (are_fields bytes (x ∷ []) h)))

    by_reading : (reading : Option (List Item)) → object_fields bytes ≡ reading → only f (object_fields bytes) ≡ None
    by_reading None e = ap (only f) e
    by_reading (Some []) e = ap (only f) e
    by_reading (Some (x ∷ [])) e = ap (only f) e ∙ by_test x (is_same x.field f) refl e
    by_reading (Some (x ∷ y ∷ more)) e = ap (only f) e

pub not_long : (limit n : ℕ) → (limit < n → ⊥) → n ≤ limit
not_long limit n never = omega arith

-- neither is too long
fits_both : (a b : ℕ) → ((16384 < a) ⊎ (4096 < b) → ⊥) → (nat_lt 16384 a || nat_lt 4096 b) ≡ false
fits_both a b never =
    let first : a ≤ 16384 = not_long 16384 a (λ h. never (inl h)) in
    let second : b ≤ 4096 = not_long 4096 b (λ h. never (inr h)) in
    grind (arith, nat_tests)

pub emplaced_is : OneSpelling → (bytes put : List ℕ) (f : FieldId) (edited : List ℕ) →
    ((16384 < length bytes) ⊎ (4096 < length put) → ⊥) →
    Emplaces bytes put f edited → emplaced bytes put f ≡ Ok edited
emplaced_is spelling bytes put f edited short (items, value, object, one, new) =
    let x : Item = record { field = f; value = value } in
    ap (λ b. put_into b (object_fields bytes) (object_fields put) f) (fits_both (length bytes) (length put) short)
    ∙ ap (λ reading. put_into false reading (object_fields put) f) (fields_are bytes items object)
    ∙ ap (λ reading. put_into false (Some items) reading f) (fields_are put (x ∷ []) one)
    ∙ ap (λ same. parsed (if same then Some x else None) >>= λ item. Ok (spell (with_item item items))) (same_itself f)
    ∙ ap Ok (sym (spelling.0 (with_item x items) edited new).1)

pub emplaced_fails : (bytes put : List ℕ) (f : FieldId) → length bytes ≤ 16384 → length put ≤ 4096 →
    (HasFields bytes × IsField put f → ⊥) →
    emplaced bytes put f ≡ Err code.ParseError
emplaced_fails bytes put f first second never =
    let short : (nat_lt 16384 (length bytes) || nat_lt 4096 (length put)) ≡ false = grind (arith, nat_tests) in
    ap (λ b. put_into b (object_fields bytes) (object_fields put) f) short ∙ by_reading (object_fields bytes) refl
  where
    by_reading : (reading : Option (List Item)) → object_fields bytes ≡ reading →
        put_into false reading (object_fields put) f ≡ Err code.ParseError
    by_reading None e = refl
    by_reading (Some items) e =
        let other : IsField put f → ⊥ = λ one. never ((items, are_fields bytes items e), one) in
        ap (λ there. parsed there >>= λ item. Ok (spell (with_item item items))) (not_only put f other)

-- an object without a field, by what it is read as
abbrev take_out : Bool → Option (List Item) → FieldId → OrCode (List ℕ)
take_out is_big reading f = do
  refuse is_big code.TooBig
  fields ← parsed reading
  found (lookup f fields)
  Ok (spell (without f fields))

short_is : (bytes : List ℕ) → length bytes ≤ 16384 → nat_lt 16384 (length bytes) ≡ false
short_is bytes h = grind (arith, nat_tests)

-- what is there is found
found_there : (there : Option (List ℕ)) (rest : OrCode (List ℕ)) → IsSome there → (found there >> rest) ≡ rest
found_there None rest h = absurd cc
found_there (Some value) rest h = refl

pub erased_is : OneSpelling → (bytes : List ℕ) (f : FieldId) (edited : List ℕ) → length bytes ≤ 16384 →
    Erases bytes f edited → erased bytes f ≡ Ok edited
erased_is spelling bytes f edited short (items, object, there, new) =
    ap (λ b. take_out b (object_fields bytes) f) (short_is bytes short)
    ∙ ap (λ reading. take_out false reading f) (fields_are bytes items object)
    ∙ found_there (lookup f items) (Ok (spell (without f items))) there
    ∙ ap Ok (sym (spelling.0 (without f items) edited new).1)

pub erased_fails : (bytes : List ℕ) (f : FieldId) → length bytes ≤ 16384 → (HasFields bytes → ⊥) →
    erased bytes f ≡ Err code.ParseError
erased_fails bytes f short never =
    ap (λ b. take_out b (object_fields bytes) f) (short_is bytes short)
    ∙ ap (λ reading. take_out false reading f) (no_fields bytes never)

pub erased_lacks : (bytes : List ℕ) (f : FieldId) → length bytes ≤ 16384 → LacksField bytes f →
    erased bytes f ≡ Err code.DoesntExist
erased_lacks bytes f short (items, object, absent) =
    ap (λ b. take_out b (object_fields bytes) f) (short_is bytes short)
    ∙ ap (λ reading. take_out false reading f) (fields_are bytes items object)
    ∙ ap (λ there. found there >> Ok (spell (without f items))) absent
