-- What an edit puts together.
use Rattle.std.proofs.Common.{◌≡◌, ℕ, List, [], ◌∷◌, ◌++◌, length, take, drop, refl, sym, ap, subst, ◌∙◌, arith}
use Rattle.std.proofs.Common.{length-append, length-take, length-drop, Option, IsSome}
use Rattle.xo_fields.specs.declared.field.FieldId.{FieldId}
use Rattle.xo_fields.specs.Field.{number}
use Rattle.xo_list.specs.declared.find.Located.TheVariants.{Found, Absent}
use Rattle.xo_list.specs.declared.span.Span.{Span}
use Rattle.xo_list.specs.Item.{Item, spell, without, with_item}
use Rattle.xo_list.specs.Laws.{OneReading, OneSpelling, Edits}
use Rattle.xo_list.specs.List.{IsList}
use Rattle.xo_list.specs.Located.{AllBelow, AllAbove, Locates}
use Rattle.xo_list.specs.Span.{part}
use Rattle.xo_list.specs.Value.{IsObject, HasFields}
use Rattle.xo_edit.specs.Edit.{IsOne, IsField, Emplaces, Erases}
use Rattle.xo_list.proofs.Cuts.{without_at, with_new, with_present}
use Rattle.xo_list.proofs.OneList.{same_fields}
use Rattle.xo_list.proofs.Placing.{spell-append}
use Rattle.xo_edit.proofs.Places.{located_value, spell_none}

-- the bytes without a field that was located
pub erased : OneSpelling → Edits →
    (bytes : List ℕ) (field : FieldId) (items : List Item) (from : ℕ) (value : Span) (to : ℕ) → IsObject items bytes →
    Locates bytes field items (Found from value to) →
    Erases bytes field (take from bytes ++ ([] ++ drop to bytes))
erased spelling edits bytes field items from value to object l =
    let v : List ℕ = part bytes value.from value.to in
    let list : IsList (without field items) = (edits items (spelling.0 items bytes object).0).0 field in
    let left : without field items ≡ l.0 ++ l.1 =
    ap (without field) l.3 ∙ without_at field v l.0 l.1 (l.2).below (l.2).above in
    let made : take from bytes ++ drop to bytes ≡ spell (without field items) =
    ap (λ a. a ++ drop to bytes) (l.2).front
    ∙ ap (λ b. spell l.0 ++ b) (l.2).rest
    ∙ sym (spell-append l.0 l.1)
    ∙ ap spell (sym left) in (
      items,
      object,
      subst (λ (o : Option (List ℕ)). IsSome o) (sym (located_value bytes field items from value to l)) refl,
      subst (λ b. IsObject (without field items) b) (sym made) (spelling.1 (without field items) list),
    )

-- the bytes with a field in its place
emplaced : OneSpelling → Edits →
    (bytes put : List ℕ) (field : FieldId) (items before after : List Item) (value : List ℕ) (from to : ℕ) →
    IsObject items bytes → IsOne put field value → take from bytes ≡ spell before → drop to bytes ≡ spell after →
    with_item (record { field = field; value = value }) items
    ≡ before ++ record { field = field; value = value } ∷ after →
    Emplaces bytes put field (take from bytes ++ (put ++ drop to bytes))
emplaced spelling edits bytes put field items before after value from to object one front rest is =
    let x : Item = record { field = field; value = value } in
    let own : IsList (x ∷ []) × (put ≡ spell (x ∷ [])) = spelling.0 (x ∷ []) put one in
    let list : IsList (with_item x items) = (edits items (spelling.0 items bytes object).0).1 x own.0 in
    let made : take from bytes ++ (put ++ drop to bytes) ≡ spell (with_item x items) =
    ap (λ a. a ++ (put ++ drop to bytes)) front
    ∙ ap (λ b. spell before ++ (b ++ drop to bytes)) own.1
    ∙ ap (λ b. spell before ++ (spell (x ∷ []) ++ b)) rest
    ∙ ap (λ b. spell before ++ b) (sym (spell-append (x ∷ []) after))
    ∙ sym (spell-append before (x ∷ after))
    ∙ ap spell (sym is) in (
      items,
      value,
      object,
      one,
      subst (λ b. IsObject (with_item x items) b) (sym made) (spelling.1 (with_item x items) list),
    )

pub emplaced_new : OneSpelling → Edits →
    (bytes put : List ℕ) (field : FieldId) (items : List Item) (value : List ℕ) (at : ℕ) → IsObject items bytes →
    IsOne put field value → Locates bytes field items (Absent at) →
    Emplaces bytes put field (take at bytes ++ (put ++ drop at bytes))
emplaced_new spelling edits bytes put field items value at object one (before, after, cuts, whole) =
    let x : Item = record { field = field; value = value } in
    emplaced spelling edits bytes put field items before after value at at object one cuts.front cuts.rest
    (ap (with_item x) whole ∙ with_new x before after cuts.below cuts.above)

pub emplaced_over : OneSpelling → Edits →
    (bytes put : List ℕ) (field : FieldId) (items : List Item) (value : List ℕ) (from : ℕ) (old : Span) (to : ℕ) →
    IsObject items bytes → IsOne put field value → Locates bytes field items (Found from old to) →
    Emplaces bytes put field (take from bytes ++ (put ++ drop to bytes))
emplaced_over spelling edits bytes put field items value from old to object one
    (before, after, cuts, whole, order, within, exact) =
    let x : Item = record { field = field; value = value } in
    let y : Item = record { field = field; value = part bytes old.from old.to } in
    emplaced spelling edits bytes put field items before after value from to object one cuts.front cuts.rest
    (ap (with_item x) whole ∙ with_present x y before after refl cuts.below)

-- one field and no more
pub one_whole : (bytes : List ℕ) (field : FieldId) (items : List Item) (from : ℕ) (value : Span) (to : ℕ) →
    IsObject items bytes → Locates bytes field items (Found from value to) → from ≡ 0 → to ≡ length bytes →
    IsField bytes field
one_whole bytes field items from value to object (before, after, cuts, whole, order, within, exact) start end =
    let none_before : before ≡ [] =
    spell_none before (omega (arith, sym (ap length cuts.front), length-take from bytes, start)) in
    let none_after : after ≡ [] =
    spell_none after (omega (arith, sym (ap length cuts.rest), length-drop to bytes, end)) in
    let x : Item = record { field = field; value = part bytes value.from value.to } in (
      x.value,
      subst (λ l. IsObject l bytes) (whole ∙ ap (λ l. l ++ x ∷ after) none_before ∙ ap (λ l. x ∷ l) none_after) object,
    )

-- a list of one, cut in two
cut_one : (x : Item) (a : List Item) (y : Item) (b : List Item) → x ∷ [] ≡ a ++ y ∷ b → (a ≡ []) × (b ≡ [])
cut_one x a y b e =
    lengths a b (omega (arith, ap length e, length-append a (y ∷ b)))
    (omega (arith, ap length e, length-append a (y ∷ b)))
  where
    none : (xs : List Item) → length xs ≡ 0 → xs ≡ []
    none [] h = refl
    none (z ∷ zs) h = absurd (omega (arith, h))

    lengths : (a b : List Item) → length a ≡ 0 → length b ≡ 0 → (a ≡ []) × (b ≡ [])
    lengths a b h k = (none a h, none b k)

pub whole_one : OneReading → (bytes : List ℕ) (field : FieldId) (items : List Item) (from : ℕ) (value : Span) (to : ℕ) →
    IsObject items bytes → Locates bytes field items (Found from value to) → IsField bytes field →
    (from ≡ 0) × (to ≡ length bytes)
whole_one one bytes field items from value to object (before, after, cuts, whole, order, within, exact) (own, is) =
    let x : Item = record { field = field; value = own } in
    let y : Item = record { field = field; value = part bytes value.from value.to } in
    let none : (before ≡ []) × (after ≡ []) =
    cut_one x before y after (same_fields one (x ∷ []) items bytes is object ∙ whole) in (
      omega (
        arith,
        ap length cuts.front,
        length-take from bytes,
        ap (λ l. length (spell l)) none.0,
        cuts.order,
        cuts.within,
      ),
      omega (arith, ap length cuts.rest, length-drop to bytes, ap (λ l. length (spell l)) none.1, cuts.within),
    )

one_absent : (x : Item) (a b : List Item) → x ∷ [] ≡ a ++ b → AllBelow (number x.field) a →
    AllAbove (number x.field) b → ⊥
one_absent x [] [] e below above = absurd (omega (arith, ap length e))
one_absent x [] (y ∷ b) e below above =
    let same : number x.field ≡ number y.field = ap number_first e in omega (arith, above.0, same)
  where
    number_first : List Item → ℕ
    number_first [] = 0
    number_first (z ∷ zs) = number z.field
one_absent x (y ∷ a) b e below above =
    let same : number x.field ≡ number y.field = ap number_first e in omega (arith, below.0, same)
  where
    number_first : List Item → ℕ
    number_first [] = 0
    number_first (z ∷ zs) = number z.field

pub absent_one : OneReading → (bytes : List ℕ) (field : FieldId) (items : List Item) (at : ℕ) → IsObject items bytes →
    Locates bytes field items (Absent at) → IsField bytes field → ⊥
absent_one one bytes field items at object (before, after, cuts, whole) (own, is) =
    let x : Item = record { field = field; value = own } in
    one_absent x before after (same_fields one (x ∷ []) items bytes is object ∙ whole) cuts.below cuts.above

pub has_fields : (bytes : List ℕ) (field : FieldId) → IsField bytes field → HasFields bytes
has_fields bytes field (value, is) = (record { field = field; value = value } ∷ [], is)
