-- The loops that look for a field, and pass over elements.
use Rattle.std.proofs.Common.{◌≡◌, ℕ, ◌+◌, ◌-◌, ◌<◌, ◌≤◌, Bool, true, false, List, [], ◌∷◌, ◌++◌, length, take, drop}
use Rattle.std.proofs.Common.{refl, sym, ap, subst, ◌∙◌, arith, append_assoc, append-nil, length-append, length-take}
use Rattle.std.proofs.Common.{length-drop, inl, inr, Some, None, ◌⊎◌}
use Rattle.std.specs.Prelude.{slice_get}
use Rattle.std.proofs.lemmas.Bool.Decides.{nat_tests}
use Rattle.std.proofs.lemmas.List.{drop_all, take_at}
use Rattle.std.proofs.Math.Seq.{take-add}
use Rattle.xo_fields.specs.declared.field.FieldId.{FieldId}
use Rattle.xo_fields.specs.declared.form.Form.{Form}
use Rattle.xo_fields.specs.Field.{number}
use Rattle.xo_fields.specs.Header.{header}
use Rattle.xo_fields.specs.Laws.{OneHeader}
use Rattle.xo_list.specs.declared.fault.ObjectFault.{ObjectFault}
use Rattle.xo_list.specs.declared.find.Located.TheVariants.{Found, Absent}
use Rattle.xo_list.specs.declared.find.Passed.{Passed}
use Rattle.xo_list.specs.declared.span.Span.{Span}
use Rattle.xo_list.specs.Item.{Item, body, body_of, lead, spell, lookup}
use Rattle.xo_list.specs.Value.{Head, Stands, Goes, IsValue, IsObject, IsArray}
use Rattle.xo_list.specs.Fault.{HeadFails, BodyFails}
use Rattle.xo_list.specs.Span.{part, value_span, places, place_of, Valued, FindsElement, FindsValue}
use Rattle.xo_list.specs.Located.{AllBelow, AllAbove, Locates, Passes}
use Rattle.xo_list.specs.Laws.{OneField}
use Rattle.xo_list.proofs.Cuts.{same_field, AllBelow-append, lookup_at, lookup_absent}
use Rattle.xo_list.proofs.Leads.{field_stands}
use Rattle.xo_list.proofs.ListLemmas.{listed}
use Rattle.xo_list.proofs.Placing.{spell-append, spell_sum, value_stands, place_below, place_above, place_first}

-- fields that rise from a number on are above it
rising_above : (fits : Form → List ℕ → Type 0) (n last : ℕ) (items : List Item) (bytes : List ℕ) → n ≤ last →
    Goes fits false last items bytes (λ _ rest. rest ≡ []) → AllAbove n items
rising_above fits n last [] bytes le h = tt
rising_above fits n last (x ∷ xs) bytes le (tail, s, h) =
    let above : last < number x.field = s.head.allowed in
    (omega arith, rising_above fits n (number x.field) xs tail (omega arith) h)

-- one field that stands there, as it is spelled
spelled_one : (fits : Form → List ℕ → Type 0) (array : Bool) (last : ℕ) (x : Item) (here tail : List ℕ) →
    Stands fits array last x here tail → here ≡ spell (x ∷ []) ++ tail
spelled_one fits array last x here tail s =
    s.head.whole ∙ ap (λ o. header x.field ++ (body_of o x.value ++ tail)) (sym s.head.known)
    ∙ ap (λ t. header x.field ++ (t ++ tail)) (sym (append-nil (body_of _ x.value)))
    ∙ sym (append_assoc (header x.field) (body_of _ x.value ++ []) tail)

-- a part of the bytes is what stands between two rests
between : (bytes front : List ℕ) (at next : ℕ) → at ≤ length bytes → next ≤ length bytes →
    drop at bytes ≡ front ++ drop next bytes → (at ≤ next) × (part bytes at next ≡ front)
between bytes front at next within there e =
    let l : length bytes - at ≡ length front + (length bytes - next) =
    omega (arith, ap length e, length-append front (drop next bytes), length-drop at bytes, length-drop next bytes) in
    let k : next - at ≡ length front = omega arith in (
      omega arith,
      ap (λ n. take n (drop at bytes)) k
          ∙ ap (take (length front)) e
          ∙ take_at front (drop next bytes) (length front) refl,
    )

-- where what stands behind a front begins
next_place : (bytes front : List ℕ) (at next : ℕ) → at ≤ length bytes → next ≤ length bytes →
    drop at bytes ≡ front ++ drop next bytes → next ≡ at + length front
next_place bytes front at next within there e =
    omega (arith, ap length e, length-append front (drop next bytes), length-drop at bytes, length-drop next bytes)

left_some : (fits : Form → List ℕ → Type 0) (array : Bool) (last : ℕ) (after : List Item) (here : List ℕ) →
    0 < length here → Goes fits array last after here (λ _ rest. rest ≡ []) →
    (x : Item) × (xs : List Item) × (tail : List ℕ) × (after ≡ x ∷ xs) × Stands fits array last x here tail
    × Goes fits array (number x.field) xs tail (λ _ rest. rest ≡ [])
left_some fits array last [] here some h = absurd (omega (arith, ap length h))
left_some fits array last (x ∷ xs) here some (tail, s, h) = (x, xs, tail, refl, s, h)

left_none : (fits : Form → List ℕ → Type 0) (array : Bool) (last : ℕ) (after : List Item) (here : List ℕ) → here ≡ [] →
    Goes fits array last after here (λ _ rest. rest ≡ []) → after ≡ []
left_none fits array last [] here none h = refl
left_none fits array last (x ∷ xs) here none (tail, s, h) =
    absurd (no_header x.field (body s.form x.value ++ tail) (sym s.head.whole ∙ none))
  where
    no_header : (f : FieldId) (y : List ℕ) → header f ++ y ≡ [] → ⊥
    no_header f y e = grind (arith, length-append (header f) y, ap length e)

-- the fields before this place are below the field
pub record Behind (bytes : List ℕ) (field : FieldId) (items : List Item) (last at : ℕ) : Type 0 where
  pub before : List Item
  pub after : List Item
  pub whole : items ≡ before ++ after
  pub stands : Goes (IsValue 10) false last after (drop at bytes) (λ _ rest. rest ≡ [])
  pub below : AllBelow (number field) before
  pub front : take at bytes ≡ spell before
  pub within : at ≤ length bytes

pub behind_none : (bytes : List ℕ) (field : FieldId) (items : List Item) → IsObject items bytes →
    Behind bytes field items 0 0
behind_none bytes field items h = record {
  before = [];
  after = items;
  whole = refl;
  stands = h;
  below = tt;
  front = refl;
  within = omega arith;
}

-- what stands at the front where a header was read
pub record Next (bytes : List ℕ) (items : List Item) (last at : ℕ) (x : Item) (xs : List Item)
    (tail : List ℕ) : Type 0 where
  pub stands : Stands (IsValue 10) false last x (drop at bytes) tail
  pub more : Goes (IsValue 10) false (number x.field) xs tail (λ _ rest. rest ≡ [])

some_left : (bytes : List ℕ) (at : ℕ) → at < length bytes → 0 < length (drop at bytes)
some_left bytes at h = omega (arith, length-drop at bytes)

pub no_head_fault : OneField →
    (bytes : List ℕ) (field : FieldId) (items : List Item) (last at : ℕ) (fault : ObjectFault) →
    Behind bytes field items last at → at < length bytes → HeadFails false last (drop at bytes) fault → ⊥
no_head_fault one bytes field items last at fault b more h =
    let n : _ = left_some (IsValue 10) false last b.after (drop at bytes) (some_left bytes at more) b.stands in
    (one 10 false last (drop at bytes) n.0 n.2 n.4).1 fault (inl h)

pub no_body_fault : OneField →
    (bytes : List ℕ) (field : FieldId) (items : List Item) (last at : ℕ) (f : FieldId) (form : Form) (tail : List ℕ)
    (fault : ObjectFault) → Behind bytes field items last at → at < length bytes →
    Head false last f form (drop at bytes) tail → BodyFails 10 form tail fault → ⊥
no_body_fault one bytes field items last at f form tail fault b more h k =
    let n : _ = left_some (IsValue 10) false last b.after (drop at bytes) (some_left bytes at more) b.stands in
    (one 10 false last (drop at bytes) n.0 n.2 n.4).1 fault (inr (f, form, tail, h, k))

-- the field would stand before the next
pub absent_before : OneHeader →
    (bytes : List ℕ) (field : FieldId) (items : List Item) (last at : ℕ) (f : FieldId) (form : Form) (tail : List ℕ) →
    Behind bytes field items last at → at < length bytes →
    Head false last f form (drop at bytes) tail → number field < number f → Locates bytes field items (Absent at)
absent_before one bytes field items last at f form tail b more h less =
    let n : _ = left_some (IsValue 10) false last b.after (drop at bytes) (some_left bytes at more) b.stands in
    let s : Stands (IsValue 10) false last n.0 (drop at bytes) n.2 = n.4 in
    let same : n.0.field ≡ f =
    (one n.0.field f (body s.form n.0.value ++ n.2) tail s.head.is h.is (sym s.head.whole ∙ h.whole)).0 in
    let less_there : number field < number n.0.field = omega (arith, ap number same) in
    let above : AllAbove (number field) n.1 =
    rising_above (IsValue 10) (number field) (number n.0.field) n.1 n.2 (omega arith) n.5 in (
      b.before,
      b.after,
      record {
        below = b.below;
        above = subst (AllAbove (number field)) (sym n.3) (less_there, above);
        front = b.front;
        rest = (listed (IsValue 10) false last b.after (drop at bytes) b.stands).1;
        order = omega arith;
        within = b.within;
      },
      b.whole,
    )

pub absent_at_end : (bytes : List ℕ) (field : FieldId) (items : List Item) (last at : ℕ) →
    Behind bytes field items last at → length bytes ≤ at → Locates bytes field items (Absent at)
absent_at_end bytes field items last at b past =
    let none : b.after ≡ [] =
    left_none (IsValue 10) false last b.after (drop at bytes) (drop_all at bytes past) b.stands in (
      b.before,
      b.after,
      record {
        below = b.below;
        above = subst (AllAbove (number field)) (sym none) tt;
        front = b.front;
        rest = (listed (IsValue 10) false last b.after (drop at bytes) b.stands).1;
        order = omega arith;
        within = b.within;
      },
      b.whole,
    )

-- the item that was passed over is the next
next_is : OneField →
    (bytes : List ℕ) (field : FieldId) (items : List Item) (last at : ℕ) (f : FieldId) (form : Form)
    (tail value : List ℕ) (next : ℕ) → (b : Behind bytes field items last at) → at < length bytes →
    Head false last f form (drop at bytes) tail → Valued 10 form tail value (drop next bytes) →
    (xs : List Item) × (b.after ≡ record { field = f; value = value } ∷ xs)
    × Stands (IsValue 10) false last (record { field = f; value = value }) (drop at bytes) (drop next bytes)
    × Goes (IsValue 10) false (number f) xs (drop next bytes) (λ _ rest. rest ≡ [])
next_is one bytes field items last at f form tail value next b more h v =
    let n : _ = left_some (IsValue 10) false last b.after (drop at bytes) (some_left bytes at more) b.stands in
    let t : Stands (IsValue 10) false last (record { field = f; value = value }) (drop at bytes) (drop next bytes) =
    field_stands false 10 last f form (drop at bytes) tail value (drop next bytes) h v in
    let same : (n.0 ≡ record { field = f; value = value }) × (n.2 ≡ drop next bytes) =
    (one 10 false last (drop at bytes) n.0 n.2 n.4).0 (record { field = f; value = value }) (drop next bytes) t in (
      n.1,
      n.3 ∙ ap (λ x. x ∷ n.1) same.0,
      t,
      subst (λ r. Goes (IsValue 10) false (number f) n.1 r (λ _ rest. rest ≡ [])) same.1
          (subst (λ (x : Item). Goes (IsValue 10) false (number x.field) n.1 n.2 (λ _ rest. rest ≡ [])) same.0 n.5),
    )

pub found_here : OneField →
    (bytes : List ℕ) (field : FieldId) (items : List Item) (last at : ℕ) (f : FieldId) (form : Form) (start : ℕ)
    (span : Span) (next : ℕ) → Behind bytes field items last at → at < length bytes →
    Head false last f form (drop at bytes) (drop start bytes) →
    Valued 10 form (drop start bytes) (part bytes span.from span.to) (drop next bytes) → start ≤ length bytes →
    span.from ≤ span.to → span.to ≤ length bytes → next ≤ length bytes →
    span.from ≡ start + length (lead (Some form) (part bytes span.from span.to)) → field.code < 256 →
    number field ≡ number f → Locates bytes field items (Found at span next)
found_here one bytes field items last at f form start span next b more h v here order within there place_is small e =
    let n : _ =
    next_is one bytes field items last at f form (drop start bytes) (part bytes span.from span.to) next b more h v in
    let same : f ≡ field = same_field f field h.is.code_byte small (sym e) in
    let place : (at ≤ next)
    × (part bytes at next ≡ spell (record { field = f; value = part bytes span.from span.to } ∷ [])) =
    between bytes (spell (record { field = f; value = part bytes span.from span.to } ∷ [])) at next b.within there
    (spelled_one (IsValue 10) false last (record { field = f; value = part bytes span.from span.to }) (drop at bytes)
    (drop next bytes) n.2) in (
      b.before,
      n.0,
      record {
        below = b.below;
        above = rising_above (IsValue 10) (number field) (number f) n.0 (drop next bytes) (omega arith) n.3;
        front = b.front;
        rest = (listed (IsValue 10) false (number f) n.0 (drop next bytes) n.3).1;
        order = place.0;
        within = there;
      },
      b.whole
          ∙ ap (λ xs. b.before ++ xs)
          (n.1 ∙ ap (λ g. record { field = g; value = part bytes span.from span.to } ∷ n.0) same),
      order,
      within,
      (value_stands false 10 last f form bytes at start span next h v b.within here there order within place_is).0
          ∙ ap (λ g. value_span at (record { field = g; value = part bytes span.from span.to })) same,
    )

pub behind_more : OneField →
    (bytes : List ℕ) (field : FieldId) (items : List Item) (last at : ℕ) (f : FieldId) (form : Form)
    (tail value : List ℕ) (next : ℕ) → Behind bytes field items last at → at < length bytes →
    Head false last f form (drop at bytes) tail → Valued 10 form tail value (drop next bytes) → next ≤ length bytes →
    number f < number field → Behind bytes field items (number f) next
behind_more one bytes field items last at f form tail value next b more h v there less =
    let n : _ = next_is one bytes field items last at f form tail value next b more h v in
    let x : Item = record { field = f; value = value } in
    let place : (at ≤ next) × (part bytes at next ≡ spell (x ∷ [])) =
    between bytes (spell (x ∷ [])) at next b.within there
    (spelled_one (IsValue 10) false last x (drop at bytes) (drop next bytes) n.2) in
    let sum : next ≡ at + (next - at) = omega (arith, place.0) in
    record {
      before = b.before ++ x ∷ [];
      after = n.0;
      whole = b.whole ∙ ap (λ xs. b.before ++ xs) n.1 ∙ sym (append_assoc b.before (x ∷ []) n.0);
      stands = n.3;
      below = AllBelow-append (number field) b.before (x ∷ []) b.below (less, tt);
      front =
          ap (λ m. take m bytes) sum
          ∙ take-add at (next - at) bytes
          ∙ ap (λ t. t ++ part bytes at next) b.front
          ∙ ap (λ t. spell b.before ++ t) place.1
          ∙ sym (spell-append b.before (x ∷ []));
      within = there;
    }

-- elements may come after any
any_last : (fits : Form → List ℕ → Type 0) (last other : ℕ) (items : List Item) (bytes : List ℕ) →
    Goes fits true last items bytes (λ _ rest. rest ≡ []) → Goes fits true other items bytes (λ _ rest. rest ≡ [])
any_last fits last other [] bytes h = h
any_last fits last other (x ∷ xs) bytes (tail, s, h) = (
  tail,
  record {
    form = s.form;
    value = s.value;
    head = record { is = s.head.is; known = s.head.known; whole = s.head.whole; allowed = s.head.allowed };
  },
  h,
)

-- so many elements stand before this place
pub record Before (bytes : List ℕ) (elements : List Item) (count at : ℕ) : Type 0 where
  pub before : List Item
  pub after : List Item
  pub whole : elements ≡ before ++ after
  pub number : length before ≡ count
  pub stands : Goes (IsValue 9) true 0 after (drop at bytes) (λ _ rest. rest ≡ [])
  pub front : at ≡ length (spell before)
  pub within : at ≤ length bytes

pub before_none : (bytes : List ℕ) (elements : List Item) → IsArray elements bytes → Before bytes elements 0 0
before_none bytes elements h = record {
  before = [];
  after = elements;
  whole = refl;
  number = refl;
  stands = h;
  front = refl;
  within = omega arith;
}

pub no_element_head_fault : OneField → (bytes : List ℕ) (elements : List Item) (count at : ℕ) (fault : ObjectFault) →
    Before bytes elements count at → at < length bytes → HeadFails true 0 (drop at bytes) fault → ⊥
no_element_head_fault one bytes elements count at fault b more h =
    let n : _ = left_some (IsValue 9) true 0 b.after (drop at bytes) (some_left bytes at more) b.stands in
    (one 9 true 0 (drop at bytes) n.0 n.2 n.4).1 fault (inl h)

pub no_element_body_fault : OneField →
    (bytes : List ℕ) (elements : List Item) (count at : ℕ) (f : FieldId) (form : Form) (tail : List ℕ)
    (fault : ObjectFault) → Before bytes elements count at → at < length bytes →
    Head true 0 f form (drop at bytes) tail → BodyFails 9 form tail fault → ⊥
no_element_body_fault one bytes elements count at f form tail fault b more h k =
    let n : _ = left_some (IsValue 9) true 0 b.after (drop at bytes) (some_left bytes at more) b.stands in
    (one 9 true 0 (drop at bytes) n.0 n.2 n.4).1 fault (inr (f, form, tail, h, k))

-- the element that was passed over is the next
element_is : OneField →
    (bytes : List ℕ) (elements : List Item) (count at : ℕ) (f : FieldId) (form : Form) (tail value : List ℕ)
    (next : ℕ) → (b : Before bytes elements count at) → at < length bytes →
    Head true 0 f form (drop at bytes) tail → Valued 9 form tail value (drop next bytes) →
    (xs : List Item) × (b.after ≡ record { field = f; value = value } ∷ xs)
    × Stands (IsValue 9) true 0 (record { field = f; value = value }) (drop at bytes) (drop next bytes)
    × Goes (IsValue 9) true 0 xs (drop next bytes) (λ _ rest. rest ≡ [])
element_is one bytes elements count at f form tail value next b more h v =
    let n : _ = left_some (IsValue 9) true 0 b.after (drop at bytes) (some_left bytes at more) b.stands in
    let t : Stands (IsValue 9) true 0 (record { field = f; value = value }) (drop at bytes) (drop next bytes) =
    field_stands true 9 0 f form (drop at bytes) tail value (drop next bytes) h v in
    let same : (n.0 ≡ record { field = f; value = value }) × (n.2 ≡ drop next bytes) =
    (one 9 true 0 (drop at bytes) n.0 n.2 n.4).0 (record { field = f; value = value }) (drop next bytes) t in (
      n.1,
      n.3 ∙ ap (λ x. x ∷ n.1) same.0,
      t,
      subst (λ r. Goes (IsValue 9) true 0 n.1 r (λ _ rest. rest ≡ [])) same.1
          (any_last (IsValue 9) (number n.0.field) 0 n.1 n.2 n.5),
    )

pub before_more : OneField →
    (bytes : List ℕ) (elements : List Item) (count at : ℕ) (f : FieldId) (form : Form) (tail value : List ℕ)
    (next : ℕ) → Before bytes elements count at → at < length bytes →
    Head true 0 f form (drop at bytes) tail → Valued 9 form tail value (drop next bytes) → next ≤ length bytes →
    Before bytes elements (count + 1) next
before_more one bytes elements count at f form tail value next b more h v there =
    let n : _ = element_is one bytes elements count at f form tail value next b more h v in
    let x : Item = record { field = f; value = value } in
    let size : next ≡ at + length (spell (x ∷ [])) =
    next_place bytes (spell (x ∷ [])) at next b.within there
    (spelled_one (IsValue 9) true 0 x (drop at bytes) (drop next bytes) n.2) in
    record {
      before = b.before ++ x ∷ [];
      after = n.0;
      whole = b.whole ∙ ap (λ xs. b.before ++ xs) n.1 ∙ sym (append_assoc b.before (x ∷ []) n.0);
      number = length-append b.before (x ∷ []) ∙ omega (arith, b.number);
      stands = n.3;
      front = omega (arith, size, b.front, spell_sum b.before (x ∷ []));
      within = there;
    }

pub passes_all : (bytes : List ℕ) (elements : List Item) (count at wanted : ℕ) → Before bytes elements count at →
    count ≤ wanted → at ≡ length bytes → Passes bytes elements wanted (record { count = count; at = at })
passes_all bytes elements count at wanted b le end =
    let none : b.after ≡ [] =
    left_none (IsValue 9) true 0 b.after (drop at bytes) (drop_all at bytes (omega arith)) b.stands in
    (b.before, b.after, b.whole, b.number, le, λ less. none, b.within, b.stands, b.front)

pub passes_enough : (bytes : List ℕ) (elements : List Item) (count at wanted : ℕ) → Before bytes elements count at →
    count ≤ wanted → wanted ≤ count → Passes bytes elements wanted (record { count = count; at = at })
passes_enough bytes elements count at wanted b le enough =
    (b.before, b.after, b.whole, b.number, le, λ less. absurd (omega arith), b.within, b.stands, b.front)

-- an array has fewer elements than bytes
fewer : (after : List Item) (bytes : List ℕ) → Goes (IsValue 9) true 0 after bytes (λ _ rest. rest ≡ []) →
    length after ≤ length bytes
fewer [] bytes h = omega arith
fewer (x ∷ xs) bytes (tail, s, h) =
    let rest : length xs ≤ length tail = fewer xs tail (any_last (IsValue 9) (number x.field) 0 xs tail h) in
    let some : 0 < length (header x.field) = some_header x.field in
    omega (
      arith,
      ap length s.head.whole,
      length-append (header x.field) (body s.form x.value ++ tail),
      length-append (body s.form x.value) tail,
    )
  where
    some_header : (f : FieldId) → 0 < length (header f)
    some_header f = grind (arith, nat_tests)

pub counted : (bytes : List ℕ) (elements : List Item) (passed : Passed) → IsArray elements bytes →
    length bytes < 4294967296 → Passes bytes elements 4294967295 passed → passed.count ≡ length elements
counted bytes elements passed h short p =
    let few : length elements ≤ length bytes = fewer elements bytes h in
    let total : length elements ≡ length p.0 + length p.1 = ap length p.2 ∙ length-append p.0 p.1 in
    either_way (full_or_less passed.count p.4) total p.3 p.5 few
  where
    full_or_less : (n : ℕ) → n ≤ 4294967295 → (n < 4294967295) ⊎ (n ≡ 4294967295)
    full_or_less n le = grind arith

    either_way : (passed.count < 4294967295) ⊎ (passed.count ≡ 4294967295) → length elements ≡ length p.0 + length p.1 →
        length p.0 ≡ passed.count → (passed.count < 4294967295 → p.1 ≡ []) → length elements ≤ length bytes →
        passed.count ≡ length elements
    either_way (inl less) total same none few = omega (arith, ap length (none less))
    either_way (inr full) total same none few = omega arith

pub element_none : (bytes : List ℕ) (elements : List Item) (index : ℕ) (passed : Passed) →
    Passes bytes elements index passed → passed.count < index → length elements ≤ index
element_none bytes elements index passed p less =
    omega (arith, ap length p.2, length-append p.0 p.1, ap length (p.5 less), p.3)

pub element_end : (bytes : List ℕ) (elements : List Item) (index : ℕ) (passed : Passed) →
    Passes bytes elements index passed → passed.at ≡ length bytes → length elements ≤ index
element_end bytes elements index passed p end =
    let none : p.1 ≡ [] =
    left_none (IsValue 9) true 0 p.1 (drop passed.at bytes) (drop_all passed.at bytes (omega arith)) p.7 in
    omega (arith, ap length p.2, length-append p.0 p.1, ap length none, p.3, p.4)

pub before_of : (bytes : List ℕ) (elements : List Item) (index : ℕ) (passed : Passed) →
    Passes bytes elements index passed → Before bytes elements passed.count passed.at
before_of bytes elements index passed p = record {
  before = p.0;
  after = p.1;
  whole = p.2;
  number = p.3;
  stands = p.7;
  front = p.8;
  within = p.6;
}

nth : (a : List Item) (x : Item) (b : List Item) → slice_get (a ++ x ∷ b) (length a) ≡ Some x
nth [] x b = refl
nth (y ∷ ys) x b = nth ys x b

pub element_found : OneField →
    (bytes : List ℕ) (elements : List Item) (index : ℕ) (passed : Passed) (f : FieldId) (form : Form)
    (tail value : List ℕ) (next : ℕ) → Passes bytes elements index passed → index ≤ passed.count →
    passed.at < length bytes →
    Head true 0 f form (drop passed.at bytes) tail → Valued 9 form tail value (drop next bytes) → next ≤ length bytes →
    FindsElement bytes elements index (Some (record { from = passed.at; to = next }))
element_found one bytes elements index passed f form tail value next p enough more h v there =
    let b : Before bytes elements passed.count passed.at = before_of bytes elements index passed p in
    let n : _ = element_is one bytes elements passed.count passed.at f form tail value next b more h v in
    let x : Item = record { field = f; value = value } in
    let place : (passed.at ≤ next) × (part bytes passed.at next ≡ spell (x ∷ [])) =
    between bytes (spell (x ∷ [])) passed.at next b.within there
    (spelled_one (IsValue 9) true 0 x (drop passed.at bytes) (drop next bytes) n.2) in
    let at_index : index ≡ length b.before = omega (arith, p.4, b.number) in
    let front : passed.at ≡ length (spell (take index elements)) =
    b.front
    ∙ ap (λ xs. length (spell xs)) (sym (take_at b.before b.after index (sym at_index)))
    ∙ ap (λ xs. length (spell (take index xs))) (sym b.whole) in (
      place.0,
      there,
      (
        x,
        ap (λ xs. slice_get xs index) (b.whole ∙ ap (λ xs. b.before ++ xs) n.1)
            ∙ ap (λ i. slice_get (b.before ++ x ∷ n.0) i) at_index
            ∙ nth b.before x n.0,
        place.1,
      ),
      front,
    )

-- what is located is what lookup finds
pub found_value : (bytes : List ℕ) (field : FieldId) (items : List Item) (from : ℕ) (value : Span) (to : ℕ) →
    Locates bytes field items (Found from value to) → FindsValue bytes (lookup field items) (Some value)
found_value bytes field items from value to (before, after, cuts, whole, order, within, exact) =
    (order, within, ap (lookup field) whole ∙ lookup_at field (part bytes value.from value.to) before after cuts.below)

pub absent_value : (bytes : List ℕ) (field : FieldId) (items : List Item) (at : ℕ) →
    Locates bytes field items (Absent at) → FindsValue bytes (lookup field items) None
absent_value bytes field items at (before, after, cuts, whole) =
    ap (lookup field) whole ∙ lookup_absent field before after cuts.below cuts.above

pub found_place : (bytes : List ℕ) (field : FieldId) (items : List Item) (from : ℕ) (value : Span) (to : ℕ) →
    Locates bytes field items (Found from value to) → Some value ≡ place_of field (places 0 items)
found_place bytes field items from value to (before, after, cuts, whole, order, within, exact) =
    let v : List ℕ = part bytes value.from value.to in
    let start : from ≡ 0 + length (spell before) =
    omega (arith, cuts.order, cuts.within, ap length cuts.front, length-take from bytes) in
    ap Some exact
    ∙ ap (λ n. Some (value_span n (record { field = field; value = v }))) start
    ∙ sym (place_first field (0 + length (spell before)) v after)
    ∙ sym (place_below field 0 before (record { field = field; value = v } ∷ after) cuts.below)
    ∙ ap (λ xs. place_of field (places 0 xs)) (sym whole)

pub absent_place : (bytes : List ℕ) (field : FieldId) (items : List Item) (at : ℕ) →
    Locates bytes field items (Absent at) → None ≡ place_of field (places 0 items)
absent_place bytes field items at (before, after, cuts, whole) =
    sym (ap (λ xs. place_of field (places 0 xs)) whole
    ∙ place_below field 0 before after cuts.below
    ∙ place_above field (0 + length (spell before)) after cuts.above)
