-- Where values stand.
use Rattle.std.proofs.Common.{◌≡◌, ℕ, ◌+◌, ◌-◌, ◌≤◌, Bool, true, false, List, [], ◌∷◌, ◌++◌, length, drop, refl, sym}
use Rattle.std.proofs.Common.{ap, ◌∙◌, arith, append_assoc, append-nil, length-append, length-take, length-drop, Some}
use Rattle.std.proofs.Common.{None, if◌then◌else◌}
use Rattle.std.proofs.lemmas.Bool.Decides.{nat_tests}
use Rattle.xo_fields.specs.declared.field.FieldId.{FieldId}
use Rattle.xo_fields.specs.declared.form.Form.{Form}
use Rattle.xo_fields.specs.Field.{number}
use Rattle.xo_fields.specs.Form.{form_at}
use Rattle.xo_fields.specs.Header.{header}
use Rattle.xo_list.specs.declared.span.Span.{Span}
use Rattle.xo_list.specs.Item.{Item, body, body_of, lead, opening, spell, is_same}
use Rattle.xo_list.specs.Located.{AllBelow, AllAbove}
use Rattle.xo_list.specs.Span.{part, value_span, places, place_of, InOrder, Valued}
use Rattle.xo_list.specs.Value.{Head}
use Rattle.xo_list.proofs.Cuts.{same_itself}

pub spell-append : (a b : List Item) → spell (a ++ b) ≡ spell a ++ spell b
spell-append [] b = refl
spell-append (x ∷ xs) b =
    ap (λ t. header x.field ++ (body_of (form_at x.field.kind) x.value ++ t)) (spell-append xs b)
    ∙ ap (λ t. header x.field ++ t) (sym (append_assoc (body_of (form_at x.field.kind) x.value) (spell xs) (spell b)))
    ∙ sym (append_assoc (header x.field) (body_of (form_at x.field.kind) x.value ++ spell xs) (spell b))

pub spell_sum : (a b : List Item) → length (spell (a ++ b)) ≡ length (spell a) + length (spell b)
spell_sum a b = ap length (spell-append a b) ∙ length-append (spell a) (spell b)

-- places of two lists, one behind the other
pub places-append : (at : ℕ) (a b : List Item) → places at (a ++ b) ≡ places at a ++ places (at + length (spell a)) b
places-append at [] b = let same : at ≡ at + 0 = omega arith in ap (λ n. places n b) same
places-append at (x ∷ xs) b =
    let next : ℕ = at + length (spell (x ∷ [])) in
    let sum : next + length (spell xs) ≡ at + length (spell (x ∷ xs)) = omega (arith, spell_sum (x ∷ []) xs) in
    ap (λ s. (x.field, value_span at x) ∷ s) (places-append next xs b ∙ ap (λ n. places next xs ++ places n b) sum)

-- one span more
pub order_more : (low here high : ℕ) (spans : List (FieldId × Span)) (s : FieldId × Span) → InOrder low here spans →
    here ≤ s.1.from → s.1.from ≤ s.1.to → s.1.to ≤ high → InOrder low high (spans ++ s ∷ [])
order_more low here high [] s h before order after = (omega (arith, h, before), order, after)
order_more low here high (t ∷ ts) s (h, k, r) before order after =
    (h, k, order_more t.1.to here high ts s r before order after)

pub order_wider : (low here high : ℕ) (spans : List (FieldId × Span)) → InOrder low here spans → here ≤ high →
    InOrder low high spans
order_wider low here high [] h le = omega (arith, h, le)
order_wider low here high (s ∷ spans) (h, k, r) le = (h, k, order_wider s.1.to here high spans r le)

same_span : (s : Span) (from to : ℕ) → s.from ≡ from → s.to ≡ to → s ≡ record { from = from; to = to }
same_span s from to e k = ap (λ n. made n s.to) e ∙ ap (λ n. made from n) k
  where
    made : ℕ → ℕ → Span
    made a b = record { from = a; to = b }

-- a value that was passed over stands in its place, and the next field behind it
pub value_stands : (array : Bool) (room last : ℕ) (f : FieldId) (form : Form) (bytes : List ℕ) (at start : ℕ)
    (span : Span) (next : ℕ) → Head array last f form (drop at bytes) (drop start bytes) →
    Valued room form (drop start bytes) (part bytes span.from span.to) (drop next bytes) → at ≤ length bytes →
    start ≤ length bytes → next ≤ length bytes → span.from ≤ span.to → span.to ≤ length bytes →
    span.from ≡ start + length (lead (Some form) (part bytes span.from span.to)) →
    (span ≡ value_span at (record { field = f; value = part bytes span.from span.to }))
    × (next ≡ at + length (spell (record { field = f; value = part bytes span.from span.to } ∷ [])))
value_stands array room last f form bytes at start span next h v here there later order within place =
    let value : List ℕ = part bytes span.from span.to in
    let x : Item = record { field = f; value = value } in
    let head : start ≡ at + length (header f) =
    omega (
      arith,
      ap length h.whole,
      length-append (header f) (drop start bytes),
      length-drop at bytes,
      length-drop start bytes,
    ) in
    let size : length value ≡ span.to - span.from =
    omega (arith, length-take (span.to - span.from) (drop span.from bytes), length-drop span.from bytes) in
    let front : span.from ≡ at + length (opening x) =
    omega (
      arith,
      head,
      place,
      length-append (header f) (lead (form_at f.kind) value),
      ap (λ o. length (lead o value)) h.known,
    ) in
    let end : span.to ≡ at + length (opening x) + length value = omega (arith, front, size, order) in
    let whole : next ≡ start + length (body form value) =
    omega (
      arith,
      ap length v.whole,
      length-append (body form value) (drop next bytes),
      length-drop start bytes,
      length-drop next bytes,
    ) in
    let spelled : length (spell (x ∷ [])) ≡ length (header f) + length (body form value) =
    length-append (header f) (body_of (form_at f.kind) value ++ [])
    ∙ ap (λ b. length (header f) + length b)
    (append-nil (body_of (form_at f.kind) value) ∙ ap (λ o. body_of o value) h.known) in (
      same_span span (at + length (opening x)) (at + length (opening x) + length value) front end,
      omega (arith, head, whole, spelled),
    )

-- the place of a field among fields that are below and above it
pub place_below : (f : FieldId) (at : ℕ) (a b : List Item) → AllBelow (number f) a →
    place_of f (places at (a ++ b)) ≡ place_of f (places (at + length (spell a)) b)
place_below f at [] b h = let same : at ≡ at + 0 = omega arith in ap (λ n. place_of f (places n b)) same
place_below f at (x ∷ xs) b h =
    let next : ℕ = at + length (spell (x ∷ [])) in
    let sum : next + length (spell xs) ≡ at + length (spell (x ∷ xs)) = omega (arith, spell_sum (x ∷ []) xs) in
    other (is_same x.field f) refl ∙ place_below f next xs b h.1 ∙ ap (λ n. place_of f (places n b)) sum
  where
    other : (same : Bool) → is_same x.field f ≡ same →
        (if same then Some (value_span at x) else place_of f (places (at + length (spell (x ∷ []))) (xs ++ b)))
        ≡ place_of f (places (at + length (spell (x ∷ []))) (xs ++ b))
    other true e = absurd (grind (arith, nat_tests, h.0))
    other false e = refl

pub place_above : (f : FieldId) (at : ℕ) (b : List Item) → AllAbove (number f) b → place_of f (places at b) ≡ None
place_above f at [] h = refl
place_above f at (x ∷ xs) h = other (is_same x.field f) refl ∙ place_above f (at + length (spell (x ∷ []))) xs h.1
  where
    other : (same : Bool) → is_same x.field f ≡ same →
        (if same then Some (value_span at x) else place_of f (places (at + length (spell (x ∷ []))) xs))
        ≡ place_of f (places (at + length (spell (x ∷ []))) xs)
    other true e = absurd (grind (arith, nat_tests, h.0))
    other false e = refl

pub place_first : (f : FieldId) (at : ℕ) (value : List ℕ) (b : List Item) →
    place_of f (places at (record { field = f; value = value } ∷ b))
    ≡ Some (value_span at (record { field = f; value = value }))
place_first f at value b =
    let x : Item = record { field = f; value = value } in
    ap (λ same. if same then Some (value_span at x) else place_of f (places (at + length (spell (x ∷ []))) b))
    (same_itself f)
