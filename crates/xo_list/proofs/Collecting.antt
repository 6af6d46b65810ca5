-- The loop that collects the spans of fields.
use Rattle.std.proofs.Common.{◌≡◌, ℕ, ◌+◌, ◌≤◌, true, false, List, [], ◌∷◌, ◌++◌, length, drop, refl, sym, ap, subst}
use Rattle.std.proofs.Common.{◌∙◌, arith, append_assoc, append-nil, inl, inr, All, Some}
use Rattle.std.proofs.lemmas.List.{map-append}
use Rattle.std.proofs.lemmas.List.Elements.{All-push}
use Rattle.xo_fields.specs.declared.field.FieldId.{FieldId}
use Rattle.xo_fields.specs.declared.form.Form.{Form}
use Rattle.xo_fields.specs.Field.{number}
use Rattle.xo_list.specs.declared.fault.ObjectFault.{ObjectFault}
use Rattle.xo_list.specs.declared.skip.Place.{Place}
use Rattle.xo_list.specs.declared.skip.Place.TheVariants.{Fields, Elements}
use Rattle.xo_list.specs.Collected.{Collects}
use Rattle.xo_list.specs.declared.span.Span.{Span}
use Rattle.xo_list.specs.Item.{Item, lead, spell}
use Rattle.xo_list.specs.Value.{Head, IsValue, IsArray}
use Rattle.xo_list.specs.Fault.{is_array, IsEnd, IsNoEnd, HeadFails, BodyFails, Outcome, ends, fails, Comes, Reads}
use Rattle.xo_list.specs.Span.{part, item_of, items_of, value_span, places, InOrder, InRange, IsRead, Valued}
use Rattle.xo_list.proofs.Parts.{asks_less}
use Rattle.xo_list.proofs.Leads.{field_stands}
use Rattle.xo_list.proofs.Placing.{places-append, spell_sum, order_more, order_wider, value_stands}

-- these fields stand before this place, and lead to the same outcome
pub record LeadsTo (room : ℕ) (place : Place) (front : List Item) (last : ℕ) (here whole : List ℕ) : Type 0 where
  pub lead : (outcome : Outcome) (items : List Item) →
      Comes (IsValue room) (BodyFails room) place last items here outcome →
      Comes (IsValue room) (BodyFails room) place 0 (front ++ items) whole outcome

pub record Collected (room : ℕ) (place : Place) (bytes : List ℕ) (spans : List (FieldId × Span))
    (last at : ℕ) : Type 0 where
  pub within : at ≤ length bytes
  pub leads : LeadsTo room place (items_of bytes spans) last (drop at bytes) bytes
  pub ranges : All (InRange bytes) spans
  pub exact : spans ≡ places 0 (items_of bytes spans)
  pub front : at ≡ length (spell (items_of bytes spans))
  pub order : InOrder 0 at spans

pub collected_none : (room : ℕ) (place : Place) (bytes : List ℕ) → Collected room place bytes [] 0 0
collected_none room place bytes = record {
  within = omega arith;
  leads = record { lead = λ outcome items h. h };
  ranges = λ k d h. absurd (omega arith);
  exact = refl;
  front = refl;
  order = omega arith;
}

pub collected_more : (room : ℕ) (place : Place) (bytes : List ℕ) (spans : List (FieldId × Span)) (last at : ℕ)
    (f : FieldId) (form : Form) (start : ℕ) (span : Span) (next : ℕ) → Collected room place bytes spans last at →
    Head (is_array place) last f form (drop at bytes) (drop start bytes) →
    Valued room form (drop start bytes) (part bytes span.from span.to) (drop next bytes) → start ≤ length bytes →
    span.from ≤ span.to → span.to ≤ next → next ≤ length bytes →
    span.from ≡ start + length (lead (Some form) (part bytes span.from span.to)) →
    Collected room place bytes (spans ++ (f, span) ∷ []) (number f) next
collected_more room place bytes spans last at f form start span next c h v here order behind there place_is =
    let x : Item = item_of bytes (f, span) in
    let front : List Item = items_of bytes spans in
    let more : items_of bytes (spans ++ (f, span) ∷ []) ≡ front ++ x ∷ [] =
    map-append (item_of bytes) spans ((f, span) ∷ []) in
    let stands : (span ≡ value_span at x) × (next ≡ at + length (spell (x ∷ []))) =
    value_stands (is_array place) room last f form bytes at start span next h v c.within here there order
    (omega (arith, behind, there)) place_is in
    let from : at ≡ 0 + length (spell front) = omega (arith, c.front) in
    record {
      within = there;
      leads = record {
        lead = λ outcome items r.
            subst (λ xs. Comes (IsValue room) (BodyFails room) place 0 xs bytes outcome)
            (sym (append_assoc front (x ∷ []) items) ∙ ap (λ xs. xs ++ items) (sym more))
            (c.leads.lead outcome (x ∷ items) (
              drop next bytes,
              field_stands (is_array place) room last f form (drop at bytes) (drop start bytes)
                  (part bytes span.from span.to) (drop next bytes) h v,
              r,
            ));
      };
      ranges = All-push (InRange bytes) spans (f, span) c.ranges (order, omega (arith, behind, there));
      exact =
          ap (λ t. t ++ (f, span) ∷ []) c.exact
          ∙ ap (λ s. places 0 front ++ (f, s) ∷ []) stands.0
          ∙ ap (λ n. places 0 front ++ (f, value_span n x) ∷ []) from
          ∙ sym (places-append 0 front (x ∷ []))
          ∙ ap (places 0) (sym more);
      front = omega (arith, stands.1, c.front, ap (λ xs. length (spell xs)) more, spell_sum front (x ∷ []));
      order =
          order_more 0 at next spans (f, span) c.order (omega (arith, ap (λ (s : Span). s.from) stands.0)) order behind;
    }

-- the ways to stop
pub collected_all : (room : ℕ) (place : Place) (bytes : List ℕ) (spans : List (FieldId × Span)) (last at : ℕ)
    (rest : List ℕ) → Collected room place bytes spans last at → IsEnd place (drop at bytes) rest →
    Collects room place bytes spans
collected_all room place bytes spans last at rest c e =
    record {
      comes = (
        rest,
        subst (λ xs. Comes (IsValue room) (BodyFails room) place 0 xs bytes (ends rest))
            (append-nil (items_of bytes spans)) (c.leads.lead (ends rest) [] e),
      );
      exact = c.exact;
      order = order_wider 0 at (length bytes) spans c.order c.within;
      ranges = c.ranges;
    }

pub collected_head_fails : (room : ℕ) (place : Place) (bytes : List ℕ) (spans : List (FieldId × Span)) (last at : ℕ)
    (fault : ObjectFault) → Collected room place bytes spans last at → IsNoEnd place (drop at bytes) →
    HeadFails (is_array place) last (drop at bytes) fault → Reads room place 0 bytes (fails fault)
collected_head_fails room place bytes spans last at fault c more h =
    (items_of bytes spans ++ [], c.leads.lead (fails fault) [] (more, inl h))

pub collected_body_fails : (room : ℕ) (place : Place) (bytes : List ℕ) (spans : List (FieldId × Span)) (last at : ℕ)
    (f : FieldId) (form : Form) (tail : List ℕ) (fault : ObjectFault) → Collected room place bytes spans last at →
    IsNoEnd place (drop at bytes) → Head (is_array place) last f form (drop at bytes) tail →
    BodyFails room form tail fault → Reads room place 0 bytes (fails fault)
collected_body_fails room place bytes spans last at f form tail fault c more h b =
    (items_of bytes spans ++ [], c.leads.lead (fails fault) [] (more, inr (f, form, tail, h, b)))

-- an object's and an array's
pub object_read : (bytes : List ℕ) (spans : List (FieldId × Span)) → Collects 10 Fields bytes spans → IsRead bytes spans
object_read bytes spans c = record {
  object = asks_less (IsValue 10) false _ _ (λ n rest h. h.0) 0 (items_of bytes spans) bytes c.comes.1;
  exact = c.exact;
  order = c.order;
  ranges = c.ranges;
}

pub array_read : (bytes : List ℕ) (spans : List (FieldId × Span)) → Collects 9 Elements bytes spans →
    IsArray (items_of bytes spans) bytes
array_read bytes spans c = asks_less (IsValue 9) true _ _ (λ n rest h. h.0) 0 (items_of bytes spans) bytes c.comes.1
