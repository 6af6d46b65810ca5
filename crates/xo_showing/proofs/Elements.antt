-- The elements of an array, one more at a time.
use Rattle.std.proofs.Common.{◌≡◌, ℕ, zero, suc, ◌<◌, List, [], ◌∷◌, ◌++◌, length, take, drop, ap, arith}
use Rattle.serde_json.specs.Data.{Data, object, Items, no_items, item}
use Rattle.serde_json.specs.View.{view, items_view}
use Rattle.serde_json.specs.declared.value.Value.{Value}
use Rattle.xo_fields.specs.declared.field.FieldId.{FieldId}
use Rattle.xo_fields.specs.declared.form.Form.{Form}
use Rattle.xo_list.specs.declared.span.Span.{Span}
use Rattle.xo_list.specs.Span.{items_of}
use Rattle.xo_showing.specs.Showing.{members, elements}

no_more : (v : Value) (vs : List Value) → items_view (v ∷ vs) ≡ no_items → ⊥
no_more v vs e = absurd cc

no_less : (d : Data) (ds : Items) → no_items ≡ item d ds → ⊥
no_less d ds e = absurd cc

first_item : (d e : Data) (ds es : Items) → item d ds ≡ item e es → (d ≡ e) × (ds ≡ es)
first_item d e ds es h = (cc, cc)

module _ (show : Form → List ℕ → Data) (bytes : List ℕ) where
  pub element_more : (vs : List Value) (v : Value) (spans : List (FieldId × Span)) (at : ℕ) → at < length spans →
      items_view vs ≡ elements show (items_of bytes (take at spans)) →
      view v ≡ object (members show (items_of bytes (take 1 (drop at spans)))) →
      items_view (vs ++ v ∷ []) ≡ elements show (items_of bytes (take (suc at) spans))
  element_more vs v [] at within so is = absurd (omega arith)
  element_more [] v (s ∷ spans) zero within so is = ap (λ d. item d no_items) is
  element_more (w ∷ vs) v (s ∷ spans) zero within so is = absurd (no_more w vs so)
  element_more [] v (s ∷ spans) (suc at) within so is = absurd (no_less _ _ so)
  element_more (w ∷ vs) v (s ∷ spans) (suc at) within so is =
      let parts : (view w ≡ object (members show (items_of bytes (s ∷ []))))
      × (items_view vs ≡ elements show (items_of bytes (take at spans))) =
      first_item _ _ _ _ so in
      let more : items_view (vs ++ v ∷ []) ≡ elements show (items_of bytes (take (suc at) spans)) =
      element_more vs v spans at (omega arith) parts.1 is in
      λ i. item (parts.0 i) (more i)
