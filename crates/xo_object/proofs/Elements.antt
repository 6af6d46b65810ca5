-- Lists of elements, one after another.
use Rattle.std.proofs.Common.{◌≡◌, ℕ, zero, suc, ◌+◌, ◌<◌, ◌≤◌, List, [], ◌∷◌, ◌++◌, length, take, drop, get_or, refl}
use Rattle.std.proofs.Common.{sym, ap, subst, ◌∙◌, arith, append_assoc, append-nil}
use Rattle.std.proofs.lemmas.List.{length-map, get_or_default, take-append-drop, drop_more, take_more, map-append}
use Rattle.std.proofs.lemmas.List.{take_all}
use Rattle.xo_fields.specs.declared.field.FieldId.{FieldId}
use Rattle.xo_list.specs.declared.span.Span.{Span}
use Rattle.xo_object.specs.declared.transaction.Parameter.{Parameter}
use Rattle.xo_list.specs.Item.{Item}
use Rattle.xo_list.specs.Laws.{OneReading}
use Rattle.xo_object.specs.Names as names
use Rattle.xo_list.specs.Span.{item_of, items_of}
use Rattle.xo_object.specs.Transaction.{Each, IsElement, AreElements, ParameterIs, Differs, AllDiffer, AreParameters}
use Rattle.xo_list.specs.Value.{IsArray}
use Rattle.xo_fields.proofs.Cases.{some_same}
use Rattle.xo_list.proofs.OneList.{same_fields, same_elements}

-- the elements, cut at one of them
pub elements_cut : (bytes : List ℕ) (spans : List (FieldId × Span)) (i : ℕ) (s : FieldId × Span) → i < length spans →
    s ≡ get_or spans i s →
    items_of bytes spans ≡ items_of bytes (take i spans) ++ item_of bytes s ∷ items_of bytes (drop (i + 1) spans)
elements_cut bytes spans i s h e =
    ap (items_of bytes) (sym (take-append-drop i spans)) ∙ map-append (item_of bytes) (take i spans) (drop i spans)
    ∙ ap (λ x. items_of bytes (take i spans) ++ items_of bytes x)
    (drop_more spans i s h ∙ ap (λ t. t ∷ drop (i + 1) spans) (sym e))

pub elements_more : (bytes : List ℕ) (spans : List (FieldId × Span)) (i : ℕ) (s : FieldId × Span) → i < length spans →
    s ≡ get_or spans i s →
    items_of bytes (take (i + 1) spans) ≡ items_of bytes (take i spans) ++ item_of bytes s ∷ []
elements_more bytes spans i s h e =
    ap (items_of bytes) (take_more spans i s h ∙ ap (λ t. take i spans ++ t ∷ []) (sym e))
    ∙ map-append (item_of bytes) (take i spans) (s ∷ [])

module _ {T : Type 0} (R : Item → T → Type 0) where
  pub each_push : (xs : List Item) (x : Item) (ys : List T) (y : T) → Each R xs ys → R x y →
      Each R (xs ++ x ∷ []) (ys ++ y ∷ [])
  each_push [] x [] y h r = (r, tt)
  each_push [] x (z ∷ zs) y h r = absurd h
  each_push (w ∷ ws) x [] y h r = absurd h
  each_push (w ∷ ws) x (z ∷ zs) y h r = (h.0, each_push ws x zs y h.1 r)

  -- an element's own, those before it and those after
  pub each_cut : (a : List Item) (x : Item) (b : List Item) (ys : List T) → Each R (a ++ x ∷ b) ys →
      (c : List T) × (y : T) × (d : List T) × (ys ≡ c ++ y ∷ d) × Each R a c × R x y
  each_cut [] x b [] h = absurd h
  each_cut [] x b (y ∷ ys) h = ([], y, ys, refl, tt, h.0)
  each_cut (w ∷ ws) x b [] h = absurd h
  each_cut (w ∷ ws) x b (z ∷ zs) h =
      let rest : (c : List T) × (y : T) × (d : List T) × (zs ≡ c ++ y ∷ d) × Each R ws c × R x y =
      each_cut ws x b zs h.1 in
      (z ∷ rest.0, rest.1, rest.2, ap (λ t. z ∷ t) rest.3, (h.0, rest.4), rest.5)

  -- where the relation gives one, the list is one
  pub each_same : ((x : Item) (y z : T) → R x y → R x z → y ≡ z) → (xs : List Item) (ys zs : List T) → Each R xs ys →
      Each R xs zs → ys ≡ zs
  each_same one [] [] [] h k = refl
  each_same one [] [] (z ∷ zs) h k = absurd k
  each_same one [] (y ∷ ys) zs h k = absurd h
  each_same one (x ∷ xs) [] zs h k = absurd h
  each_same one (x ∷ xs) (y ∷ ys) [] h k = absurd k
  each_same one (x ∷ xs) (y ∷ ys) (z ∷ zs) h k =
      ap (λ t. t ∷ ys) (one x y z h.0 k.0) ∙ ap (λ t. z ∷ t) (each_same one xs ys zs h.1 k.1)

module _ {T : Type 0} (one : OneReading) (f : FieldId) (Is : List Item → T → Type 0) (limit : ℕ) (bytes : List ℕ)
    (spans : List (FieldId × Span)) (array : IsArray (items_of bytes spans) bytes) where
  these : (ys : List T) → AreElements f Is limit bytes ys → Each (IsElement f Is) (items_of bytes spans) ys
  these ys r =
      subst (λ xs. Each (IsElement f Is) xs ys)
      (same_elements one r.elements (items_of bytes spans) bytes r.array array) r.each

  pub too_many : (ys : List T) → AreElements f Is limit bytes ys → limit < length spans → ⊥
  too_many ys r many =
      omega (
        arith,
        r.few,
        ap length (same_elements one r.elements (items_of bytes spans) bytes r.array array),
        length-map spans (item_of bytes),
      )

  pub refused_at : (ys : List T) (i : ℕ) (s : FieldId × Span) → AreElements f Is limit bytes ys → i < length spans →
      s ≡ get_or spans i s → ((y : T) → IsElement f Is (item_of bytes s) y → ⊥) → ⊥
  refused_at ys i s r within e none =
      let cut : (c : List T) × (y : T) × (d : List T) × (ys ≡ c ++ y ∷ d)
      × Each (IsElement f Is) (items_of bytes (take i spans)) c × IsElement f Is (item_of bytes s) y =
      each_cut (IsElement f Is) (items_of bytes (take i spans)) (item_of bytes s) (items_of bytes (drop (i + 1) spans))
      ys (subst (λ xs. Each (IsElement f Is) xs ys) (elements_cut bytes spans i s within e) (these ys r)) in
      none cut.1 cut.5

  pub all_read : (ys : List T) → length spans ≤ limit → Each (IsElement f Is) (items_of bytes spans) ys →
      AreElements f Is limit bytes ys
  all_read ys few h = record {
    elements = items_of bytes spans;
    array = array;
    few = omega (arith, length-map spans (item_of bytes));
    each = h;
  }

parameter : List ℕ → List ℕ → Parameter
parameter name value = record { name = name; value = value }

one_parameter_of : (fields : List Item) (p q : Parameter) → ParameterIs fields p → ParameterIs fields q → p ≡ q
unfolding parameter
one_parameter_of fields p q h k =
    ap (λ n. parameter n p.value) (some_same p.name q.name (sym h.name ∙ k.name))
    ∙ ap (λ v. parameter q.name v) (sym h.value ∙ k.value)

one_parameter : OneReading → (x : Item) (p q : Parameter) → IsElement names.hook_parameter ParameterIs x p →
    IsElement names.hook_parameter ParameterIs x q → p ≡ q
one_parameter one x p q h k =
    one_parameter_of k.fields p q
    (subst (λ fs. ParameterIs fs p) (same_fields one h.fields k.fields x.value h.object k.object) h.is) k.is

differ_at : (before a : List Parameter) (p : Parameter) (d : List Parameter) → AllDiffer before (a ++ p ∷ d) →
    Differs p.name (before ++ a)
differ_at before [] p d h = subst (Differs p.name) (sym (append-nil before)) h.0
differ_at before (q ∷ qs) p d h =
    subst (Differs p.name) (append_assoc before (q ∷ []) qs) (differ_at (before ++ q ∷ []) qs p d h.1)

pub differ_push : (before a : List Parameter) (p : Parameter) → AllDiffer before a → Differs p.name (before ++ a) →
    AllDiffer before (a ++ p ∷ [])
differ_push before [] p h k = (subst (Differs p.name) (append-nil before) k, tt)
differ_push before (q ∷ qs) p h k =
    (h.0, differ_push (before ++ q ∷ []) qs p h.1 (subst (Differs p.name) (sym (append_assoc before (q ∷ []) qs)) k))

-- a name that was there before
pub name_twice : OneReading →
    (bytes : List ℕ) (spans : List (FieldId × Span)) (i : ℕ) (s : FieldId × Span) (done : List Parameter)
    (p : Parameter) → IsArray (items_of bytes spans) bytes → i < length spans → s ≡ get_or spans i s →
    Each (IsElement names.hook_parameter ParameterIs) (items_of bytes (take i spans)) done →
    IsElement names.hook_parameter ParameterIs (item_of bytes s) p → (Differs p.name done → ⊥) →
    (ys : List Parameter) → AreParameters bytes ys → ⊥
name_twice one bytes spans i s done p array within e h r twice ys (are, differ) =
    let cut : (c : List Parameter) × (y : Parameter) × (d : List Parameter) × (ys ≡ c ++ y ∷ d)
    × Each (IsElement names.hook_parameter ParameterIs) (items_of bytes (take i spans)) c
    × IsElement names.hook_parameter ParameterIs (item_of bytes s) y =
    each_cut (IsElement names.hook_parameter ParameterIs) (items_of bytes (take i spans)) (item_of bytes s)
    (items_of bytes (drop (i + 1) spans)) ys
    (subst (λ xs. Each (IsElement names.hook_parameter ParameterIs) xs ys) (elements_cut bytes spans i s within e)
    (these one names.hook_parameter ParameterIs 16 bytes spans array ys are)) in
    let front : cut.0 ≡ done =
    each_same (IsElement names.hook_parameter ParameterIs) (one_parameter one) (items_of bytes (take i spans)) cut.0
    done cut.4 h in
    let own : cut.1 ≡ p = one_parameter one (item_of bytes s) cut.1 p cut.5 r in
    twice (subst (λ (q : Parameter). Differs q.name done) own
    (subst (Differs cut.1.name) front (differ_at [] cut.0 cut.1 cut.2 (subst (AllDiffer []) cut.3 differ))))

-- a name among those before
pub differs_not : (name : List ℕ) (ps : List Parameter) (i : ℕ) (p : Parameter) → i < length ps → p ≡ get_or ps i p →
    name ≡ p.name → Differs name ps → ⊥
differs_not name [] i p within e same h = omega arith
differs_not name (q ∷ qs) zero p within e same h = h.0 (same ∙ ap (λ (r : Parameter). r.name) e)
differs_not name (q ∷ qs) (suc i) p within e same h = differs_not name qs i p (omega arith) e same h.1

differs_append : (name : List ℕ) (a b : List Parameter) → Differs name a → Differs name b → Differs name (a ++ b)
differs_append name [] b h k = k
differs_append name (x ∷ xs) b h k = (h.0, differs_append name xs b h.1 k)

pub differs_more : (name : List ℕ) (ps : List Parameter) (i : ℕ) (p : Parameter) → i < length ps → p ≡ get_or ps i p →
    Differs name (take i ps) → (name ≡ p.name → ⊥) → Differs name (take (i + 1) ps)
differs_more name ps i p within e h other =
    subst (Differs name) (sym (take_more ps i p within)) (differs_append name (take i ps) (get_or ps i p ∷ []) h
    ((λ s. other (s ∙ sym (ap (λ (r : Parameter). r.name) e))), tt))

-- the same at an element as the loop reads it
get_or_same : (spans : List (FieldId × Span)) (i : ℕ) (d : FieldId × Span) → i < length spans →
    get_or spans i d ≡ get_or spans i (get_or spans i d)
get_or_same spans i d h = get_or_default spans i d (get_or spans i d) h

pub more_read : {T : Type 0} (f : FieldId) (Is : List Item → T → Type 0) (bytes : List ℕ)
    (spans : List (FieldId × Span)) (i : ℕ) (d : FieldId × Span) (done now : List T) (y : T) → i < length spans →
    Each (IsElement f Is) (items_of bytes (take i spans)) done → IsElement f Is (item_of bytes (get_or spans i d)) y →
    now ≡ done ++ y ∷ [] → Each (IsElement f Is) (items_of bytes (take (i + 1) spans)) now
more_read f Is bytes spans i d done now y within h r e =
    subst (λ ys. Each (IsElement f Is) (items_of bytes (take (i + 1) spans)) ys) (sym e)
    (subst (λ xs. Each (IsElement f Is) xs (done ++ y ∷ []))
    (sym (elements_more bytes spans i (get_or spans i d) within (get_or_same spans i d within)))
    (each_push (IsElement f Is) (items_of bytes (take i spans)) (item_of bytes (get_or spans i d)) done y h r))

pub refused_there : {T : Type 0} (one : OneReading) (f : FieldId) (Is : List Item → T → Type 0) (limit : ℕ)
    (bytes : List ℕ) (spans : List (FieldId × Span)) (i : ℕ) (d : FieldId × Span) →
    IsArray (items_of bytes spans) bytes → i < length spans →
    ((y : T) → IsElement f Is (item_of bytes (get_or spans i d)) y → ⊥) → (ys : List T) →
    AreElements f Is limit bytes ys → ⊥
refused_there one f Is limit bytes spans i d array within none ys r =
    refused_at one f Is limit bytes spans array ys i (get_or spans i d) r within (get_or_same spans i d within) none

pub twice_there : (one : OneReading) (bytes : List ℕ) (spans : List (FieldId × Span)) (i : ℕ) (d : FieldId × Span)
    (done : List Parameter) (p : Parameter) → IsArray (items_of bytes spans) bytes → i < length spans →
    Each (IsElement names.hook_parameter ParameterIs) (items_of bytes (take i spans)) done →
    IsElement names.hook_parameter ParameterIs (item_of bytes (get_or spans i d)) p → (Differs p.name done → ⊥) →
    (ys : List Parameter) → AreParameters bytes ys → ⊥
twice_there one bytes spans i d done p array within h r twice ys are =
    name_twice one bytes spans i (get_or spans i d) done p array within (get_or_same spans i d within) h r twice ys are

pub whole_read : {T : Type 0} (f : FieldId) (Is : List Item → T → Type 0) (limit : ℕ) (bytes : List ℕ)
    (spans : List (FieldId × Span)) (i : ℕ) (ys : List T) → IsArray (items_of bytes spans) bytes →
    length spans ≤ limit → length spans ≤ i →
    Each (IsElement f Is) (items_of bytes (take i spans)) ys → AreElements f Is limit bytes ys
whole_read f Is limit bytes spans i ys array few past h =
    record {
      elements = items_of bytes spans;
      array = array;
      few = omega (arith, length-map spans (item_of bytes));
      each = subst (λ xs. Each (IsElement f Is) (items_of bytes xs) ys) (take_all i spans past) h;
    }

each-length : {T : Type 0} (R : Item → T → Type 0) (xs : List Item) (ys : List T) → Each R xs ys → length xs ≡ length ys
each-length R [] [] h = refl
each-length R [] (y ∷ ys) h = absurd h
each-length R (x ∷ xs) [] h = absurd h
each-length R (x ∷ xs) (y ∷ ys) h = ap suc (each-length R xs ys h.1)

pub as_many : {T : Type 0} (one : OneReading) (f : FieldId) (Is : List Item → T → Type 0) (limit : ℕ) (bytes : List ℕ)
    (spans : List (FieldId × Span)) → IsArray (items_of bytes spans) bytes → (ys : List T) →
    AreElements f Is limit bytes ys →
    length spans ≡ length ys
as_many one f Is limit bytes spans array ys r =
    sym (length-map spans (item_of bytes))
    ∙ each-length (IsElement f Is) (items_of bytes spans) ys (these one f Is limit bytes spans array ys r)
