-- The elements of an array are told as they show, where their values are.
use Rattle.std.proofs.Common.{◌≡◌, ℕ, inl, inr, true, List, [], ◌∷◌, refl, sym, ap, subst, ◌∙◌, arith, Option, Some}
use Rattle.std.proofs.Common.{None, Ok, Err}
use Rattle.std.proofs.lemmas.Bool.Decides.{nat_tests}
use Rattle.serde_json.specs.Data.{Data, object, Items, no_items, item, Members, no_members, member}
use Rattle.xo_fields.specs.declared.field.FieldId.{FieldId}
use Rattle.xo_fields.specs.declared.form.Form.{Form}
use Rattle.xo_fields.specs.declared.form.Form.TheVariants.{Fixed, Money, Blob, Account, Object, Array}
use Rattle.xo_fields.specs.Field as fields
use Rattle.xo_fields.specs.Form.{form_at}
use Rattle.xo_fields.proofs.Cases.{none_some, some_same}
use Rattle.xo_list.specs.Item.{Item}
use Rattle.xo_list.specs.List.{Fits, ListFits}
use Rattle.xo_list.specs.Value.{IsValue}
use Rattle.xo_showing.specs.Bytes.{AreBytes, HaveBytes}
use Rattle.xo_showing.specs.Key.{key}
use Rattle.xo_showing.specs.Showing.{members, elements, shown, value_shown}
use Rattle.xo_showing.specs.Shows.{lowered, lowered_items, lowered_members}
use Rattle.xo_showing.proofs.Fields.{field_shown}
use Rattle.xo_told.specs.declared.fault.JsonFault.{JsonFault}
use Rattle.xo_told.specs.declared.fault.JsonFault.TheVariants.{BadKey, BadValue}
use Rattle.xo_told.specs.Faults.{InnerFails, ElementFails, ElementShows, ItemsFail, ValueFails}
use Rattle.xo_told.specs.Reading.{IsKey, ShowsValue, ShowsElement}
use Rattle.xo_told.specs.Told.{told_then, told_map, Teller, Keyed, field_of, item_of, member_told, if_object}
use Rattle.xo_told.specs.Told.{element_told, items_told}
use Rattle.xo_told.proofs.KeyFound.{key_found}
use Rattle.xo_told.proofs.Ordered.{IsOrdered, AreOrdered, InOrder}
use Rattle.xo_told.proofs.Steps.{ok_same, err_same, ok_err, err_ok, then_ok, then_err, map_ok, map_err}
use Rattle.xo_told.proofs.MembersTold.{Tells, Apart}

-- the keys of elements
object_there : (o : Option Keyed) (f : FieldId) (form : Form) → if_object o ≡ Some (f, form) →
    (form ≡ Object) × (o ≡ Some (f, Object))
object_there None f form e = cc e
object_there (Some (g, Fixed n)) f form e = cc e
object_there (Some (g, Money)) f form e = cc e
object_there (Some (g, Blob)) f form e = cc e
object_there (Some (g, Account)) f form e = cc e
object_there (Some (g, Object)) f form e =
    let same : (g, Object) ≡ (f, form) = some_same _ _ e in
    (sym (ap (λ (p : Keyed). p.1) same), λ i. Some ((same i).0, Object))
object_there (Some (g, Array)) f form e = cc e

module _ (room : ℕ) where
  -- the elements fit and show so
  pub record ShowsItems (ds : Items) (xs : List Item) : Type 0 where
    pub fits : ListFits (IsValue room) true 0 xs
    pub bytes : HaveBytes xs
    pub shows : lowered_items ds ≡ elements (shown room) xs

  -- an element that shows as a field of kind 14
  pub record ShowsOne (d : Data) (x : Item) : Type 0 where
    pub text : List ℕ
    pub inner : Data
    pub is : d ≡ object (member text inner no_members)
    pub key : IsKey text x.field Object
    pub value : ShowsValue room Object inner x.value

  one_shows : (d : Data) (x : Item) → ShowsOne d x → lowered d ≡ object (members (shown room) (x ∷ []))
  one_shows d x s =
      ap lowered s.is ∙ (λ i. object (member (sym s.key.spelled i) (s.value.shows i) no_members))
      ∙ (λ i. object (member (key x.field) (value_shown (shown room) (sym s.key.known i) x.value) no_members))

  -- no other kind has values of that form
  kind_of : (kind : ℕ) → form_at kind ≡ Some Object → kind ≡ 14
  kind_of kind e = grind (arith, nat_tests)

  one_fits : (d : Data) (x : Item) (last : ℕ) → ShowsOne d x → Fits (IsValue room) true last x
  one_fits d x last s = record {
    form = Object;
    is = s.key.is;
    known = s.key.known;
    allowed = kind_of x.field.kind s.key.known;
    value = s.value.fits;
  }

  any_last : (last less : ℕ) (xs : List Item) → ListFits (IsValue room) true last xs →
      ListFits (IsValue room) true less xs
  any_last last less [] h = tt
  any_last last less (x ∷ xs) (f, h) =
      (record { form = f.form; is = f.is; known = f.known; allowed = f.allowed; value = f.value }, h)

  no_items_show : ShowsItems no_items []
  no_items_show = record { fits = tt; bytes = tt; shows = refl }

  items_more : (d : Data) (ds : Items) (x : Item) (xs : List Item) → ShowsOne d x → ShowsItems ds xs →
      ShowsItems (item d ds) (x ∷ xs)
  items_more d ds x xs s h = record {
    fits = (one_fits d x 0 s, any_last 0 (fields.number x.field) xs h.fits);
    bytes = (s.value.bytes, h.bytes);
    shows = λ i. item (one_shows d x s i) (h.shows i);
  }

  -- the element that shows so
  one_member : (ms : Members) (text : List ℕ) (e : Data) → lowered_members ms ≡ member text e no_members →
      (d : Data) × (ms ≡ member text d no_members) × (lowered d ≡ e)
  one_member no_members text e h = cc h
  one_member (member k d no_members) text e h = (d, (λ i. member (same i) d no_members), cc h)
    where
      same : k ≡ text
      same = cc h
  one_member (member k d (member l f ms)) text e h = cc h

  one_object : (d : Data) (text : List ℕ) (e : Data) → lowered d ≡ object (member text e no_members) →
      (inner : Data) × (d ≡ object (member text inner no_members)) × (lowered inner ≡ e)
  one_object (object ms) text e h =
      let same : lowered_members ms ≡ member text e no_members = cc h in
      let found = one_member ms text e same in
      (found.0, ap object found.1, found.2)
  one_object d text e h = cc h

  one_there : (d : Data) (x : Item) (last : ℕ) → Fits (IsValue room) true last x → AreBytes x.value →
      lowered d ≡ object (members (shown room) (x ∷ [])) → ShowsOne d x
  one_there d x last f b e =
      let known : form_at x.field.kind ≡ Some Object = ap form_at f.allowed in
      let found = one_object d (key x.field) (field_shown (shown room) x) e in
      let same : Object ≡ f.form = some_same Object f.form (sym known ∙ f.known) in
      record {
        text = key x.field;
        inner = found.0;
        is = found.1;
        key = record { is = f.is; known = known; spelled = refl };
        value = record {
          bytes = b;
          fits = subst (λ o. IsValue room o x.value) (sym same) f.value;
          shows = found.2 ∙ ap (λ o. value_shown (shown room) o x.value) known;
        };
      }

  -- ---- an element that shows doesn't fail

  inner_apart : Apart room → (text : List ℕ) (d : Data) (x : Item) (fault : JsonFault) → IsKey text x.field Object →
      ShowsValue room Object d x.value → InnerFails (ValueFails room) text d fault → ⊥
  inner_apart apart text d x fault k s (inl (bad, none)) = none x.field k
  inner_apart apart text d x fault k s (inr (g, l, fails)) = apart Object d x.value fault s fails

  element_apart : Apart room → (d : Data) (x : Item) (fault : JsonFault) → ShowsOne d x →
      ElementFails (ValueFails room) d fault → ⊥
  element_apart apart d x fault s fails =
      inner_apart apart s.text s.inner x fault s.key s.value
      (subst (λ e. ElementFails (ValueFails room) e fault) s.is fails)

  pub items_apart : Apart room → (ds : Items) (last : ℕ) (xs : List Item) (fault : JsonFault) →
      ListFits (IsValue room) true last xs → HaveBytes xs → lowered_items ds ≡ elements (shown room) xs →
      ItemsFail (ValueFails room) (ShowsValue room) ds fault → ⊥
  items_apart apart no_items last xs fault h b e fails = fails
  items_apart apart (item d ds) last [] fault h b e fails = cc e
  items_apart apart (item d ds) last (x ∷ xs) fault (f, h) (b, bs) e (inl first) =
      let same : lowered d ≡ object (members (shown room) (x ∷ [])) = cc e in
      element_apart apart d x fault (one_there d x last f b same) first
  items_apart apart (item d ds) last (x ∷ xs) fault (f, h) (b, bs) e (inr (shows, rest)) =
      let more : lowered_items ds ≡ elements (shown room) xs = cc e in
      items_apart apart ds (fields.number x.field) xs fault h bs more rest

  -- ---- what is told

  module _ (tell : Teller) (t : Tells room tell) where
    element_key : (text : List ℕ) (f : FieldId) → IsKey text f Object → if_object (field_of text) ≡ Some (f, Object)
    element_key text f k = ap if_object ((key_found text).complete (f, Object) k)

    only_sound : (text : List ℕ) (d : Data) (x : Item) (o : Option Keyed) → if_object (field_of text) ≡ o →
        IsOrdered d → member_told tell o d ≡ Ok x → ShowsOne (object (member text d no_members)) x
    only_sound text d x None e od h = err_ok x BadKey h
    only_sound text d x (Some (f, form)) e od h =
        let object_form = object_there (field_of text) f form e in
        let made = map_ok (item_of f) (tell form d) x h in
        subst (ShowsOne (object (member text d no_members))) made.2 (record {
          text = text;
          inner = d;
          is = refl;
          key = (key_found text).sound (f, Object) object_form.1;
          value = subst (λ o. ShowsValue room o d made.0) object_form.0 (t.sound form d made.0 od made.1);
        })

    only_fails : (text : List ℕ) (d : Data) (fault : JsonFault) (o : Option Keyed) → if_object (field_of text) ≡ o →
        IsOrdered d → member_told tell o d ≡ Err fault → InnerFails (ValueFails room) text d fault
    only_fails text d fault None e od h =
        inl (sym (err_same Item BadKey fault h), λ f k. none_some (f, Object) (sym e ∙ element_key text f k))
    only_fails text d fault (Some (f, form)) e od h =
        let object_form = object_there (field_of text) f form e in
        inr (
          f,
          (key_found text).sound (f, Object) object_form.1,
          subst (λ o. ValueFails room o d fault) object_form.0
              (t.fails form d fault od (map_err (item_of f) (tell form d) fault h)),
        )

    no_object_key : (text : List ℕ) (o : Option Keyed) → if_object (field_of text) ≡ o →
        ((f : FieldId) → IsKey text f Object → ⊥) → o ≡ None
    no_object_key text None e none = refl
    no_object_key text (Some (f, form)) e none =
        absurd (none f ((key_found text).sound (f, Object) (object_there (field_of text) f form e).1))

    only_refuses : (text : List ℕ) (d : Data) (fault : JsonFault) → IsOrdered d →
        InnerFails (ValueFails room) text d fault → member_told tell (if_object (field_of text)) d ≡ Err fault
    only_refuses text d fault od (inl (bad, none)) =
        ap (λ o. member_told tell o d) (no_object_key text (if_object (field_of text)) refl none)
        ∙ (λ i. Err (sym bad i))
    only_refuses text d fault od (inr (f, k, fails)) =
        ap (λ o. member_told tell o d) (element_key text f k)
        ∙ ap (λ r. told_map (item_of f) r) (t.refuses Object d fault od fails)

    element_sound : (d : Data) (x : Item) → IsOrdered d → element_told tell d ≡ Ok x → ShowsOne d x
    element_sound (object (member text d no_members)) x (below, od, o) h =
        only_sound text d x (if_object (field_of text)) refl od h
    element_sound d x od h = err_ok x BadValue h

    element_fails : (d : Data) (fault : JsonFault) → IsOrdered d → element_told tell d ≡ Err fault →
        ElementFails (ValueFails room) d fault
    element_fails (object (member text d no_members)) fault (below, od, o) h =
        only_fails text d fault (if_object (field_of text)) refl od h
    element_fails (object no_members) fault od h = sym (err_same Item BadValue fault h)
    element_fails (object (member k d (member l e ms))) fault od h = sym (err_same Item BadValue fault h)
    element_fails d fault od h = sym (err_same Item BadValue fault h)

    element_refuses : (d : Data) (fault : JsonFault) → IsOrdered d → ElementFails (ValueFails room) d fault →
        element_told tell d ≡ Err fault
    element_refuses (object (member text d no_members)) fault (below, od, o) fails = only_refuses text d fault od fails
    element_refuses (object no_members) fault od bad = λ i. Err (sym bad i)
    element_refuses (object (member k d (member l e ms))) fault od bad = λ i. Err (sym bad i)
    element_refuses d fault od bad = λ i. Err (sym bad i)

    element_complete : (d : Data) (f : FieldId) (value : List ℕ) → IsOrdered d →
        ShowsElement (ShowsValue room) d f value → element_told tell d ≡ Ok (item_of f value)
    element_complete d f value od (text, inner, is, k, s) =
        let own : InOrder (member text inner no_members) = subst IsOrdered is od in
        ap (element_told tell) is
        ∙ ap (λ o. member_told tell o inner) (element_key text f k)
        ∙ ap (λ r. told_map (item_of f) r) (t.complete Object inner value own.1 s)

    element_shows : (d : Data) (x : Item) → ShowsOne d x → ElementShows (ShowsValue room) d
    element_shows d x s = (x.field, x.value, (s.text, s.inner, s.is, s.key, s.value))

    pub items_sound : (ds : Items) (xs : List Item) → AreOrdered ds → items_told tell ds ≡ Ok xs → ShowsItems ds xs
    items_sound no_items xs o h = subst (ShowsItems no_items) (ok_same [] xs h) no_items_show
    items_sound (item d ds) xs (od, o) h =
        let first = then_ok _ (element_told tell d) xs h in
        let rest = map_ok (λ ys. first.0 ∷ ys) (items_told tell ds) xs first.2 in
        subst (ShowsItems (item d ds)) rest.2
        (items_more d ds first.0 rest.0 (element_sound d first.0 od first.1) (items_sound ds rest.0 o rest.1))

    pub items_fail : (ds : Items) (fault : JsonFault) → AreOrdered ds → items_told tell ds ≡ Err fault →
        ItemsFail (ValueFails room) (ShowsValue room) ds fault
    items_fail no_items fault o h = ok_err {A = List Item} [] fault h
    items_fail (item d ds) fault (od, o) h =
        elim (then_err _ (element_told tell d) fault h) [
          | inl first ↦ inl (element_fails d fault od first)
          | inr later ↦ inr (
            element_shows d later.0 (element_sound d later.0 od later.1),
            items_fail ds fault o (map_err (λ ys. later.0 ∷ ys) (items_told tell ds) fault later.2),
          )
        ]

    pub items_refuse : (ds : Items) (fault : JsonFault) → AreOrdered ds →
        ItemsFail (ValueFails room) (ShowsValue room) ds fault → items_told tell ds ≡ Err fault
    items_refuse no_items fault o fails = absurd fails
    items_refuse (item d ds) fault (od, o) (inl first) =
        ap (told_then (λ x. told_map (λ xs. x ∷ xs) (items_told tell ds))) (element_refuses d fault od first)
    items_refuse (item d ds) fault (od, o) (inr ((f, value, shows), rest)) =
        ap (told_then (λ x. told_map (λ xs. x ∷ xs) (items_told tell ds))) (element_complete d f value od shows)
        ∙ ap (told_map (λ xs. item_of f value ∷ xs)) (items_refuse ds fault o rest)
