-- The members of an object are told as they show, where their values are.
use Rattle.std.proofs.Common.{◌≡◌, ℕ, ◌<◌, ◌==◌, inl, inr, Bool, true, false, List, [], ◌∷◌, nat_lt, refl, sym, ap}
use Rattle.std.proofs.Common.{subst, ◌∙◌, arith, Option, Some, None, Ok, Err, if◌then◌else◌}
use Rattle.serde_json.specs.Data.{Data, Members, no_members, member, put}
use Rattle.serde_json.specs.Find.{get_member}
use Rattle.serde_json.proofs.Views.{get_member-put, get_member-put_other}
use Rattle.xo_fields.specs.declared.field.FieldId.{FieldId}
use Rattle.xo_fields.specs.declared.form.Form.{Form}
use Rattle.xo_fields.specs.Field as fields
use Rattle.xo_fields.specs.Form.{form_at}
use Rattle.xo_fields.specs.Header.{IsField}
use Rattle.xo_fields.proofs.Cases.{none_some, some_same, pick_below}
use Rattle.xo_list.specs.Item.{Item, is_same, lookup, with_item}
use Rattle.xo_list.specs.List.{Fits, ListFits}
use Rattle.xo_list.specs.Value.{IsValue}
use Rattle.xo_list.proofs.Cuts.{same_itself}
use Rattle.hk_reading.proofs.Finding.{nat_same}
use Rattle.xo_showing.specs.Bytes.{AreBytes, HaveBytes}
use Rattle.xo_showing.specs.Key.{key}
use Rattle.xo_showing.specs.Showing.{members, shown, value_shown}
use Rattle.xo_showing.specs.Shows.{lowered, lowered_members}
use Rattle.xo_showing.proofs.Fields.{field_shown, put_in}
use Rattle.xo_showing.proofs.Keys.{one_key}
use Rattle.xo_told.specs.declared.fault.JsonFault.{JsonFault}
use Rattle.xo_told.specs.declared.fault.JsonFault.TheVariants.{BadKey}
use Rattle.xo_told.specs.Faults.{MemberFails, MemberShows, MembersFail, ValueFails}
use Rattle.xo_told.specs.Reading.{IsKey, ShowsValue}
use Rattle.xo_told.specs.Told.{told_then, told_map, Teller, Keyed, field_of, item_of, member_told, members_told}
use Rattle.xo_told.proofs.KeyFound.{key_found}
use Rattle.xo_told.proofs.Ordered.{Below, IsOrdered, InOrder, put_first, none_below, AllMembers, put_all, all_lowered}
use Rattle.xo_told.proofs.Steps.{both, never, ok_same, err_same, ok_err, err_ok, then_ok, then_err, map_ok, map_err}
use Rattle.xo_list.proofs.ListLemmas.{one_field, with_fits}

-- values are told as they show, where the keys are in order
pub record Tells (room : ℕ) (tell : Teller) : Type 0 where
  pub sound : (form : Form) (d : Data) (value : List ℕ) → IsOrdered d → tell form d ≡ Ok value →
      ShowsValue room form d value
  pub complete : (form : Form) (d : Data) (value : List ℕ) → IsOrdered d → ShowsValue room form d value →
      tell form d ≡ Ok value
  pub fails : (form : Form) (d : Data) (fault : JsonFault) → IsOrdered d → tell form d ≡ Err fault →
      ValueFails room form d fault
  pub refuses : (form : Form) (d : Data) (fault : JsonFault) → IsOrdered d → ValueFails room form d fault →
      tell form d ≡ Err fault

-- no value that shows fails
abbrev pub Apart : ℕ → Type 0
Apart room =
    (form : Form) (d : Data) (value : List ℕ) (fault : JsonFault) → ShowsValue room form d value →
    ValueFails room form d fault → ⊥

with_bytes : (x : Item) (xs : List Item) → AreBytes x.value → HaveBytes xs → HaveBytes (with_item x xs)
with_bytes x [] b h = (b, tt)
with_bytes x (y ∷ ys) b (c, h) =
    pick_below HaveBytes (fields.number x.field) (fields.number y.field) (x ∷ y ∷ ys)
    (if nat_lt (fields.number y.field) (fields.number x.field) then y ∷ with_item x ys else x ∷ ys)
    (λ lt. (b, (c, h)))
    (λ le.
    pick_below HaveBytes (fields.number y.field) (fields.number x.field) (y ∷ with_item x ys) (x ∷ ys)
    (λ lt. (c, with_bytes x ys b h)) (λ ge. (b, h)))

other_field : (f g : FieldId) → is_same f g ≡ false → f ≡ g → ⊥
other_field f g e same = never (is_same f g) (ap (λ h. is_same f h) (sym same) ∙ same_itself f) e

module _ (room : ℕ) where
  -- the fields fit and show so
  pub record ShowsMembers (ms : Members) (xs : List Item) : Type 0 where
    pub fits : ListFits (IsValue room) false 0 xs
    pub bytes : HaveBytes xs
    pub shows : lowered_members ms ≡ members (shown room) xs

  -- a field that shows so
  pub record ShowsItem (text : List ℕ) (d : Data) (x : Item) : Type 0 where
    pub form : Form
    pub key : IsKey text x.field form
    pub value : ShowsValue room form d x.value

  -- a field whose key has no member isn't there
  absent : (f : FieldId) (last : ℕ) (xs : List Item) → IsField f → ListFits (IsValue room) false last xs →
      get_member (key f) (members (shown room) xs) ≡ None → lookup f xs ≡ None
  absent f last [] is h e = refl
  absent f last (x ∷ xs) is (g, h) e =
      at (λ more. absent f (fields.number x.field) xs is h more) (is_same x.field f) refl
    where
      at : (get_member (key f) (members (shown room) xs) ≡ None → lookup f xs ≡ None) → (same : Bool) →
          is_same x.field f ≡ same → (if same then Some x.value else lookup f xs) ≡ None
      at more true s =
          let there : get_member (key x.field) (members (shown room) (x ∷ xs)) ≡ Some (field_shown (shown room) x) =
          get_member-put (key x.field) (field_shown (shown room) x) (members (shown room) xs) in
          none_some (field_shown (shown room) x)
          (sym e ∙ ap (λ k. get_member (key k) (members (shown room) (x ∷ xs))) (sym (one_field x.field f s)) ∙ there)
      at more false s =
          more (sym (get_member-put_other (key f) (key x.field) (field_shown (shown room) x) (members (shown room) xs)
          (λ k. other_field x.field f s (sym (one_key f x.field is g.is k))))
          ∙ e)

  -- a field of these shows as a member
  shown_field : (text : List ℕ) (d : Data) (x : Item) → ShowsItem text d x → lowered d ≡ field_shown (shown room) x
  shown_field text d x s = s.value.shows ∙ sym (ap (λ o. value_shown (shown room) o x.value) s.key.known)

  shows_nothing : ShowsMembers no_members []
  shows_nothing = record { fits = tt; bytes = tt; shows = refl }

  shows_more : (text : List ℕ) (d : Data) (ms : Members) (x : Item) (xs : List Item) → Below text ms →
      ShowsItem text d x → ShowsMembers ms xs → ShowsMembers (member text d ms) (with_item x xs)
  shows_more text d ms x xs below s h =
      let none : get_member (key x.field) (members (shown room) xs) ≡ None =
      ap (λ k. get_member k (members (shown room) xs)) s.key.spelled
      ∙ ap (get_member text) (sym h.shows)
      ∙ none_below text ms below in
      let put_so : members (shown room) (with_item x xs)
      ≡ put (key x.field) (field_shown (shown room) x) (members (shown room) xs) =
      put_in (shown room) (IsValue room) x 0 xs s.key.is h.fits (absent x.field 0 xs s.key.is h.fits none) in
      let placed : put (key x.field) (field_shown (shown room) x) (members (shown room) xs)
      ≡ member text (lowered d) (lowered_members ms) =
      (λ i. put (s.key.spelled i) (sym (shown_field text d x s) i) (sym h.shows i))
      ∙ put_first text (lowered d) ms below in
      record {
        fits =
            with_fits (IsValue room) x 0 xs
            (record { form = s.form; is = s.key.is; known = s.key.known; allowed = above; value = s.value.fits })
            h.fits;
        bytes = with_bytes x xs s.value.bytes h.bytes;
        shows = sym (put_so ∙ placed);
      }
    where
      above : 0 < fields.number x.field
      above = let is : IsField x.field = s.key.is in omega (arith, is.kind, is.code)

  -- ---- what shows doesn't fail

  -- what a field shows, at its key
  abbrev pub ShowsPart : List ℕ → Data → Type 0
  ShowsPart text d =
      (field : FieldId) × (form : Form) × (value : List ℕ) × IsKey text field form × AreBytes value
      × IsValue room form value × (d ≡ shown room form value)

  part_of : (x : Item) (last : ℕ) (list : Bool) → Fits (IsValue room) list last x → AreBytes x.value →
      ShowsPart (key x.field) (field_shown (shown room) x)
  part_of x last list f b = (
    x.field,
    f.form,
    x.value,
    record { is = f.is; known = f.known; spelled = refl },
    b,
    f.value,
    ap (λ o. value_shown (shown room) o x.value) f.known,
  )

  all_parts : (last : ℕ) (xs : List Item) → ListFits (IsValue room) false last xs → HaveBytes xs →
      AllMembers ShowsPart (members (shown room) xs)
  all_parts last [] h b = tt
  all_parts last (x ∷ xs) (f, h) (b, bs) =
      put_all ShowsPart (key x.field) (field_shown (shown room) x) (members (shown room) xs) (part_of x last false f b)
      (all_parts (fields.number x.field) xs h bs)

  part_shows : (text : List ℕ) (d : Data) → ShowsPart text (lowered d) → MemberShows (ShowsValue room) text d
  part_shows text d (field, form, value, k, b, fit, shows) =
      (field, form, value, k, record { bytes = b; fits = fit; shows = shows })

  -- the field of a key is one, and so is its form
  one_form : (text : List ℕ) (f g : FieldId) (form other : Form) → IsKey text f form → IsKey text g other → form ≡ other
  one_form text f g form other k l =
      let same : f ≡ g = one_key f g k.is l.is (k.spelled ∙ sym l.spelled) in
      some_same form other (sym k.known ∙ ap (λ (h : FieldId). form_at h.kind) same ∙ l.known)

  member_apart : Apart room → (text : List ℕ) (d : Data) (fault : JsonFault) → MemberShows (ShowsValue room) text d →
      MemberFails (ValueFails room) text d fault → ⊥
  member_apart apart text d fault (f, form, value, k, s) (inl (bad, none)) = none f form k
  member_apart apart text d fault (f, form, value, k, s) (inr (g, other, l, fails)) =
      apart other d value fault (subst (λ o. ShowsValue room o d value) (one_form text f g form other k l) s) fails

  none_fails : Apart room → (ms : Members) (fault : JsonFault) → AllMembers (λ text d. ShowsPart text (lowered d)) ms →
      MembersFail (ValueFails room) (ShowsValue room) ms fault → ⊥
  none_fails apart no_members fault all fails = fails
  none_fails apart (member text d ms) fault (p, all) (inl first) =
      member_apart apart text d fault (part_shows text d p) first
  none_fails apart (member text d ms) fault (p, all) (inr (shows, rest)) = none_fails apart ms fault all rest

  pub members_apart : Apart room → (ms : Members) (xs : List Item) (fault : JsonFault) → ShowsMembers ms xs →
      MembersFail (ValueFails room) (ShowsValue room) ms fault → ⊥
  members_apart apart ms xs fault h fails =
      none_fails apart ms fault
      (all_lowered ShowsPart ms (subst (AllMembers ShowsPart) (sym h.shows) (all_parts 0 xs h.fits h.bytes))) fails

  -- ---- what is told

  module _ (tell : Teller) (t : Tells room tell) where
    member_sound : (text : List ℕ) (d : Data) (x : Item) (o : Option Keyed) → field_of text ≡ o → IsOrdered d →
        member_told tell o d ≡ Ok x → ShowsItem text d x
    member_sound text d x None e od h = err_ok x BadKey h
    member_sound text d x (Some keyed) e od h =
        let made = map_ok (item_of keyed.0) (tell keyed.1 d) x h in
        subst (ShowsItem text d) made.2
        (record { form = keyed.1; key = (key_found text).sound keyed e; value = t.sound keyed.1 d made.0 od made.1 })

    member_fails : (text : List ℕ) (d : Data) (fault : JsonFault) (o : Option Keyed) → field_of text ≡ o → IsOrdered d →
        member_told tell o d ≡ Err fault → MemberFails (ValueFails room) text d fault
    member_fails text d fault None e od h =
        inl (
          sym (err_same Item BadKey fault h),
          λ f form k. none_some (f, form) (sym e ∙ (key_found text).complete (f, form) k),
        )
    member_fails text d fault (Some keyed) e od h =
        inr (
          keyed.0,
          keyed.1,
          (key_found text).sound keyed e,
          t.fails keyed.1 d fault od (map_err (item_of keyed.0) (tell keyed.1 d) fault h),
        )

    item_shows : (text : List ℕ) (d : Data) (x : Item) → ShowsItem text d x → MemberShows (ShowsValue room) text d
    item_shows text d x s = (x.field, s.form, x.value, s.key, s.value)

    pub members_sound : (ms : Members) (xs : List Item) → InOrder ms → members_told tell ms ≡ Ok xs → ShowsMembers ms xs
    members_sound no_members xs o h = subst (ShowsMembers no_members) (ok_same [] xs h) shows_nothing
    members_sound (member text d ms) xs (below, od, o) h =
        let first = then_ok _ (member_told tell (field_of text) d) xs h in
        let rest = map_ok (with_item first.0) (members_told tell ms) xs first.2 in
        subst (ShowsMembers (member text d ms)) rest.2 (shows_more text d ms first.0 rest.0 below
        (member_sound text d first.0 (field_of text) refl od first.1) (members_sound ms rest.0 o rest.1))

    pub members_fail : (ms : Members) (fault : JsonFault) → InOrder ms → members_told tell ms ≡ Err fault →
        MembersFail (ValueFails room) (ShowsValue room) ms fault
    members_fail no_members fault o h = ok_err {A = List Item} [] fault h
    members_fail (member text d ms) fault (below, od, o) h =
        elim (then_err _ (member_told tell (field_of text) d) fault h) [
          | inl first ↦ inl (member_fails text d fault (field_of text) refl od first)
          | inr later ↦ inr (
            item_shows text d later.0 (member_sound text d later.0 (field_of text) refl od later.1),
            members_fail ms fault o (map_err (with_item later.0) (members_told tell ms) fault later.2),
          )
        ]

    no_key : (text : List ℕ) (o : Option Keyed) → field_of text ≡ o →
        ((f : FieldId) (form : Form) → IsKey text f form → ⊥) → o ≡ None
    no_key text None e none = refl
    no_key text (Some keyed) e none = absurd (none keyed.0 keyed.1 ((key_found text).sound keyed e))

    member_refuses : (text : List ℕ) (d : Data) (fault : JsonFault) → IsOrdered d →
        MemberFails (ValueFails room) text d fault → member_told tell (field_of text) d ≡ Err fault
    member_refuses text d fault od (inl (bad, none)) =
        ap (λ o. member_told tell o d) (no_key text (field_of text) refl none) ∙ (λ i. Err (sym bad i))
    member_refuses text d fault od (inr (f, form, k, fails)) =
        ap (λ o. member_told tell o d) ((key_found text).complete (f, form) k)
        ∙ ap (λ r. told_map (item_of f) r) (t.refuses form d fault od fails)

    member_complete : (text : List ℕ) (d : Data) (f : FieldId) (form : Form) (value : List ℕ) → IsOrdered d →
        IsKey text f form → ShowsValue room form d value → member_told tell (field_of text) d ≡ Ok (item_of f value)
    member_complete text d f form value od k s =
        ap (λ o. member_told tell o d) ((key_found text).complete (f, form) k)
        ∙ ap (λ r. told_map (item_of f) r) (t.complete form d value od s)

    pub members_refuse : (ms : Members) (fault : JsonFault) → InOrder ms →
        MembersFail (ValueFails room) (ShowsValue room) ms fault → members_told tell ms ≡ Err fault
    members_refuse no_members fault o fails = absurd fails
    members_refuse (member text d ms) fault (below, od, o) (inl first) =
        ap (told_then (λ x. told_map (with_item x) (members_told tell ms))) (member_refuses text d fault od first)
    members_refuse (member text d ms) fault (below, od, o) (inr ((f, form, value, k, s), rest)) =
        ap (told_then (λ x. told_map (with_item x) (members_told tell ms))) (member_complete text d f form value od k s)
        ∙ ap (told_map (with_item (item_of f value))) (members_refuse ms fault o rest)
