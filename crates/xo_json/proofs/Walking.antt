-- Members that are read one by one.
use Rattle.std.proofs.Common.{◌≡◌, ℕ, zero, suc, ◌+◌, ◌-◌, ◌≤◌, true, false, List, [], ◌∷◌, ◌++◌, if◌then◌else◌, nat_lt}
use Rattle.std.proofs.Common.{refl, sym, ap, ap₂, subst, ◌∙◌, arith, Option, Some, None, Ordering, Less, Equal, Greater}
use Rattle.std.proofs.Common.{string_bytes, string_cmp, nat_cmp}
use Rattle.std.specs.Cmp.Lexicographic.{slice_cmp}
use Rattle.std.specs.List.{AllByRecursion}
use Rattle.std.specs.List.Sorted.{IsStrictlySortedBy}
use Rattle.std.specs.Map.{keys_of}
use Rattle.std.specs.Ordering.{match_ordering}
use Rattle.std.proofs.lemmas.Bool.Decides.{nat_tests}
use Rattle.std.proofs.lemmas.Cmp.{nat_list_cmp_total, tied_itself}
use Rattle.serde_json.specs.Data.{Data, object, array, Items, item, no_items, Members, no_members, member, put}
use Rattle.serde_json.specs.Find.{get_member}
use Rattle.serde_json.specs.View.{view, members_view}
use Rattle.serde_json.proofs.Views.{Entry, put_last, get_member-put, get_member-put_other, member_later}
use Rattle.xo_fields.specs.declared.field.FieldId.{FieldId}
use Rattle.xo_fields.specs.declared.form.Form.{Form}
use Rattle.xo_fields.specs.declared.form.Form.TheVariants.{Object, Array}
use Rattle.xo_fields.specs.Field.{number}
use Rattle.xo_fields.specs.Form.{form_at}
use Rattle.xo_fields.proofs.Cases.{pick, some_same, none_some}
use Rattle.xo_list.specs.Item.{Item, is_same, lookup, spell, with_item}
use Rattle.xo_list.specs.List.{ListFits, IsList, IsFit}
use Rattle.xo_list.specs.Value.{Whole, IsValue, IsObject}
use Rattle.xo_list.proofs.Building.{list_more}
use Rattle.xo_list.proofs.ListLemmas.{one_field, room_more, listed, spelled}
use Rattle.xo_showing.specs.Bytes.{AreBytes, HaveBytes}
use Rattle.xo_showing.specs.Key.{key}
use Rattle.xo_showing.specs.Showing.{members, elements, shown, value_shown}
use Rattle.xo_showing.specs.Shows.{lowered, lowered_members}
use Rattle.xo_showing.proofs.Fields.{put_in}
use Rattle.xo_showing.proofs.Nested.{fields_are, elements_are}
use Rattle.xo_json.specs.Parts.{ShowsFields, ShowsElements}
use Rattle.xo_told.specs.Reading.{IsKey, ShowsValue, ShowsElement}

-- ---- keys in order

below_middle : (first : Entry) (done : List Entry) (e : Entry) (more : List Entry) →
    AllByRecursion (λ y. string_cmp first.0 y ≡ Less) (keys_of (done ++ e ∷ more)) → string_cmp first.0 e.0 ≡ Less
below_middle first [] e more h = h.0
below_middle first (x ∷ done) e more h = below_middle first done e more h.1

apart_if : (k l : List ℕ) → slice_cmp nat_cmp l k ≡ Less → k ≡ l → ⊥
apart_if k l less same =
    let tied : slice_cmp nat_cmp l l ≡ Equal = tied_itself nat_list_cmp_total l in
    let less_itself : slice_cmp nat_cmp l l ≡ Less = ap (slice_cmp nat_cmp l) (sym same) ∙ less in
    clash _ tied less_itself
  where
    clash : (o : Ordering) → o ≡ Equal → o ≡ Less → ⊥
    clash Less e h = cc e
    clash Equal e h = cc h
    clash Greater e h = cc e

-- a key isn't among those before it
fresh : (done : List Entry) (e : Entry) (more : List Entry) →
    IsStrictlySortedBy string_cmp (keys_of (done ++ e ∷ more)) →
    get_member (string_bytes e.0) (members_view done) ≡ None
unfolding IsStrictlySortedBy
fresh [] e more h = refl
fresh (first ∷ done) e more h =
    member_later (string_bytes e.0) first done
    (apart_if (string_bytes e.0) (string_bytes first.0) (below_middle first done e more h.0))
    ∙ fresh done e more h.1

-- ---- members in lower case

none_in : (o : Ordering) (a b : Option Data) (d e : Data) → (a ≡ None → b ≡ None) →
    match_ordering o a (Some d) a ≡ None → match_ordering o b (Some e) b ≡ None
none_in Less a b d e same h = same h
none_in Equal a b d e same h = cc h
none_in Greater a b d e same h = same h

lowered_none : (k : List ℕ) (ms : Members) → get_member k ms ≡ None → get_member k (lowered_members ms) ≡ None
lowered_none k no_members h = refl
lowered_none k (member l e ms) h =
    none_in (slice_cmp nat_cmp k l) (get_member k ms) (get_member k (lowered_members ms)) e (lowered e)
    (lowered_none k ms) h

lowered_choice : (o : Ordering) (a b c : Members) →
    lowered_members (match_ordering o a b c)
    ≡ match_ordering o (lowered_members a) (lowered_members b) (lowered_members c)
lowered_choice Less a b c = refl
lowered_choice Equal a b c = refl
lowered_choice Greater a b c = refl

lowered_put : (k : List ℕ) (d : Data) (ms : Members) →
    lowered_members (put k d ms) ≡ put k (lowered d) (lowered_members ms)
lowered_put k d no_members = refl
lowered_put k d (member l e ms) =
    lowered_choice (slice_cmp nat_cmp k l) (member k d (member l e ms)) (member l d ms) (member l e (put k d ms))
    ∙ ap (λ rest.
    match_ordering (slice_cmp nat_cmp k l) (member k (lowered d) (member l (lowered e) (lowered_members ms)))
    (member l (lowered d) (lowered_members ms)) (member l (lowered e) rest)) (lowered_put k d ms)

-- ---- fields that have no member

put_none : (q k : List ℕ) (d : Data) (ms : Members) → get_member q (put k d ms) ≡ None →
    (q ≡ k → ⊥) × (get_member q ms ≡ None)
put_none q k d ms e =
    let apart : q ≡ k → ⊥ = λ h. none_some d (sym e ∙ ap (λ x. get_member x (put k d ms)) h ∙ get_member-put k d ms) in
    (apart, sym (get_member-put_other q k d ms apart) ∙ e)

-- a field whose key no member has isn't among the fields
absent : (show : Form → List ℕ → Data) (f : FieldId) (xs : List Item) → get_member (key f) (members show xs) ≡ None →
    lookup f xs ≡ None
absent show f [] e = refl
absent show f (y ∷ ys) e =
    let none = put_none (key f) (key y.field) (value_shown show (form_at y.field.kind) y.value) (members show ys) e in
    pick (λ o. o ≡ None) (is_same y.field f) (Some y.value) (lookup f ys)
    (λ same. absurd (none.0 (ap key (sym (one_field y.field f same))))) (λ other. absent show f ys none.1)

-- ---- each field of a list

abbrev pub Each : (Item → Type 0) → List Item → Type 0
Each P [] = Unit {0}
Each P (x ∷ xs) = P x × Each P xs

each_with : (P : Item → Type 0) (x : Item) (xs : List Item) → P x → Each P xs → Each P (with_item x xs)
each_with P x [] p h = (p, tt)
each_with P x (y ∷ ys) p h =
    pick (Each P) (nat_lt (number x.field) (number y.field)) (x ∷ y ∷ ys)
    (if nat_lt (number y.field) (number x.field) then y ∷ with_item x ys else x ∷ ys) (λ less. (p, h))
    (λ more.
    pick (Each P) (nat_lt (number y.field) (number x.field)) (y ∷ with_item x ys) (x ∷ ys)
    (λ less. (h.0, each_with P x ys p h.1)) (λ same. (p, h.1)))

-- the field's value fits, where so many objects and arrays may be open in it
abbrev pub Holds : ℕ → Item → Type 0
Holds room x = (form : Form) × (form_at x.field.kind ≡ Some form) × IsValue room form x.value × AreBytes x.value

pub fits_room : (room last : ℕ) (xs : List Item) → ListFits (IsValue 10) false last xs → Each (Holds room) xs →
    ListFits (IsValue room) false last xs
fits_room room last [] h each = tt
fits_room room last (x ∷ xs) (f, h) ((form, known, fit, small), each) =
    let same : form ≡ f.form = some_same form f.form (sym known ∙ f.known) in (
      record {
        form = f.form;
        is = f.is;
        known = f.known;
        allowed = f.allowed;
        value = subst (λ k. IsValue room k x.value) same fit;
      },
      fits_room room (number x.field) xs h each,
    )

pub bytes_of : (room : ℕ) (xs : List Item) → Each (Holds room) xs → HaveBytes xs
bytes_of room [] each = tt
bytes_of room (x ∷ xs) ((form, known, fit, small), each) = (small, bytes_of room xs each)

-- ---- more room

wide : (more room : ℕ) (form : Form) (value : List ℕ) → IsValue room form value → IsValue (more + room) form value
wide zero room form value h = let same : room ≡ zero + room = omega arith in subst (λ n. IsValue n form value) same h
wide (suc more) room form value h =
    let same : suc (more + room) ≡ suc more + room = omega arith in
    subst (λ n. IsValue n form value) same (room_more (more + room) form value (wide more room form value h))

pub wider : (room : ℕ) (form : Form) (value : List ℕ) → room ≤ 10 → IsValue room form value → IsValue 10 form value
wider room form value le h =
    let same : (10 - room) + room ≡ 10 = omega arith in
    subst (λ n. IsValue n form value) same (wide (10 - room) room form value h)

pub fit_10 : (room : ℕ) (text : List ℕ) (field : FieldId) (form : Form) (d : Data) (value : List ℕ) → room ≤ 10 →
    IsKey text field form → ShowsValue room form d value → IsFit field value
fit_10 room text field form d value le k s = (form, k.is, k.known, wider room form value le s.fits)

-- ---- one member more

-- the fields so far, and the members that show them
pub record Held (room : ℕ) (xs : List Item) (ms : Members) : Type 0 where
  pub list : IsList xs
  pub each : Each (Holds room) xs
  pub shows : lowered_members ms ≡ members (shown room) xs

pub held_none : (room : ℕ) → Held room [] no_members
held_none room = record { list = tt; each = tt; shows = refl }

module _ (room : ℕ) (le : room ≤ 10) (done : List Entry) (e : Entry) (more : List Entry)
    (sorted : IsStrictlySortedBy string_cmp (keys_of (done ++ e ∷ more)))
    (xs : List Item) (held : Held room xs (members_view done)) (field : FieldId) (form : Form) (value : List ℕ)
    (k : IsKey (string_bytes e.0) field form) (s : ShowsValue room form (view e.1) value) where
  pub not_yet : lookup field xs ≡ None
  not_yet =
      absent (shown room) field xs
      (ap (λ x. get_member x (members (shown room) xs)) k.spelled
      ∙ ap (get_member (string_bytes e.0)) (sym held.shows)
      ∙ lowered_none (string_bytes e.0) (members_view done) (fresh done e more sorted))

  pub held_more : Held room (with_item (record { field = field; value = value }) xs) (members_view (done ++ e ∷ []))
  held_more =
      let x : Item = record { field = field; value = value } in
      record {
        list = list_more xs field value held.list (fit_10 room (string_bytes e.0) field form (view e.1) value le k s);
        each = each_with (Holds room) x xs (form, k.known, s.fits, s.bytes) held.each;
        shows =
            ap lowered_members (sym (put_last done e more sorted))
            ∙ lowered_put (string_bytes e.0) (view e.1) (members_view done)
            ∙ ap₂ (put (string_bytes e.0)) (s.shows ∙ ap (λ o. value_shown (shown room) o value) (sym k.known))
            held.shows
            ∙ ap (λ t. put t (value_shown (shown room) (form_at field.kind) value) (members (shown room) xs))
            (sym k.spelled)
            ∙ sym (put_in (shown room) (IsValue 10) x 0 xs k.is held.list not_yet);
      }

pub held_shows : (room : ℕ) (xs : List Item) (ms : Members) → Held room xs ms → ShowsFields room ms xs
held_shows room xs ms held = record {
  fits = fits_room room 0 xs held.list held.each;
  bytes = bytes_of room xs held.each;
  shows = held.shows;
}

-- ---- nested objects

pub object_shows : (room : ℕ) (d : Data) (ms : Members) (xs : List Item) (bytes : List ℕ) → d ≡ object ms →
    ShowsFields room ms xs → AreBytes bytes → IsObject xs bytes → ShowsValue (suc room) Object d bytes
object_shows room d ms xs bytes is s small whole_10 =
    let spelt : bytes ≡ spell xs = (listed (IsValue 10) false 0 xs bytes whole_10).1 in
    let whole : Whole (IsValue room) false xs bytes =
    subst (Whole (IsValue room) false xs) (sym spelt) (spelled (IsValue room) false 0 xs s.fits) in
    record {
      bytes = small;
      fits = (xs, whole);
      shows =
          ap lowered is
          ∙ ap object s.shows
          ∙ ap (λ ys. object (members (shown room) ys)) (sym (fields_are room xs bytes whole));
    }

-- ---- one element more

any_last : (fits : Form → List ℕ → Type 0) (a b : ℕ) (xs : List Item) → ListFits fits true a xs →
    ListFits fits true b xs
any_last fits a b [] h = tt
any_last fits a b (x ∷ xs) (f, h) =
    (record { form = f.form; is = f.is; known = f.known; allowed = f.allowed; value = f.value }, h)

-- a field whose kind has objects for values is of kind 14
kind_is : (kind : ℕ) → form_at kind ≡ Some Object → kind ≡ 14
kind_is kind e = grind (arith, nat_tests)

pub element_first : (room : ℕ) (d : Data) (ds : Items) (field : FieldId) (value : List ℕ) (ys : List Item) →
    ShowsElement (ShowsValue room) d field value → ShowsElements room ds ys →
    ShowsElements room (item d ds) (record { field = field; value = value } ∷ ys)
element_first room d ds field value ys (text, inner, is, k, s) rest =
    let one : lowered d ≡ object (member (key field) (value_shown (shown room) (form_at field.kind) value) no_members) =
    ap lowered is
    ∙ (λ i.
    object
    (member (sym k.spelled i) ((s.shows ∙ ap (λ o. value_shown (shown room) o value) (sym k.known)) i) no_members)) in
    record {
      fits = (
        record { form = Object; is = k.is; known = k.known; allowed = kind_is field.kind k.known; value = s.fits },
        any_last (IsValue room) 0 (number field) ys rest.fits,
      );
      bytes = (s.bytes, rest.bytes);
      shows = λ i. item (one i) (rest.shows i);
    }

pub no_elements : (room : ℕ) → ShowsElements room no_items []
no_elements room = record { fits = tt; bytes = tt; shows = refl }

-- ---- nested arrays

pub array_shows : (room : ℕ) (d : Data) (ds : Items) (xs : List Item) (bytes : List ℕ) → d ≡ array ds →
    ShowsElements room ds xs → AreBytes bytes → bytes ≡ spell xs → ShowsValue (suc room) Array d bytes
array_shows room d ds xs bytes is s small spelt =
    let whole : Whole (IsValue room) true xs bytes =
    subst (Whole (IsValue room) true xs) (sym spelt) (spelled (IsValue room) true 0 xs s.fits) in
    record {
      bytes = small;
      fits = (xs, whole);
      shows =
          ap lowered is
          ∙ ap array s.shows
          ∙ ap (λ ys. array (elements (shown room) ys)) (sym (elements_are room xs bytes whole));
    }
