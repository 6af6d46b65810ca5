-- A value shows like no other of its form.
use Rattle.std.proofs.Common.{◌≡◌, ℕ, zero, suc, ◌≤◌, Bool, true, false, List, [], ◌∷◌, length, nat_le, if◌then◌else◌}
use Rattle.std.proofs.Common.{refl, sym, ap, subst, ◌∙◌, arith}
use Rattle.std.proofs.lemmas.Bool.Decides.{nat_tests}
use Rattle.serde_json.specs.Data.{Data, number, array, object, unsigned, Items, no_items, Members}
use Rattle.serde_json.specs.Find.{get_member}
use Rattle.xo_fields.specs.declared.field.FieldId.{FieldId}
use Rattle.xo_fields.specs.declared.form.Form.{Form}
use Rattle.xo_fields.specs.declared.form.Form.TheVariants.{Fixed, Money, Blob, Account, Object, Array}
use Rattle.xo_fields.specs.Field as fields
use Rattle.xo_fields.proofs.Cases.{some_same}
use Rattle.xo_list.specs.Item.{Item, spell}
use Rattle.xo_list.specs.List.{Fits, ListFits}
use Rattle.xo_list.specs.Value.{IsValue}
use Rattle.xo_list.proofs.ListLemmas.{listed}
use Rattle.xo_showing.specs.Bytes.{AreBytes, HaveBytes, number_of_bytes}
use Rattle.xo_showing.specs.Key.{key}
use Rattle.xo_showing.specs.Showing.{hex, fixed_shown, members, elements, shown}
use Rattle.xo_showing.specs.Shows.{lowered}
use Rattle.xo_showing.specs.Laws.{OneShowing, OneShown}
use Rattle.xo_showing.proofs.Amounts.{one_text, one_money}
use Rattle.xo_showing.proofs.Bytes.{one_number_of, spelled_bytes}
use Rattle.xo_showing.proofs.Fields.{OneValue, field_shown, one_list, value_same}
use Rattle.xo_showing.proofs.Keys.{one_key}
use Rattle.xo_showing.proofs.Nested.{fields_are, elements_are}

pub one_number : (m n : ℕ) → number (unsigned m) ≡ number (unsigned n) → m ≡ n
one_number m n e = cc

pub one_object : (ms ns : Members) → object ms ≡ object ns → ms ≡ ns
one_object ms ns e = cc

pub one_array : (ds es : Items) → array ds ≡ array es → ds ≡ es
one_array ds es e = cc

one_fixed : (n : ℕ) (v w : List ℕ) → length v ≡ n → length w ≡ n → AreBytes v → AreBytes w →
    fixed_shown n v ≡ fixed_shown n w → v ≡ w
one_fixed n v w lv lw bv bw e = at (nat_le n 4) refl e
  where
    at : (small : Bool) → nat_le n 4 ≡ small →
        (if small then number (unsigned (number_of_bytes v)) else hex v)
        ≡ (if small then number (unsigned (number_of_bytes w)) else hex w) → v ≡ w
    at true is h =
        let few : n ≤ 8 = grind (arith, nat_tests) in
        one_number_of n v w few lv lw bv bw (one_number (number_of_bytes v) (number_of_bytes w) h)
    at false is h = one_text v w bv bw h

-- the same fields or elements in two nested values
same_members : (show : Form → List ℕ → Data) (xs ys : List Item) → members show xs ≡ members show ys → (f : FieldId) →
    get_member (key f) (members show xs) ≡ get_member (key f) (members show ys)
same_members show xs ys e f = ap (get_member (key f)) e

-- elements that show alike are the same
first_of : (show : Form → List ℕ → Data) (x y : Item) (xs ys : List Item) →
    elements show (x ∷ xs) ≡ elements show (y ∷ ys) →
    (key x.field ≡ key y.field) × (field_shown show x ≡ field_shown show y) × (elements show xs ≡ elements show ys)
first_of show x y xs ys e = (cc, cc, cc)

none_first : (show : Form → List ℕ → Data) (x : Item) (xs : List Item) → no_items ≡ elements show (x ∷ xs) → ⊥
none_first show x xs e = absurd cc

module _ (show : Form → List ℕ → Data) (fits : Form → List ℕ → Type 0) (one : OneValue show fits) where
  -- the element as a field of a list of its own
  as_field : (x : Item) (last : ℕ) → Fits fits true last x → Fits fits true 0 x
  as_field x last f = record { form = f.form; is = f.is; known = f.known; allowed = f.allowed; value = f.value }

  one_elements : (last less : ℕ) (xs ys : List Item) → ListFits fits true last xs → ListFits fits true less ys →
      HaveBytes xs → HaveBytes ys → elements show xs ≡ elements show ys → xs ≡ ys
  one_elements last less [] [] fx fy bx by e = refl
  one_elements last less [] (y ∷ ys) fx fy bx by e = absurd (none_first show y ys e)
  one_elements last less (x ∷ xs) [] fx fy bx by e = absurd (none_first show x xs (sym e))
  one_elements last less (x ∷ xs) (y ∷ ys) (f, fx) (g, fy) bx by e =
      let parts : (key x.field ≡ key y.field) × (field_shown show x ≡ field_shown show y)
      × (elements show xs ≡ elements show ys) =
      first_of show x y xs ys e in
      let field : x.field ≡ y.field = one_key x.field y.field f.is g.is parts.0 in
      let value : x.value ≡ y.value =
      value_same show fits one x y f.form g.form f.known g.known f.value g.value field bx.0 by.0 parts.1 in
      let rest : xs ≡ ys = one_elements (fields.number x.field) (fields.number y.field) xs ys fx fy bx.1 by.1 parts.2 in
      λ i. record { field = field i; value = value i } ∷ rest i

-- in which so many objects and arrays may be open
pub one_value : (room : ℕ) → OneValue (shown room) (IsValue room)
one_value room (Fixed n) v w fv fw bv bw e = one_fixed n v w fv fw bv bw e
one_value room Money v w fv fw bv bw e = one_money v w fv fw bv bw e
one_value room Blob v w fv fw bv bw e = one_text v w bv bw e
one_value room Account v w fv fw bv bw e = one_text v w bv bw e
one_value zero Object v w fv fw bv bw e = absurd fv
one_value zero Array v w fv fw bv bw e = absurd fv
one_value (suc room) Object v w (xs, hx) (ys, hy) bv bw e =
    let lx : ListFits (IsValue room) false 0 xs × (v ≡ spell xs) = listed (IsValue room) false 0 xs v hx in
    let ly : ListFits (IsValue room) false 0 ys × (w ≡ spell ys) = listed (IsValue room) false 0 ys w hy in
    let alike : members (shown room) xs ≡ members (shown room) ys =
    ap (members (shown room)) (sym (fields_are room xs v hx))
    ∙ one_object _ _ e
    ∙ ap (members (shown room)) (fields_are room ys w hy) in
    let same : xs ≡ ys = one_list (shown room) (IsValue room) (one_value room) 0 xs ys lx.0 ly.0
    (spelled_bytes (IsValue room) false 0 xs lx.0 (subst AreBytes lx.1 bv))
    (spelled_bytes (IsValue room) false 0 ys ly.0 (subst AreBytes ly.1 bw))
    (λ f a lt. same_members (shown room) xs ys alike f) in
    lx.1 ∙ ap spell same ∙ sym ly.1
one_value (suc room) Array v w (xs, hx) (ys, hy) bv bw e =
    let lx : ListFits (IsValue room) true 0 xs × (v ≡ spell xs) = listed (IsValue room) true 0 xs v hx in
    let ly : ListFits (IsValue room) true 0 ys × (w ≡ spell ys) = listed (IsValue room) true 0 ys w hy in
    let alike : elements (shown room) xs ≡ elements (shown room) ys =
    ap (elements (shown room)) (sym (elements_are room xs v hx))
    ∙ one_array _ _ e
    ∙ ap (elements (shown room)) (elements_are room ys w hy) in
    let same : xs ≡ ys = one_elements (shown room) (IsValue room) (one_value room) 0 0 xs ys lx.0 ly.0
    (spelled_bytes (IsValue room) true 0 xs lx.0 (subst AreBytes lx.1 bv))
    (spelled_bytes (IsValue room) true 0 ys ly.0 (subst AreBytes ly.1 bw)) alike in
    lx.1 ∙ ap spell same ∙ sym ly.1

pub one_showing : OneShowing
one_showing xs ys lx ly bx by e =
    one_list (shown 10) (IsValue 10) (one_value 10) 0 xs ys lx ly bx by
    (λ f a lt. same_members (shown 10) xs ys (one_object _ _ e) f)

pub one_shown : OneShown
one_shown text xs ys lx ly bx by (d, rx, dx) (e, ry, dy) =
    let same : d ≡ e = some_same d e (sym rx ∙ ry) in
    one_showing xs ys lx ly bx by (sym dx ∙ ap lowered same ∙ dy)
