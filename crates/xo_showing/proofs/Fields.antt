-- The members of lists of fields in rising order.
use Rattle.std.proofs.Common.{◌≡◌, ℕ, ◌<◌, ◌≤◌, Bool, true, false, List, [], ◌∷◌, ◌++◌, refl, sym, ap, subst, ◌∙◌}
use Rattle.std.proofs.Common.{arith, Some, None, nat_lt, if◌then◌else◌}
use Rattle.std.proofs.lemmas.Bool.Decides.{nat_tests}
use Rattle.serde_json.specs.Data.{Data, object, put}
use Rattle.serde_json.specs.Find.{get_member}
use Rattle.serde_json.proofs.Views.{get_member-put, get_member-put_other}
use Rattle.xo_fields.specs.declared.field.FieldId.{FieldId}
use Rattle.xo_fields.specs.declared.form.Form.{Form}
use Rattle.xo_fields.specs.Field.{number}
use Rattle.xo_fields.specs.Form.{form_at}
use Rattle.xo_fields.specs.Header.{IsField}
use Rattle.xo_fields.proofs.Cases.{either, pick_below, none_some, some_same}
use Rattle.xo_list.specs.Item.{Item, is_same, lookup, with_item}
use Rattle.xo_list.specs.List.{Fits, ListFits}
use Rattle.xo_list.specs.Value.{IsValue}
use Rattle.xo_list.proofs.Cuts.{same_itself}
use Rattle.xo_showing.specs.Bytes.{AreBytes, HaveBytes}
use Rattle.xo_showing.specs.Key.{key}
use Rattle.xo_showing.specs.Laws.{PutShows}
use Rattle.xo_showing.specs.Showing.{members, shown, value_shown}
use Rattle.xo_showing.proofs.Keys.{one_key, one_number}
use Rattle.xo_showing.proofs.Members.{any_order}

-- what a field shows by a function
abbrev pub field_shown : (Form → List ℕ → Data) → Item → Data
field_shown show x = value_shown show (form_at x.field.kind) x.value

keys_apart : (f g : FieldId) → IsField f → IsField g → (number f ≡ number g → ⊥) → key f ≡ key g → ⊥
keys_apart f g a b apart e = apart (ap number (one_key f g a b e))

neither : (m n : ℕ) → (m < n → ⊥) → (n < m → ⊥) → m ≡ n
neither m n less more =
    either (nat_lt m n) (λ e. let lt : m < n = grind (arith, nat_tests) in absurd (less lt))
    (λ e.
    either (nat_lt n m) (λ h. let gt : n < m = grind (arith, nat_tests) in absurd (more gt))
    (λ h. grind (arith, nat_tests)))

module _ (show : Form → List ℕ → Data) (fits : Form → List ℕ → Type 0) where
  -- ---- a field put in its place

  with_equal : (x y : Item) (ys : List Item) → IsField x.field → IsField y.field → number x.field ≡ number y.field →
      lookup x.field (y ∷ ys) ≡ None → ⊥
  with_equal x y ys a b e absent =
      let same : y.field ≡ x.field = one_number y.field x.field b a (sym e) in
      let there : lookup x.field (y ∷ ys) ≡ Some y.value =
      ap (λ f. if is_same y.field f then Some y.value else lookup f ys) (sym same)
      ∙ ap (λ t. if t then Some y.value else lookup y.field ys) (same_itself y.field) in
      none_some y.value (sym absent ∙ there)

  lookup_later : (x y : Item) (ys : List Item) → lookup x.field (y ∷ ys) ≡ None → lookup x.field ys ≡ None
  lookup_later x y ys absent = at (is_same y.field x.field) absent
    where
      at : (b : Bool) → (if b then Some y.value else lookup x.field ys) ≡ None → lookup x.field ys ≡ None
      at true h = none_some y.value (sym h)
      at false h = h

  pub put_in : (x : Item) (last : ℕ) (xs : List Item) → IsField x.field → ListFits fits false last xs →
      lookup x.field xs ≡ None →
      members show (with_item x xs) ≡ put (key x.field) (field_shown show x) (members show xs)
  put_in x last [] a fit absent = refl
  put_in x last (y ∷ ys) a (f, fit) absent =
      pick_below (λ zs. members show zs ≡ put (key x.field) (field_shown show x) (members show (y ∷ ys)))
      (number x.field) (number y.field) (x ∷ y ∷ ys)
      (if nat_lt (number y.field) (number x.field) then y ∷ with_item x ys else x ∷ ys)
      (λ lt. refl)
      (λ le. pick_below (λ zs. members show zs ≡ put (key x.field) (field_shown show x) (members show (y ∷ ys)))
      (number y.field) (number x.field) (y ∷ with_item x ys) (x ∷ ys)
      (λ lt. ap (put (key y.field) (field_shown show y))
      (put_in x (number y.field) ys a fit (lookup_later x y ys absent))
      ∙ any_order (key y.field) (key x.field) (field_shown show y) (field_shown show x) (members show ys)
      (keys_apart y.field x.field f.is a (λ e. omega (arith, e))))
      (λ ge. absurd (with_equal x y ys a f.is (omega arith) absent)))

  -- ---- the last field of a list

  pub put_last : (last : ℕ) (xs : List Item) (x : Item) → ListFits fits false last (xs ++ x ∷ []) →
      members show (xs ++ x ∷ []) ≡ put (key x.field) (field_shown show x) (members show xs)
  put_last last [] x fit = refl
  put_last last (y ∷ ys) x (f, fit) =
      let behind : IsField x.field × (number y.field < number x.field) = last_of (number y.field) ys fit in
      ap (put (key y.field) (field_shown show y)) (put_last (number y.field) ys x fit)
      ∙ any_order (key y.field) (key x.field) (field_shown show y) (field_shown show x) (members show ys)
      (keys_apart y.field x.field f.is behind.0 (λ e. omega (arith, behind.1, e)))
    where
      last_of : (low : ℕ) (zs : List Item) → ListFits fits false low (zs ++ x ∷ []) →
          IsField x.field × (low < number x.field)
      last_of low [] (g, h) = (g.is, g.allowed)
      last_of low (z ∷ zs) (g, h) =
          let more : IsField x.field × (number z.field < number x.field) = last_of (number z.field) zs h in
          (more.0, omega (arith, more.1, g.allowed))

  -- ---- one list

  -- a field that isn't above the last number has no member
  pub below_none : (f : FieldId) (last : ℕ) (xs : List Item) → IsField f → number f ≤ last →
      ListFits fits false last xs → get_member (key f) (members show xs) ≡ None
  below_none f last [] a le fit = refl
  below_none f last (x ∷ xs) a le (g, fit) =
      get_member-put_other (key f) (key x.field) (field_shown show x) (members show xs)
      (keys_apart f x.field a g.is (λ e. omega (arith, e, g.allowed)))
      ∙ below_none f (number x.field) xs a (omega (arith, g.allowed)) fit

  -- the members of the fields above a number are the same
  abbrev pub SameAbove : ℕ → List Item → List Item → Type 0
  SameAbove last xs ys =
      (f : FieldId) → IsField f → last < number f →
      get_member (key f) (members show xs) ≡ get_member (key f) (members show ys)

  -- a value shows like no other
  abbrev pub OneValue : Type 0
  OneValue =
      (form : Form) (v w : List ℕ) → fits form v → fits form w → AreBytes v → AreBytes w → show form v ≡ show form w →
      v ≡ w

  first_below : (x y : Item) (last : ℕ) (xs ys : List Item) → Fits fits false last x → Fits fits false last y →
      ListFits fits false (number y.field) ys → number x.field < number y.field → SameAbove last (x ∷ xs) (y ∷ ys) → ⊥
  first_below x y last xs ys f g fit lt same =
      let here : get_member (key x.field) (members show (x ∷ xs)) ≡ Some (field_shown show x) =
      get_member-put (key x.field) (field_shown show x) (members show xs) in
      let there : get_member (key x.field) (members show (y ∷ ys)) ≡ None =
      get_member-put_other (key x.field) (key y.field) (field_shown show y) (members show ys)
      (keys_apart x.field y.field f.is g.is (λ e. omega (arith, e)))
      ∙ below_none x.field (number y.field) ys f.is (omega arith) fit in
      none_some (field_shown show x) (sym there ∙ sym (same x.field f.is f.allowed) ∙ here)

  same_turned : (last : ℕ) (xs ys : List Item) → SameAbove last xs ys → SameAbove last ys xs
  same_turned last xs ys same f a lt = sym (same f a lt)

  pub value_same : OneValue → (x y : Item) (o p : Form) → form_at x.field.kind ≡ Some o →
      form_at y.field.kind ≡ Some p → fits o x.value → fits p y.value → x.field ≡ y.field → AreBytes x.value →
      AreBytes y.value →
      field_shown show x ≡ field_shown show y → x.value ≡ y.value
  value_same one x y o p ko kp fx fy same bx by e =
      let form_same : o ≡ p = some_same o p (sym ko ∙ ap (λ (h : FieldId). form_at h.kind) same ∙ kp) in
      let shows : show o x.value ≡ show o y.value =
      sym (ap (λ q. value_shown show q x.value) ko)
      ∙ e
      ∙ ap (λ q. value_shown show q y.value) kp
      ∙ ap (λ q. show q y.value) (sym form_same) in
      one o x.value y.value fx (subst (λ q. fits q y.value) (sym form_same) fy) bx by shows

  tails_same : (x y : Item) (last : ℕ) (xs ys : List Item) → IsField x.field → IsField y.field → last < number x.field →
      x.field ≡ y.field → SameAbove last (x ∷ xs) (y ∷ ys) → SameAbove (number x.field) xs ys
  tails_same x y last xs ys a b low same h f c lt =
      let apart : key f ≡ key x.field → ⊥ = keys_apart f x.field c a (λ e. omega (arith, e)) in
      sym (get_member-put_other (key f) (key x.field) (field_shown show x) (members show xs) apart)
      ∙ h f c (omega arith)
      ∙ get_member-put_other (key f) (key y.field) (field_shown show y) (members show ys)
      (λ e. apart (e ∙ ap key (sym same)))

  pub one_list : OneValue → (last : ℕ) (xs ys : List Item) → ListFits fits false last xs → ListFits fits false last ys →
      HaveBytes xs → HaveBytes ys → SameAbove last xs ys → xs ≡ ys
  one_list one last [] [] fx fy bx by same = refl
  one_list one last [] (y ∷ ys) fx (g, fy) bx by same =
      none_some (field_shown show y)
      (same y.field g.is g.allowed ∙ get_member-put (key y.field) (field_shown show y) (members show ys))
  one_list one last (x ∷ xs) [] (f, fx) fy bx by same =
      none_some (field_shown show x)
      (sym (same x.field f.is f.allowed) ∙ get_member-put (key x.field) (field_shown show x) (members show xs))
  one_list one last (x ∷ xs) (y ∷ ys) (f, fx) (g, fy) bx by same =
      let no_less : number x.field < number y.field → ⊥ = λ lt. first_below x y last xs ys f g fy lt same in
      let no_more : number y.field < number x.field → ⊥ =
      λ lt. first_below y x last ys xs g f fx lt (same_turned last (x ∷ xs) (y ∷ ys) same) in
      let field : x.field ≡ y.field =
      one_number x.field y.field f.is g.is (neither (number x.field) (number y.field) no_less no_more) in
      let shows : field_shown show x ≡ field_shown show y = some_same _ _ (
      sym (get_member-put (key x.field) (field_shown show x) (members show xs)) ∙ same x.field f.is f.allowed
      ∙ ap (λ (h : FieldId). get_member (key h) (members show (y ∷ ys))) field
      ∙ get_member-put (key y.field) (field_shown show y) (members show ys)) in
      let value : x.value ≡ y.value =
      value_same one x y f.form g.form f.known g.known f.value g.value field bx.0 by.0 shows in
      let rest : xs ≡ ys =
      one_list one (number x.field) xs ys fx (subst (λ (h : FieldId). ListFits fits false (number h) ys) (sym field) fy)
      bx.1 by.1 (tails_same x y last xs ys f.is g.is f.allowed field same) in
      λ i. record { field = field i; value = value i } ∷ rest i

pub put_shows : PutShows
put_shows x xs a fit absent = ap object (put_in (shown 10) (IsValue 10) x 0 xs a fit absent)
