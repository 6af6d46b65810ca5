-- Lists of fields apart from their bytes.
use Rattle.std.proofs.Common.{◌≡◌, ℕ, zero, suc, ◌<◌, ◌≤◌, Bool, true, false, List, [], ◌∷◌, ◌++◌, refl, sym, ap, subst}
use Rattle.std.proofs.Common.{◌∙◌, arith, if◌then◌else◌, nat_lt}
use Rattle.std.proofs.lemmas.Bool.Decides.{nat_tests}
use Rattle.xo_fields.specs.declared.field.FieldId.{FieldId}
use Rattle.xo_fields.specs.declared.form.Form.{Form}
use Rattle.xo_fields.specs.declared.form.Form.TheVariants.{Fixed, Money, Blob, Account, Object, Array}
use Rattle.xo_fields.specs.Field.{number}
use Rattle.xo_fields.specs.Header.{header}
use Rattle.xo_list.specs.Item.{Item, body, body_of, spell, is_same, without, with_item}
use Rattle.xo_list.specs.Value.{Goes, IsValue}
use Rattle.xo_list.specs.List.{Fits, ListFits}
use Rattle.xo_list.specs.Laws.{OneSpelling, OneArray, MoreRoom, Edits}

-- the bytes are the list spelled, and the list fits
pub listed : (fits : Form → List ℕ → Type 0) (array : Bool) (last : ℕ) (items : List Item) (bytes : List ℕ) →
    Goes fits array last items bytes (λ _ rest. rest ≡ []) →
    ListFits fits array last items × (bytes ≡ spell items)
listed fits array last [] bytes h = (tt, h)
listed fits array last (x ∷ xs) bytes (tail, s, h) =
    let more : ListFits fits array (number x.field) xs × (tail ≡ spell xs) =
    listed fits array (number x.field) xs tail h in (
      (
        record { form = s.form; is = s.head.is; known = s.head.known; allowed = s.head.allowed; value = s.value },
        more.0,
      ),
      s.head.whole
          ∙ ap (λ t. header x.field ++ (body s.form x.value ++ t)) more.1
          ∙ ap (λ o. header x.field ++ (body_of o x.value ++ spell xs)) (sym s.head.known),
    )

-- a list that fits is spelled
pub spelled : (fits : Form → List ℕ → Type 0) (array : Bool) (last : ℕ) (items : List Item) →
    ListFits fits array last items → Goes fits array last items (spell items) (λ _ rest. rest ≡ [])
spelled fits array last [] h = refl
spelled fits array last (x ∷ xs) (f, h) = (
  spell xs,
  record {
    form = f.form;
    value = f.value;
    head = record {
      is = f.is;
      known = f.known;
      allowed = f.allowed;
      whole = ap (λ o. header x.field ++ (body_of o x.value ++ spell xs)) f.known;
    };
  },
  spelled fits array (number x.field) xs h,
)

pub spelling_one : OneSpelling
spelling_one =
    (λ items bytes h. listed (IsValue 10) false 0 items bytes h, λ items h. spelled (IsValue 10) false 0 items h)

pub array_one : OneArray
array_one items bytes h = (listed (IsValue 9) true 0 items bytes h).1

-- more may fit
fits_more : (fits wider : Form → List ℕ → Type 0) →
    ((form : Form) (value : List ℕ) → fits form value → wider form value) →
    (array : Bool) (last : ℕ) (items : List Item) (bytes : List ℕ) (asked : ℕ → List ℕ → Type 0) →
    Goes fits array last items bytes asked → Goes wider array last items bytes asked
fits_more fits wider more array last [] bytes asked h = h
fits_more fits wider more array last (x ∷ xs) bytes asked (tail, s, h) = (
  tail,
  record { form = s.form; head = s.head; value = more s.form x.value s.value },
  fits_more fits wider more array (number x.field) xs tail asked h,
)

pub room_more : MoreRoom
room_more room (Fixed n) value h = h
room_more room Money value h = h
room_more room Blob value h = h
room_more room Account value h = h
room_more zero Object value h = absurd h
room_more zero Array value h = absurd h
room_more (suc room) Object value (items, h) =
    (items, fits_more (IsValue room) (IsValue (suc room)) (room_more room) false 0 items value (λ _ rest. rest ≡ []) h)
room_more (suc room) Array value (items, h) =
    (items, fits_more (IsValue room) (IsValue (suc room)) (room_more room) true 0 items value (λ _ rest. rest ≡ []) h)

-- after a lesser field
pub lower : (fits : Form → List ℕ → Type 0) (last less : ℕ) (items : List Item) → less ≤ last →
    ListFits fits false last items → ListFits fits false less items
lower fits last less [] le h = tt
lower fits last less (x ∷ xs) le (f, h) =
    let above : less < number x.field = omega (arith, f.allowed) in
    (record { form = f.form; is = f.is; known = f.known; allowed = above; value = f.value }, h)

without_fits : (fits : Form → List ℕ → Type 0) (f : FieldId) (last : ℕ) (items : List Item) →
    ListFits fits false last items → ListFits fits false last (without f items)
without_fits fits f last [] h = tt
without_fits fits f last (x ∷ xs) (g, h) = chosen (is_same x.field f) (without_fits fits f (number x.field) xs h)
  where
    chosen : (same : Bool) → ListFits fits false (number x.field) (without f xs) →
        ListFits fits false last (if same then without f xs else x ∷ without f xs)
    chosen true rest = lower fits (number x.field) last (without f xs) (omega (arith, g.allowed)) rest
    chosen false rest = (g, rest)

-- fields that are the same are equal
pub one_field : (f g : FieldId) → is_same f g ≡ true → f ≡ g
one_field f g e =
    let kind : f.kind ≡ g.kind = grind (arith, nat_tests) in
    let last : f.code ≡ g.code = grind (arith, nat_tests) in
    (λ i. record { kind = kind i; code = last i })

pub with_fits : (fits : Form → List ℕ → Type 0) (x : Item) (last : ℕ) (items : List Item) → Fits fits false last x →
    ListFits fits false last items → ListFits fits false last (with_item x items)
with_fits fits x last [] f h = (f, tt)
with_fits fits x last (y ∷ ys) f (g, h) =
    first (λ later. with_fits fits x (number y.field) ys later h) (nat_lt (number x.field) (number y.field)) refl
  where
    again : number y.field < number x.field → Fits fits false (number y.field) x
    again lt = record { form = f.form; is = f.is; known = f.known; allowed = lt; value = f.value }

    second : (Fits fits false (number y.field) x → ListFits fits false (number y.field) (with_item x ys)) →
        (less : Bool) → nat_lt (number y.field) (number x.field) ≡ less → number y.field ≤ number x.field →
        ListFits fits false last (if less then y ∷ with_item x ys else x ∷ ys)
    second rest true e le = let lt : number y.field < number x.field = grind (arith, nat_tests) in (g, rest (again lt))
    second rest false e le =
        let same : number y.field ≡ number x.field = grind (arith, nat_tests) in
        (f, subst (λ n. ListFits fits false n ys) same h)

    first : (Fits fits false (number y.field) x → ListFits fits false (number y.field) (with_item x ys)) →
        (less : Bool) → nat_lt (number x.field) (number y.field) ≡ less →
        ListFits fits false last
        (if less then x ∷ y ∷ ys else if nat_lt (number y.field) (number x.field) then y ∷ with_item x ys else x ∷ ys)
    first rest true e =
        let lt : number x.field < number y.field = grind (arith, nat_tests) in
        (f, (record { form = g.form; is = g.is; known = g.known; allowed = lt; value = g.value }, h))
    first rest false e = second rest (nat_lt (number y.field) (number x.field)) refl (grind (arith, nat_tests))

pub edits_fit : Edits
edits_fit items h = (λ f. without_fits (IsValue 10) f 0 items h, λ x (f, e). with_fits (IsValue 10) x 0 items f h)
