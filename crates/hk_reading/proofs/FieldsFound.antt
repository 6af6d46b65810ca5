-- The fields that bytes have are found.
use Rattle.std.proofs.Common.{◌≡◌, ℕ, zero, suc, ◌≤◌, ◌==◌, Bool, true, false, List, [], ◌∷◌, ◌++◌, length, take, refl}
use Rattle.std.proofs.Common.{sym, ap, subst, ◌∙◌, arith, append-nil, append_assoc, length-append, Option, Some, None}
use Rattle.std.proofs.Common.{nat_le}
use Rattle.std.specs.Option.{option_map}
use Rattle.std.proofs.lemmas.Bool.Decides.{nat_tests}
use Rattle.xo_fields.specs.declared.field.FieldId.{FieldId}
use Rattle.xo_fields.specs.declared.form.Form.{Form}
use Rattle.xo_fields.specs.declared.form.Form.TheVariants.{Fixed, Money, Blob, Account, Object, Array}
use Rattle.xo_fields.specs.Amount.{IsAmount}
use Rattle.xo_fields.specs.Field.{number}
use Rattle.xo_fields.specs.Form.{form_at}
use Rattle.xo_fields.specs.Header.{header}
use Rattle.xo_list.specs.Item.{Item, body, body_of, spell}
use Rattle.xo_list.specs.Value.{Head, Stands, Goes, Whole, IsValue, IsObject, IsArray}
use Rattle.hk_reading.specs.Amounts.{only_if, amount_size}
use Rattle.hk_reading.specs.Parsing.{Found, money, marked, item_of, item_at, and_on, items_at, all_at, value_at, whole}
use Rattle.hk_reading.specs.Parsing.{fields_of, elements_of}
use Rattle.hk_reading.proofs.AmountsFound.{is_amount_so, amount_size_again}
use Rattle.xo_fields.proofs.Cases.{some_same, none_some}
use Rattle.hk_reading.proofs.Finding.{Finds, only_if_some, finds_if, finds_then, finds_map, finds_none, nat_same}
use Rattle.hk_reading.proofs.Finding.{nat_up_to}
use Rattle.hk_reading.proofs.Fronts.{cut_at, fixed_found, Start, HasHead, header_found, sized_found}

money_found : (bytes : List ℕ) → Finds (λ p. IsAmount p.0 × (bytes ≡ p.0 ++ p.1)) (money bytes)
money_found bytes =
    finds_if (λ p. (length p.0 ≡ amount_size bytes) × (bytes ≡ p.0 ++ p.1)) (λ p. IsAmount p.0 × (bytes ≡ p.0 ++ p.1)) _
    _ (is_amount_so (take (amount_size bytes) bytes)) (fixed_found (amount_size bytes) bytes)
    (λ p t h. (subst IsAmount (cut_at (amount_size bytes) bytes p.0 p.1 h.1 h.0).0 t, h.1))
    (λ p h.
    let n : length p.0 ≡ amount_size bytes = amount_size_again p.0 p.1 h.0 ∙ ap amount_size (sym h.1) in
    (subst IsAmount (sym (cut_at (amount_size bytes) bytes p.0 p.1 h.1 n).0) h.0, (n, h.1)))

-- a value stands at the front of the bytes
abbrev pub IsFront : (Form → List ℕ → Type 0) → Form → List ℕ → List ℕ × List ℕ → Type 0
IsFront fits form bytes p = fits form p.0 × (bytes ≡ body form p.0 ++ p.1)

abbrev pub Reader : (Form → List ℕ → Type 0) → (Form → List ℕ → Found) → Type 0
Reader fits value = (form : Form) (bytes : List ℕ) → Finds (IsFront fits form bytes) (value form bytes)

header_long : (f : FieldId) → 1 ≤ length (header f)
header_long f = grind (arith, nat_tests)

module _ (fits : Form → List ℕ → Type 0) (array : Bool) where
  -- fields that go on to the rest of the bytes
  abbrev pub GoesTo : ℕ → List Item → List ℕ → List ℕ → Type 0
  GoesTo last items bytes rest = Goes fits array last items bytes (λ number left. left ≡ rest)

  few_items : (items : List Item) (last : ℕ) (bytes rest : List ℕ) → GoesTo last items bytes rest →
      length items ≤ length bytes
  few_items [] last bytes rest h = omega arith
  few_items (x ∷ xs) last bytes rest (tail, s, more) =
      omega (
        arith,
        few_items xs (number x.field) tail rest more,
        header_long x.field,
        ap length s.head.whole,
        length-append (header x.field) (body s.form x.value ++ tail),
        length-append (body s.form x.value) tail,
      )

  stands_before : (last : ℕ) (x : Item) (bytes tail more : List ℕ) → Stands fits array last x bytes tail →
      Stands fits array last x (bytes ++ more) (tail ++ more)
  stands_before last x bytes tail more s = record {
    form = s.form;
    head = record {
      is = s.head.is;
      known = s.head.known;
      whole =
          ap (λ y. y ++ more) s.head.whole
          ∙ append_assoc (header x.field) (body s.form x.value ++ tail) more
          ∙ ap (λ y. header x.field ++ y) (append_assoc (body s.form x.value) tail more);
      allowed = s.head.allowed;
    };
    value = s.value;
  }

  goes_before : (items : List Item) (last : ℕ) (bytes more : List ℕ) → GoesTo last items bytes [] →
      GoesTo last items (bytes ++ more) more
  goes_before [] last bytes more h = ap (λ y. y ++ more) h
  goes_before (x ∷ xs) last bytes more (tail, s, h) =
      (tail ++ more, stands_before last x bytes tail more s, goes_before xs (number x.field) tail more h)

  body_again : (last : ℕ) (x : Item) (bytes tail : List ℕ) (s : Stands fits array last x bytes tail) →
      body_of (form_at x.field.kind) x.value ≡ body s.form x.value
  body_again last x bytes tail s = ap (λ o. body_of o x.value) s.head.known

  stands_alone : (last : ℕ) (x : Item) (bytes tail more : List ℕ) → Stands fits array last x bytes tail →
      Stands fits array last x (header x.field ++ (body_of (form_at x.field.kind) x.value ++ more)) more
  stands_alone last x bytes tail more s = record {
    form = s.form;
    head = record {
      is = s.head.is;
      known = s.head.known;
      whole = ap (λ y. header x.field ++ (y ++ more)) (body_again last x bytes tail s);
      allowed = s.head.allowed;
    };
    value = s.value;
  }

  -- the fields, spelled alone
  goes_alone : (items : List Item) (last : ℕ) (bytes rest : List ℕ) → GoesTo last items bytes rest →
      GoesTo last items (spell items) []
  goes_alone [] last bytes rest h = refl
  goes_alone (x ∷ xs) last bytes rest (tail, s, h) =
      (spell xs, stands_alone last x bytes tail (spell xs) s, goes_alone xs (number x.field) tail rest h)

  goes_spelled : (items : List Item) (last : ℕ) (bytes rest : List ℕ) → GoesTo last items bytes rest →
      bytes ≡ spell items ++ rest
  goes_spelled [] last bytes rest h = h
  goes_spelled (x ∷ xs) last bytes rest (tail, s, h) =
      let v : List ℕ = body_of (form_at x.field.kind) x.value in
      s.head.whole
      ∙ ap (λ y. header x.field ++ (y ++ tail)) (sym (body_again last x bytes tail s))
      ∙ ap (λ y. header x.field ++ (v ++ y)) (goes_spelled xs (number x.field) tail rest h)
      ∙ ap (λ y. header x.field ++ y) (sym (append_assoc v (spell xs) rest))
      ∙ sym (append_assoc (header x.field) (v ++ spell xs) rest)

  module _ (value : Form → List ℕ → Found) (reader : Reader fits value) where
    -- what is made of a head
    abbrev pub AfterHead : Start → Item × List ℕ → Type 0
    AfterHead h p = (p.0.field ≡ h.0) × fits h.1 p.0.value × (h.2 ≡ body h.1 p.0.value ++ p.1)

    after_head_found : (h : Start) → Finds (AfterHead h) (option_map (item_of h.0) (value h.1 h.2))
    after_head_found h =
        finds_map (IsFront fits h.1 h.2) (AfterHead h) (value h.1 h.2) (item_of h.0) (reader h.1 h.2)
        (λ q s. (refl, s.0, s.1))
        (λ p (f, fit, e). ((p.0.value, p.1), (fit, e), λ i. (record { field = sym f i; value = p.0.value }, p.1)))

    stands_there : (last : ℕ) (bytes : List ℕ) (h : Start) (p : Item × List ℕ) → HasHead array last bytes h →
        AfterHead h p → Stands fits array last p.0 bytes p.1
    stands_there last bytes h p head (f, fit, e) =
        record {
          form = h.1;
          head =
              subst (λ g. Head array last g h.1 bytes (body h.1 p.0.value ++ p.1)) (sym f)
              (subst (λ y. Head array last h.0 h.1 bytes y) e head);
          value = fit;
        }

    item_found : (last : ℕ) (bytes : List ℕ) →
        Finds (λ p. Stands fits array last p.0 bytes p.1) (item_at value array last bytes)
    item_found last bytes =
        finds_then (HasHead array last bytes) AfterHead (λ p. Stands fits array last p.0 bytes p.1) _ _
        (header_found array last bytes) (λ h head. after_head_found h) (stands_there last bytes)
        (λ p s. ((p.0.field, s.form, body s.form p.0.value ++ p.1), s.head, (refl, s.value, refl)))

    step_goes : (next : ℕ → List ℕ → List Item × List ℕ) (last : ℕ) (bytes : List ℕ) (o : Option (Item × List ℕ)) →
        ((n : ℕ) (left : List ℕ) → GoesTo n (next n left).0 left (next n left).1) →
        item_at value array last bytes ≡ o → GoesTo last (and_on next bytes o).0 bytes (and_on next bytes o).1
    step_goes next last bytes None goes e = refl
    step_goes next last bytes (Some p) goes e = (p.1, (item_found last bytes).sound p e, goes (number p.0.field) p.1)

    items_go : (most last : ℕ) (bytes : List ℕ) →
        GoesTo last (items_at value array most last bytes).0 bytes (items_at value array most last bytes).1
    items_go zero last bytes = refl
    items_go (suc most) last bytes =
        step_goes (items_at value array most) last bytes (item_at value array last bytes) (items_go most) refl

    items_again : (items : List Item) (most last : ℕ) (bytes rest : List ℕ) → length items ≤ most →
        GoesTo last items bytes rest → ((n : ℕ) → item_at value array n rest ≡ None) →
        items_at value array most last bytes ≡ (items, rest)
    items_again [] zero last bytes rest few h stops = λ i. ([], h i)
    items_again [] (suc most) last bytes rest few h stops =
        ap (and_on (items_at value array most) bytes) (ap (item_at value array last) h ∙ stops last) ∙ (λ i. ([], h i))
    items_again (x ∷ xs) zero last bytes rest few h stops = absurd (omega arith)
    items_again (x ∷ xs) (suc most) last bytes rest few (tail, s, h) stops =
        let more : items_at value array most (number x.field) tail ≡ (xs, rest) =
        items_again xs most (number x.field) tail rest (omega arith) h stops in
        ap (and_on (items_at value array most) bytes) ((item_found last bytes).complete (x, tail) s)
        ∙ (λ i. (x ∷ (more i).0, (more i).1))

    all_again : (items : List Item) (bytes rest : List ℕ) → GoesTo 0 items bytes rest →
        ((n : ℕ) → item_at value array n rest ≡ None) → all_at value array bytes ≡ (items, rest)
    all_again items bytes rest h stops =
        items_again items (length bytes) 0 bytes rest (few_items items 0 bytes rest h) h stops

    all_go : (bytes : List ℕ) → GoesTo 0 (all_at value array bytes).0 bytes (all_at value array bytes).1
    all_go bytes = items_go (length bytes) 0 bytes

    -- all bytes
    whole_sound : (bytes rest : List ℕ) (items found : List Item) → GoesTo 0 items bytes rest →
        whole items rest ≡ Some found → Whole fits array found bytes
    whole_sound bytes [] items found h e = subst (λ xs. Whole fits array xs bytes) (some_same items found e) h
    whole_sound bytes (first ∷ rest) items found h e = none_some found e

    pub whole_found : (bytes : List ℕ) →
        Finds (λ items. Whole fits array items bytes) (whole (all_at value array bytes).0 (all_at value array bytes).1)
    whole_found bytes = record {
      sound =
          λ found e. whole_sound bytes (all_at value array bytes).1 (all_at value array bytes).0 found (all_go bytes) e;
      complete = λ items h. ap (λ (r : List Item × List ℕ). whole r.0 r.1) (all_again items bytes [] h (λ n. refl));
    }

    -- nested bytes, up to an end mark
    abbrev pub IsNested : ℕ → List ℕ → List ℕ × List ℕ → Type 0
    IsNested mark bytes p = ((items : List Item) × Whole fits array items p.0) × (bytes ≡ (p.0 ++ mark ∷ []) ++ p.1)

    marked_sound : (mark : ℕ) (bytes rest : List ℕ) (items : List Item) (p : List ℕ × List ℕ) →
        GoesTo 0 items bytes rest → marked mark items rest ≡ Some p → IsNested mark bytes p
    marked_sound mark bytes [] items p h e = none_some p e
    marked_sound mark bytes (first ∷ rest) items p h e =
        let t : ((first == mark) ≡ true) × (Some (spell items, rest) ≡ Some p) =
        only_if_some (first == mark) (Some (spell items, rest)) p e in
        let split : bytes ≡ (spell items ++ mark ∷ []) ++ rest =
        goes_spelled items 0 bytes (first ∷ rest) h
        ∙ ap (λ m. spell items ++ m ∷ rest) ((nat_same first mark).0 t.0)
        ∙ sym (append_assoc (spell items) (mark ∷ []) rest) in
        subst (IsNested mark bytes) (some_same (spell items, rest) p t.1)
        ((items, goes_alone items 0 bytes (first ∷ rest) h), split)

    marked_complete : (mark : ℕ) (bytes : List ℕ) (p : List ℕ × List ℕ) →
        ((n : ℕ) → item_at value array n (mark ∷ p.1) ≡ None) → IsNested mark bytes p →
        marked mark (all_at value array bytes).0 (all_at value array bytes).1 ≡ Some p
    marked_complete mark bytes p stops ((items, w), e) =
        let there : bytes ≡ p.0 ++ mark ∷ p.1 = e ∙ append_assoc p.0 (mark ∷ []) p.1 in
        let all : all_at value array bytes ≡ (items, mark ∷ p.1) =
        all_again items bytes (mark ∷ p.1)
        (subst (λ y. GoesTo 0 items y (mark ∷ p.1)) (sym there) (goes_before items 0 p.0 (mark ∷ p.1) w)) stops in
        let spelled : p.0 ≡ spell items = goes_spelled items 0 p.0 [] w ∙ append-nil (spell items) in
        ap (λ (r : List Item × List ℕ). marked mark r.0 r.1) all
        ∙ ap (λ b. only_if b (Some (spell items, p.1))) ((nat_same mark mark).1 refl)
        ∙ (λ i. Some (sym spelled i, p.1))

    pub marked_found : (mark : ℕ) (bytes : List ℕ) →
        ((n : ℕ) (rest : List ℕ) → item_at value array n (mark ∷ rest) ≡ None) →
        Finds (IsNested mark bytes) (marked mark (all_at value array bytes).0 (all_at value array bytes).1)
    marked_found mark bytes stops = record {
      sound =
          λ p e. marked_sound mark bytes (all_at value array bytes).1 (all_at value array bytes).0 p (all_go bytes) e;
      complete = λ p h. marked_complete mark bytes p (λ n. stops n p.1) h;
    }

pub value_found : (room : ℕ) → Reader (IsValue room) (value_at room)
value_found room (Fixed n) bytes = fixed_found n bytes
value_found room Money bytes = money_found bytes
value_found room Blob bytes =
    sized_found (λ n. nat_le n 918744) (λ n. n ≤ 918744) (λ n. nat_up_to n 918744) (λ n h. h) bytes
value_found room Account bytes =
    sized_found (λ n. n == 20) (λ n. n ≡ 20) (λ n. nat_same n 20) (λ n h. omega arith) bytes
value_found zero Object bytes = finds_none (IsFront (IsValue zero) Object bytes) (λ p h. h.0)
value_found zero Array bytes = finds_none (IsFront (IsValue zero) Array bytes) (λ p h. h.0)
value_found (suc room) Object bytes =
    marked_found (IsValue room) false (value_at room) (value_found room) 225 bytes (λ n rest. refl)
value_found (suc room) Array bytes =
    marked_found (IsValue room) true (value_at room) (value_found room) 241 bytes (λ n rest. refl)

pub fields_found : (bytes : List ℕ) → Finds (λ items. IsObject items bytes) (fields_of bytes)
fields_found bytes = whole_found (IsValue 10) false (value_at 10) (value_found 10) bytes

pub elements_found : (bytes : List ℕ) → Finds (λ items. IsArray items bytes) (elements_of bytes)
elements_found bytes = whole_found (IsValue 9) true (value_at 9) (value_found 9) bytes
