-- What a builder keeps and writes.
use Rattle.std.proofs.Common.{◌≡◌, ℕ, zero, suc, ◌+◌, ◌<◌, ◌≤◌, Bool, true, false, List, [], ◌∷◌, ◌++◌, length, take}
use Rattle.std.proofs.Common.{drop, get_or, refl, sym, ap, subst, ◌∙◌, arith, append-nil, length-drop, Option, Some}
use Rattle.std.proofs.Common.{None, IsTrue, IsSome, if◌then◌else◌, nat_eq}
use Rattle.std.proofs.lemmas.Bool.Decides.{nat_tests}
use Rattle.std.proofs.lemmas.List.{take-append-drop, take_all, drop_more, take_more, map-append}
use Rattle.xo_fields.specs.declared.amount.Amount.{Amount}
use Rattle.xo_fields.specs.declared.amount.AmountRead.TheVariants as amounts
use Rattle.xo_fields.specs.declared.field.FieldId.{FieldId}
use Rattle.xo_fields.specs.declared.form.Form.{Form}
use Rattle.xo_fields.specs.Amount.{IsAmount, AmountGives, amount_bytes}
use Rattle.xo_fields.specs.Field.{number}
use Rattle.xo_fields.specs.Header.{IsField}
use Rattle.xo_fields.specs.Laws.{OneAmount}
use Rattle.xo_fields.proofs.Cases.{same_size, size_same}
use Rattle.xo_list.specs.declared.builder.Put.{Put}
use Rattle.xo_list.specs.Builder.{puts, item_put, IsFree}
use Rattle.xo_list.specs.Item.{Item, lookup, is_same, spell, with_item}
use Rattle.xo_list.specs.Laws.{OneReading, OneSpelling}
use Rattle.xo_list.specs.List.{ListFits, IsList, IsFit}
use Rattle.xo_list.specs.Located.{AllBelow, AllAbove}
use Rattle.xo_list.specs.Span.{IsRead, Seen, items}
use Rattle.xo_list.specs.Value.{IsValue, IsObject}
use Rattle.xo_list.proofs.ListLemmas.{edits_fit}
use Rattle.xo_list.proofs.Placing.{spell-append}
use Rattle.xo_list.proofs.Cuts.{same_field, AllBelow-append, lookup_absent, with_new}
use Rattle.xo_list.proofs.OneList.{never_true, same_fields}

-- whether the bytes are an amount and no more
pub amount_refused : (value : List ℕ) → AmountGives value amounts.Bad →
    (IsTrue false → IsAmount value) × (IsAmount value → IsTrue false)
amount_refused value h = (λ t. absurd (never_true t), λ is. absurd (h.0 (value, [], is, sym (append-nil value))))

pub amount_whole : OneAmount → (value : List ℕ) (a : Amount) (size : ℕ) → AmountGives value (amounts.Amount a size) →
    (IsTrue (nat_eq size (length value)) → IsAmount value) × (IsAmount value → IsTrue (nat_eq size (length value)))
amount_whole one value a size h = (
  λ t. (a, h.0, sym (take_all size value (omega (arith, same_size size (length value) t))) ∙ h.2),
  λ (b, valid, is).
      let rest : (a ≡ b) × (drop size value ≡ []) =
      one a b (drop size value) [] h.0 valid
      (ap (λ x. x ++ drop size value) (sym h.2)
      ∙ take-append-drop size value
      ∙ is
      ∙ sym (append-nil (amount_bytes b))) in
      size_same size (length value) (omega (arith, h.1, ap length rest.1, length-drop size value)),
)

-- the fields above one in a list that fits
above_rest : (fits : Form → List ℕ → Type 0) (n last : ℕ) (items : List Item) → n ≤ last →
    ListFits fits false last items → AllAbove n items
above_rest fits n last [] le h = tt
above_rest fits n last (x ∷ xs) le (f, h) =
    let above : last < number x.field = f.allowed in
    (omega arith, above_rest fits n (number x.field) xs (omega arith) h)

above_after : (fits : Form → List ℕ → Type 0) (n last : ℕ) (a : List Item) (x : Item) (b : List Item) →
    ListFits fits false last (a ++ x ∷ b) → n < number x.field → AllAbove n (x ∷ b)
above_after fits n last [] x b (f, h) lt = (lt, above_rest fits n (number x.field) b (omega arith) h)
above_after fits n last (y ∷ ys) x b (f, h) lt = above_after fits n (number y.field) ys x b h lt

found_after : (f : FieldId) (a : List Item) (x : Item) (b : List Item) → x.field ≡ f → IsSome (lookup f (a ++ x ∷ b))
found_after f [] x b e = ways (is_same x.field f) refl
  where
    ways : (same : Bool) → is_same x.field f ≡ same → IsSome (if same then Some x.value else lookup f b)
    ways true h = refl
    ways false h =
        let k : x.field.kind ≡ f.kind = ap (λ g. g.kind) e in
        let n : x.field.code ≡ f.code = ap (λ g. g.code) e in
        absurd (grind (arith, nat_tests))
found_after f (y ∷ ys) x b e = ways (is_same y.field f) (found_after f ys x b e)
  where
    ways : (same : Bool) → IsSome (lookup f (ys ++ x ∷ b)) →
        IsSome (if same then Some y.value else lookup f (ys ++ x ∷ b))
    ways true later = refl
    ways false later = later

-- the fields that were put, cut at one of them
puts_cut : (fields : List Put) (i : ℕ) (d : Put) → i < length fields →
    puts fields ≡ puts (take i fields) ++ item_put (get_or fields i d) ∷ puts (drop (i + 1) fields)
puts_cut fields i d h =
    ap puts (sym (take-append-drop i fields))
    ∙ map-append item_put (take i fields) (drop i fields)
    ∙ ap (λ x. puts (take i fields) ++ puts x) (drop_more fields i d h)

pub free_before : (field : FieldId) (fields : List Put) (i : ℕ) (d : Put) → IsList (puts fields) → i < length fields →
    AllBelow (number field) (puts (take i fields)) → number field < number (get_or fields i d).field →
    IsFree field fields (Some i)
free_before field fields i d h within below less = (
  omega arith,
  below,
  subst (λ x. AllAbove (number field) (puts x)) (sym (drop_more fields i d within))
      (above_after (IsValue 10) (number field) 0 (puts (take i fields)) (item_put (get_or fields i d))
      (puts (drop (i + 1) fields)) (subst IsList (puts_cut fields i d within) h) less),
)

pub put_before : (field : FieldId) (fields : List Put) (i : ℕ) (d : Put) → i < length fields → field.code < 256 →
    (get_or fields i d).field.code < 256 → number field ≡ number (get_or fields i d).field → IsFree field fields None
put_before field fields i d within small byte e =
    subst (λ xs. IsSome (lookup field xs)) (sym (puts_cut fields i d within))
    (found_after field (puts (take i fields)) (item_put (get_or fields i d)) (puts (drop (i + 1) fields))
    (sym (same_field field (get_or fields i d).field small byte e)))

pub below_more : (field : FieldId) (fields : List Put) (i : ℕ) (d : Put) → i < length fields →
    AllBelow (number field) (puts (take i fields)) → number (get_or fields i d).field < number field →
    AllBelow (number field) (puts (take (i + 1) fields))
below_more field fields i d within below less =
    subst (λ x. AllBelow (number field) x)
    (sym (ap puts (take_more fields i d within) ∙ map-append item_put (take i fields) (get_or fields i d ∷ [])))
    (AllBelow-append (number field) (puts (take i fields)) (item_put (get_or fields i d) ∷ []) below (less, tt))

-- each field that was put fits
fit_of : (fields : List Put) (last i : ℕ) (d : Put) → ListFits (IsValue 10) false last (puts fields) →
    i < length fields → IsFit (get_or fields i d).field (get_or fields i d).value.items
fit_of [] last i d h within = absurd (omega arith)
fit_of (p ∷ ps) last zero d (f, h) within = (f.form, f.is, f.known, f.value)
fit_of (p ∷ ps) last (suc i) d (f, h) within = fit_of ps (number p.field) i d h (omega arith)

pub fit_at : (fields : List Put) (i : ℕ) (d : Put) → IsList (puts fields) → i < length fields →
    IsFit (get_or fields i d).field (get_or fields i d).value.items
fit_at fields i d h within = fit_of fields 0 i d h within

-- a field put in its place
pub put_at : (fields : List Put) (p : Put) (i : ℕ) → IsFree p.field fields (Some i) →
    puts (take i fields ++ p ∷ drop i fields) ≡ with_item (item_put p) (puts fields)
put_at fields p i (within, below, above) =
    map-append item_put (take i fields) (p ∷ drop i fields)
    ∙ sym (with_new (item_put p) (puts (take i fields)) (puts (drop i fields)) below above)
    ∙ ap (with_item (item_put p))
    (sym (map-append item_put (take i fields) (drop i fields)) ∙ ap puts (take-append-drop i fields))

number-pos : (f : FieldId) → IsField f → 0 < number f
number-pos f is = omega (arith, is.kind)

pub list_more : (list : List Item) (field : FieldId) (value : List ℕ) → IsList list → IsFit field value →
    IsList (with_item (record { field = field; value = value }) list)
list_more list field value h (form, is, known, fit) =
    (edits_fit list h).1 (record { field = field; value = value })
    (record { form = form; is = is; known = known; allowed = number-pos field is; value = fit }, tt)

-- the object of the list
pub finished : OneReading → OneSpelling → (list : List Item) (object : Seen) → IsList list → object.bytes ≡ spell list →
    IsRead object.bytes object.spans → items object ≡ list
finished one spelling list object h e read =
    same_fields one (items object) list object.bytes read.object
    (subst (λ b. IsObject list b) (sym e) (spelling.1 list h))

-- a field that has a place wasn't put before
pub free_absent : (field : FieldId) (fields : List Put) (i : ℕ) → IsFree field fields (Some i) →
    lookup field (puts fields) ≡ None
free_absent field fields i (within, below, above) =
    ap (lookup field) (ap puts (sym (take-append-drop i fields)) ∙ map-append item_put (take i fields) (drop i fields))
    ∙ lookup_absent field (puts (take i fields)) (puts (drop i fields)) below above

none_or_some : (o : Option (List ℕ)) → o ≡ None → IsSome o → ⊥
none_or_some o e s = let t : IsSome {T = List ℕ} None = subst (λ p. IsSome p) e s in absurd (cc)

pub free_not_present : (field : FieldId) (fields : List Put) (list : List Item) (i : ℕ) → puts fields ≡ list →
    IsFree field fields (Some i) → IsSome (lookup field list) → ⊥
free_not_present field fields list i e f s =
    none_or_some (lookup field list) (ap (lookup field) (sym e) ∙ free_absent field fields i f) s

-- the fields that were put, one more of them
pub spelled_more : (fields : List Put) (i : ℕ) (p : Put) (before now : List ℕ) → i < length fields →
    p ≡ get_or fields i p → before ≡ spell (puts (take i fields)) → now ≡ before ++ spell (item_put p ∷ []) →
    now ≡ spell (puts (take (i + 1) fields))
spelled_more fields i p before now within is b n =
    n ∙ ap (λ x. x ++ spell (item_put p ∷ [])) b ∙ sym (spell-append (puts (take i fields)) (item_put p ∷ []))
    ∙ ap spell (sym (ap puts (take_more fields i p within ∙ ap (λ q. take i fields ++ q ∷ []) (sym is))
    ∙ map-append item_put (take i fields) (p ∷ [])))
