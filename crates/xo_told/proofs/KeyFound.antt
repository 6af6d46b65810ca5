-- The field of a key is found.
use Rattle.std.proofs.Common.{◌≡◌, ℕ, ◌<◌, ◌==◌, ◌&&◌, ◌||◌, List, [], ◌∷◌, ◌++◌, refl, sym, ap, subst, ◌∙◌, arith}
use Rattle.std.proofs.Common.{Option, Some, None}
use Rattle.std.specs.Fmt.{decimal}
use Rattle.std.specs.Prelude.{Decides, unwrap_or}
use Rattle.std.specs.Str.Parse.{AllDigits, digits_value}
use Rattle.std.proofs.lemmas.Bool.Decides.{Decides-and, Decides-or, Decides-not, Decides-like}
use Rattle.std.proofs.lemmas.Fmt.{decimal_is_IsNumeral}
use Rattle.std.proofs.lemmas.Str.Parse.{digit_from_value}
use Rattle.xo_fields.specs.declared.field.FieldId.{FieldId}
use Rattle.xo_fields.specs.Form.{form_at}
use Rattle.xo_fields.specs.Header.{IsField}
use Rattle.xo_fields.specs.Name.{field_named}
use Rattle.xo_fields.proofs.Cases.{pick_equal}
use Rattle.hk_reading.specs.Parsing.{is_field}
use Rattle.hk_reading.proofs.Finding.{Finds, finds_if, finds_map, nat_same, nat_below, lists_same}
use Rattle.xo_showing.specs.Key.{numbers, key}
use Rattle.xo_showing.specs.Name.{name_of}
use Rattle.xo_showing.proofs.Keys.{numbers_unnamed}
use Rattle.xo_showing.proofs.Names.{names_back}
use Rattle.xo_told.specs.Guesses.{before_slash, after_slash, field_guess}
use Rattle.xo_told.specs.Reading.{IsKey}
use Rattle.xo_told.specs.Told.{Keyed, field_if, field_of}

is_field_so : (f : FieldId) → Decides (is_field f) (IsField f)
is_field_so f =
    Decides-like (is_field f) (λ h.
    record { kind = h.0; code = h.1.0; kind_byte = h.1.1.0; code_byte = h.1.1.1.0; no_mark = λ c k. h.1.1.1.1 (c, k) })
    (λ is. (is.kind, (is.code, (is.kind_byte, (is.code_byte, λ m. is.no_mark m.0 m.1)))))
    (Decides-and _ _ (nat_below 0 f.kind) (Decides-and _ _ (nat_below 0 f.code) (Decides-and _ _ (nat_below f.kind 256)
    (Decides-and _ _ (nat_below f.code 256)
    (Decides-not ((f.code == 1) && ((f.kind == 14) || (f.kind == 15)))
    (Decides-and _ _ (nat_same f.code 1) (Decides-or _ _ (nat_same f.kind 14) (nat_same f.kind 15))))))))

-- digits have no slash
before_there : (ds rest : List ℕ) → AllDigits 10 ds → before_slash (ds ++ 47 ∷ rest) ≡ ds
before_there [] rest d = refl
before_there (c ∷ ds) rest d =
    pick_equal (λ r. r ≡ c ∷ ds) c 47 [] (c ∷ before_slash (ds ++ 47 ∷ rest))
    (λ e. absurd (omega (arith, digit_from_value c d.0, e))) (λ n. ap (λ l. c ∷ l) (before_there ds rest d.1))

after_there : (ds rest : List ℕ) → AllDigits 10 ds → after_slash (ds ++ 47 ∷ rest) ≡ rest
after_there [] rest d = refl
after_there (c ∷ ds) rest d =
    pick_equal (λ r. r ≡ rest) c 47 (ds ++ 47 ∷ rest) (after_slash (ds ++ 47 ∷ rest))
    (λ e. absurd (omega (arith, digit_from_value c d.0, e))) (λ n. after_there ds rest d.1)

value_of_decimal : (n : ℕ) → n < 256 → digits_value 10 (decimal n) ≡ n
value_of_decimal n small = (decimal_is_IsNumeral n (omega arith)).1

-- the field of a key
numbered : (f : FieldId) → IsField f → (o : Option FieldId) → field_named (numbers f) ≡ o →
    unwrap_or o
    (record { kind = digits_value 10 (before_slash (numbers f)); code = digits_value 10 (after_slash (numbers f)) }) ≡ f
numbered f is (Some g) e = absurd (numbers_unnamed f g is.kind_byte e)
numbered f is None e =
    let all : AllDigits 10 (decimal f.kind) = (decimal_is_IsNumeral f.kind (omega (arith, is.kind_byte))).0.1 in
    let kind : digits_value 10 (before_slash (numbers f)) ≡ f.kind =
    ap (digits_value 10) (before_there (decimal f.kind) (decimal f.code) all) ∙ value_of_decimal f.kind is.kind_byte in
    let code : digits_value 10 (after_slash (numbers f)) ≡ f.code =
    ap (digits_value 10) (after_there (decimal f.kind) (decimal f.code) all) ∙ value_of_decimal f.code is.code_byte in
    λ i. record { kind = kind i; code = code i }

guess_at : (f : FieldId) → IsField f → (o : Option (List ℕ)) → name_of f ≡ o → field_guess (unwrap_or o (numbers f)) ≡ f
guess_at f is (Some name) e =
    ap (λ o.
    unwrap_or o (record { kind = digits_value 10 (before_slash name); code = digits_value 10 (after_slash name) }))
    ((names_back f name).0 e)
guess_at f is None e = numbered f is (field_named (numbers f)) refl

field_again : (f : FieldId) (text : List ℕ) → IsField f → key f ≡ text → field_guess text ≡ f
field_again f text is e = ap field_guess (sym e) ∙ guess_at f is (name_of f) refl

-- the field is taken where its key is this
abbrev pub IsTaken : List ℕ → FieldId → Keyed → Type 0
IsTaken text f keyed = (IsField f × (key f ≡ text)) × ((keyed.0 ≡ f) × (form_at f.kind ≡ Some keyed.1))

taken_found : (text : List ℕ) (f : FieldId) → Finds (IsTaken text f) (field_if text f)
taken_found text f =
    finds_if (λ (keyed : Keyed). (keyed.0 ≡ f) × (form_at f.kind ≡ Some keyed.1)) (IsTaken text f) _ _
    (Decides-and _ _ (is_field_so f) (lists_same (key f) text))
    (finds_map (λ form. form_at f.kind ≡ Some form) (λ (keyed : Keyed). (keyed.0 ≡ f) × (form_at f.kind ≡ Some keyed.1))
    (form_at f.kind) (λ form. (f, form)) (record { sound = λ x e. e; complete = λ x e. e })
    (λ form e. (refl, e)) (λ h a. (h.1, a.1, λ i. (sym a.0 i, h.1))))
    (λ h t a. (t, a)) (λ h a. a)

key_there : (text : List ℕ) (f : FieldId) (keyed : Keyed) → IsTaken text f keyed → IsKey text keyed.0 keyed.1
key_there text f keyed ((is, spelled), (same, known)) =
    subst (λ g. IsKey text g keyed.1) (sym same) (record { is = is; known = known; spelled = spelled })

pub key_found : (text : List ℕ) → Finds (λ (keyed : Keyed). IsKey text keyed.0 keyed.1) (field_of text)
key_found text = record {
  sound = λ keyed e. key_there text (field_guess text) keyed ((taken_found text (field_guess text)).sound keyed e);
  complete =
      λ keyed k.
      ap (field_if text) (field_again keyed.0 text k.is k.spelled)
      ∙ (taken_found text keyed.0).complete keyed ((k.is, k.spelled), (refl, k.known));
}
