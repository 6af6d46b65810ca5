-- Keys that are the numbers of a field.
use Rattle.std.proofs.Common.{◌≡◌, ◌≢◌, ℕ, zero, suc, ◌<◌, List, [], ◌∷◌, length, get_or, Bool, false, IsTrue, refl}
use Rattle.std.proofs.Common.{sym, ap, subst, ◌∙◌, arith, Option, Some, None, Bor, lit<}
use Rattle.std.specs.Fmt.{decimal}
use Rattle.std.specs.Prelude.{MatchOption, unwrap_or}
use Rattle.std.specs.Str.Parse.{AllDigits}
use Rattle.std.proofs.lemmas.Fmt.{decimal_is_IsNumeral, decimal_injective}
use Rattle.std.proofs.lemmas.Str.Parse.{digit_from_value}
use Rattle.std.proofs.lemmas.Str.Pattern.{IsSplitOnceResult, split_after}
use Rattle.xo_fields.specs.declared.field.FieldId.{FieldId}
use Rattle.xo_fields.specs.declared.form.Form.{Form}
use Rattle.xo_fields.specs.Form.{form_at}
use Rattle.xo_fields.specs.Header.{IsField}
use Rattle.xo_fields.specs.Name.{field_named}
use Rattle.xo_fields.proofs.Cases.{none_some}
use Rattle.xo_showing.specs.Key.{numbers, key}
use Rattle.xo_showing.specs.Name.{name_of}
use Rattle.xo_showing.proofs.Names.{names_back}
use Rattle.xo_showing.proofs.Keys.{one_key, cut_at_slash}
use Rattle.xo_json.specs.declared.key.Keyed.{Keyed}
use Rattle.xo_told.specs.Reading.{IsKey}
use Rattle.xo_json.proofs.Compared.{never_true}

no_slash : (ds : List ℕ) → AllDigits 10 ds → (i : ℕ) → i < length ds → get_or ds i 0 ≢ 47
no_slash [] d i within e = absurd (omega arith)
no_slash (c ∷ ds) d zero within e = absurd (omega (arith, digit_from_value c d.0))
no_slash (c ∷ ds) d (suc i) within e = no_slash ds d.1 i (omega arith) e

-- a key that is a field's numbers is cut at its slash
pub cut_there : (text : List ℕ) (f : FieldId) (r : Option (Bor (List ℕ) × Bor (List ℕ))) → IsSplitOnceResult 47 text r →
    f.kind < 256 → numbers f ≡ text →
    MatchOption r ⊥ (λ x. (x.0.now ≡ decimal f.kind) × (x.1.now ≡ decimal f.code))
cut_there text f r cut small e =
    split_after 47 text (decimal f.kind) (decimal f.code) r cut (lit< tt) (sym e)
    (no_slash (decimal f.kind) (decimal_is_IsNumeral f.kind (omega arith)).0.1)

-- ---- what a key is

pub named_key : (f : FieldId) (text : List ℕ) → field_named text ≡ Some f → key f ≡ text
named_key f text e = ap (λ o. unwrap_or o (numbers f)) ((names_back f text).1 e)

pub nameless_key : (f : FieldId) (text : List ℕ) → name_of f ≡ None → numbers f ≡ text → key f ≡ text
nameless_key f text none e = ap (λ o. unwrap_or o (numbers f)) none ∙ e

key_at : (f : FieldId) (text : List ℕ) (o : Option (List ℕ)) → name_of f ≡ o → key f ≡ text →
    ((field_named text ≡ Some f) → ⊥) → (name_of f ≡ None) × (numbers f ≡ text)
key_at f text (Some name) e is other =
    let same : name ≡ text = sym (ap (λ o. unwrap_or o (numbers f)) e) ∙ is in
    absurd (other ((names_back f text).0 (e ∙ ap Some same)))
key_at f text None e is other = (e, sym (ap (λ o. unwrap_or o (numbers f)) e) ∙ is)

-- a key that is no name is the numbers of a field without one
pub key_numbers : (f : FieldId) (text : List ℕ) → field_named text ≡ None → key f ≡ text →
    (name_of f ≡ None) × (numbers f ≡ text)
key_numbers f text none is = key_at f text (name_of f) refl is (λ e. none_some f (sym none ∙ e))

-- the field of a key is one
pub key_one : (f g : FieldId) (text : List ℕ) → IsField f → IsField g → key f ≡ text → key g ≡ text → f ≡ g
key_one f g text a b e h = one_key f g a b (e ∙ sym h)

-- the field with its form, of a key that is its
pub formed_is : (r : Option Keyed) (f : FieldId) (text : List ℕ) → IsField f → key f ≡ text →
    MatchOption r (form_at f.kind ≡ None) (λ keyed. (keyed.field ≡ f) × (form_at f.kind ≡ Some keyed.form)) →
    MatchOption r ((g : FieldId) (form : Form) → IsKey text g form → ⊥) (λ keyed. IsKey text keyed.field keyed.form)
formed_is None f text is spelled none = λ g form k.
    let same : g ≡ f = key_one g f text k.is is k.spelled spelled in
    none_some form (sym none ∙ ap (λ (h : FieldId). form_at h.kind) (sym same) ∙ k.known)
formed_is (Some keyed) f text is spelled (same, known) = record {
  is = subst IsField (sym same) is;
  known = ap (λ (h : FieldId). form_at h.kind) same ∙ known;
  spelled = ap key same ∙ spelled;
}

-- the numbers of a key are one field's
numbers_one : (f g : FieldId) → f.kind < 256 → f.code < 256 → g.kind < 256 → g.code < 256 → numbers f ≡ numbers g →
    f ≡ g
numbers_one f g fk fc gk gc e =
    let parts : (decimal f.kind ≡ decimal g.kind) × (decimal f.code ≡ decimal g.code) =
    cut_at_slash (decimal f.kind) (decimal g.kind) (decimal f.code) (decimal g.code)
    (decimal_is_IsNumeral f.kind (omega arith)).0.1 (decimal_is_IsNumeral g.kind (omega arith)).0.1 e in
    let k : f.kind ≡ g.kind = decimal_injective f.kind g.kind (omega arith) (omega arith) parts.0 in
    let c : f.code ≡ g.code = decimal_injective f.code g.code (omega arith) (omega arith) parts.1 in
    λ i. record { kind = k i; code = c i }

-- the numbers of a key are no field's, or of one that has a name
pub no_key : (f g : FieldId) (text : List ℕ) (b : Bool) → field_named text ≡ None → key f ≡ text → IsField f →
    g.kind < 256 → g.code < 256 → numbers g ≡ text →
    (IsField g × (name_of g ≡ None) → IsTrue b) → b ≡ false → ⊥
no_key f g text b none spelled is gk gc numbered true_if e =
    let told : (name_of f ≡ None) × (numbers f ≡ text) = key_numbers f text none spelled in
    let same : f ≡ g = numbers_one f g is.kind_byte is.code_byte gk gc (told.1 ∙ sym numbered) in
    let holds : IsTrue b = true_if (subst IsField same is, subst (λ h. name_of h ≡ None) same told.0) in
    never_true b holds e
