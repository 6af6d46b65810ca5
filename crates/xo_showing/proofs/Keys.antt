-- No two fields have one key.
use Rattle.std.proofs.Common.{◌≡◌, ℕ, ◌<◌, ◌≤◌, List, [], ◌∷◌, ◌++◌, length, get_or, drop, refl, sym, ap, ◌∙◌, arith}
use Rattle.std.proofs.Common.{Option, Some, None}
use Rattle.std.specs.Fmt.{decimal}
use Rattle.std.specs.Prelude.{unwrap_or}
use Rattle.std.specs.Str.Parse.{AllDigits}
use Rattle.std.proofs.lemmas.Fmt.{decimal_is_IsNumeral, decimal_injective}
use Rattle.std.proofs.lemmas.Str.Parse.{digit_from_value}
use Rattle.xo_fields.specs.declared.field.FieldId.{FieldId}
use Rattle.xo_fields.specs.Field.{number}
use Rattle.xo_fields.specs.Header.{IsField}
use Rattle.xo_fields.specs.Name.{field_named}
use Rattle.xo_fields.proofs.Cases.{some_same}
use Rattle.xo_list.proofs.Cuts.{same_field}
use Rattle.xo_showing.specs.Key.{numbers}
use Rattle.xo_showing.specs.Name.{name_of}
use Rattle.xo_showing.specs.Laws.{OneKey}
use Rattle.xo_showing.proofs.Names.{names_back, begins}

are_digits : (n : ℕ) → n < 256 → AllDigits 10 (decimal n)
are_digits n small = (decimal_is_IsNumeral n (omega arith)).0.1

-- digits before a slash are cut there in one way
pub cut_at_slash : (a b x y : List ℕ) → AllDigits 10 a → AllDigits 10 b → a ++ 47 ∷ x ≡ b ++ 47 ∷ y → (a ≡ b) × (x ≡ y)
cut_at_slash [] [] x y da db e = (refl, ap (drop 1) e)
cut_at_slash [] (d ∷ b) x y da db e = absurd (omega (arith, digit_from_value d db.0, ap (λ l. get_or l 0 0) e))
cut_at_slash (c ∷ a) [] x y da db e = absurd (omega (arith, digit_from_value c da.0, ap (λ l. get_or l 0 0) e))
cut_at_slash (c ∷ a) (d ∷ b) x y da db e =
    let rest : (a ≡ b) × (x ≡ y) = cut_at_slash a b x y da.1 db.1 (ap (drop 1) e) in
    let first : c ≡ d = ap (λ l. get_or l 0 0) e in
    (λ i. first i ∷ rest.0 i, rest.1)

-- numbers begin with a digit
digit_first : (ds rest : List ℕ) → AllDigits 10 ds → 0 < length ds → get_or (ds ++ rest) 0 0 ≤ 57
digit_first [] rest d some = absurd (omega arith)
digit_first (c ∷ ds) rest d some = omega (arith, digit_from_value c d.0)

numbers_first : (f : FieldId) → f.kind < 256 → get_or (numbers f) 0 0 ≤ 57
numbers_first f small =
    digit_first (decimal f.kind) (47 ∷ decimal f.code) (are_digits f.kind small)
    (decimal_is_IsNumeral f.kind (omega arith)).0.0

-- no name is a kind and a code
pub numbers_unnamed : (f g : FieldId) → f.kind < 256 → field_named (numbers f) ≡ Some g → ⊥
numbers_unnamed f g small e = omega (arith, begins (numbers f) g e, numbers_first f small)

pub one_number : (f g : FieldId) → IsField f → IsField g → number f ≡ number g → f ≡ g
one_number f g a b e = same_field f g a.code_byte b.code_byte e

one_key_at : (f g : FieldId) → IsField f → IsField g → (o p : Option (List ℕ)) → name_of f ≡ o → name_of g ≡ p →
    unwrap_or o (numbers f) ≡ unwrap_or p (numbers g) → f ≡ g
one_key_at f g a b (Some m) (Some n) ef eg e =
    some_same f g (sym ((names_back f m).0 ef) ∙ ap field_named e ∙ (names_back g n).0 eg)
one_key_at f g a b (Some m) None ef eg e =
    absurd (numbers_unnamed g f b.kind_byte (ap field_named (sym e) ∙ (names_back f m).0 ef))
one_key_at f g a b None (Some n) ef eg e =
    absurd (numbers_unnamed f g a.kind_byte (ap field_named e ∙ (names_back g n).0 eg))
one_key_at f g a b None None ef eg e =
    let parts : (decimal f.kind ≡ decimal g.kind) × (decimal f.code ≡ decimal g.code) =
    cut_at_slash (decimal f.kind) (decimal g.kind) (decimal f.code) (decimal g.code) (are_digits f.kind a.kind_byte)
    (are_digits g.kind b.kind_byte) e in
    let k : f.kind ≡ g.kind =
    decimal_injective f.kind g.kind (omega (arith, a.kind_byte)) (omega (arith, b.kind_byte)) parts.0 in
    let c : f.code ≡ g.code =
    decimal_injective f.code g.code (omega (arith, a.code_byte)) (omega (arith, b.code_byte)) parts.1 in
    λ i. record { kind = k i; code = c i }

pub one_key : OneKey
one_key f g a b e = one_key_at f g a b _ _ refl refl e
