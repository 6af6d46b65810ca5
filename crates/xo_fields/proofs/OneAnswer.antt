-- Bytes have one answer of each reader.
use Rattle.std.proofs.Common.{◌≡◌, ℕ, ◌≤◌, inl, inr, List, [], ◌++◌, length, take, drop, ◌+◌, ◌^◌, ◌<◌, length-drop}
use Rattle.std.proofs.Common.{length-append, refl, sym, ap, subst, ◌∙◌, arith, None, IsSome}
use Rattle.std.proofs.lemmas.List.{take-append-drop}
use Rattle.xo_fields.specs.declared.field.FieldId.{FieldId}
use Rattle.xo_fields.specs.declared.form.Form.{Form}
use Rattle.xo_fields.specs.declared.header.HeaderRead.TheVariants as headers
use Rattle.xo_fields.specs.declared.length.LengthRead.TheVariants as lengths
use Rattle.xo_fields.specs.Form.{form_at}
use Rattle.xo_fields.specs.Header.{header, IsHeader, HeaderGives}
use Rattle.xo_fields.specs.Length.{prefix, IsLength, LengthGives}
use Rattle.xo_fields.specs.Spelling.{Begins, IsCut, IsBad}
use Rattle.xo_fields.specs.declared.amount.Amount.{Amount}
use Rattle.xo_fields.specs.declared.amount.Amount.TheVariants.{Native, Issued}
use Rattle.xo_fields.specs.declared.amount.AmountRead.TheVariants as amounts
use Rattle.xo_fields.specs.Amount.{amount_bytes, IsAmount, IsValid, AmountGives}
use Rattle.xo_fields.specs.Laws.{OneHeader, OneLength, OneAmount, OneHeaderRead, OneLengthRead, OneAmountRead}
use Rattle.xo_fields.proofs.Digits.{value, value-to_be_bytes}
use Rattle.xo_fields.proofs.AmountBytes.{decimal-below}
use Rattle.std.specs.Prelude.{pos}
use Rattle.std.specs.Int.{w64, to_be_bytes, cast_unsigned}
use Rattle.std.proofs.lemmas.List.{take_at, drop_at}

-- bytes that begin with a spelling are neither cut nor bad, and not both
pub cut_or_bad : (spells : List ℕ → Type 0) (bytes : List ℕ) → IsCut spells bytes → IsBad spells bytes → ⊥
cut_or_bad spells bytes c b = b.1 c.1.0 c.1.1

-- two places in the bytes with the same rest are one
pub same_size : (bytes : List ℕ) (m n : ℕ) → m ≤ length bytes → n ≤ length bytes → drop m bytes ≡ drop n bytes → m ≡ n
same_size bytes m n p q e = omega (arith, length-drop m bytes, length-drop n bytes, ap length e)

-- bytes that are cut after a part of them
pub parted : (bytes front : List ℕ) (size : ℕ) → take size bytes ≡ front → bytes ≡ front ++ drop size bytes
parted bytes front size e = sym (take-append-drop size bytes) ∙ ap (λ x. x ++ drop size bytes) e

header_begins : (bytes : List ℕ) (f : FieldId) (size : ℕ) → HeaderGives bytes (headers.Header f size) →
    Begins IsHeader bytes
header_begins bytes f size h = (take size bytes, drop size bytes, (f, h.0, h.3), sym (take-append-drop size bytes))

none_or_some : (kind kind' : ℕ) → kind ≡ kind' → form_at kind ≡ None → IsSome (form_at kind') → ⊥
none_or_some kind kind' e n s =
    let t : IsSome (form_at kind) = subst (λ k. IsSome (form_at k)) (sym e) s in
    let u : IsSome {T = Form} None = subst (λ o. IsSome o) n t in
    absurd (cc)

bad_or_header : OneHeader → (bytes : List ℕ) (f : FieldId) (size : ℕ) → HeaderGives bytes headers.Bad →
    HeaderGives bytes (headers.Header f size) → ⊥
bad_or_header one bytes f size (inl bad) h = bad.0 (header_begins bytes f size h)
bad_or_header one bytes f size (inr (g, rest, is, unknown, whole)) h =
    none_or_some g.kind f.kind
    (ap (λ x. x.kind) (one g f rest (drop size bytes) is h.0 (sym whole ∙ parted bytes (header f) size h.3)).0) unknown
    h.1

cut_or_bad_header : (bytes : List ℕ) → HeaderGives bytes headers.Cut → HeaderGives bytes headers.Bad → ⊥
cut_or_bad_header bytes c (inl bad) = cut_or_bad IsHeader bytes c bad
cut_or_bad_header bytes c (inr (g, rest, is, unknown, whole)) = c.0 (header g, rest, (g, is, refl), whole)

pub one_header_answer : OneHeader → OneHeaderRead
one_header_answer one bytes headers.Cut headers.Cut h k = refl
one_header_answer one bytes headers.Cut headers.Bad h k = absurd (cut_or_bad_header bytes h k)
one_header_answer one bytes headers.Cut (headers.Header f size) h k = absurd (h.0 (header_begins bytes f size k))
one_header_answer one bytes headers.Bad headers.Cut h k = absurd (cut_or_bad_header bytes k h)
one_header_answer one bytes headers.Bad headers.Bad h k = refl
one_header_answer one bytes headers.Bad (headers.Header f size) h k = absurd (bad_or_header one bytes f size h k)
one_header_answer one bytes (headers.Header f size) headers.Cut h k = absurd (k.0 (header_begins bytes f size h))
one_header_answer one bytes (headers.Header f size) headers.Bad h k = absurd (bad_or_header one bytes f size k h)
one_header_answer one bytes (headers.Header f size) (headers.Header g size') h k =
    let same : (f ≡ g) × (drop size bytes ≡ drop size' bytes) =
    one f g (drop size bytes) (drop size' bytes) h.0 k.0
    (sym (parted bytes (header f) size h.3) ∙ parted bytes (header g) size' k.3) in
    let sizes : size ≡ size' = same_size bytes size size' h.2 k.2 same.1 in
    ap (λ x. headers.Header x size) same.0 ∙ ap (λ n. headers.Header g n) sizes

length_begins : (bytes : List ℕ) (n size : ℕ) → LengthGives bytes (lengths.Length n size) → Begins IsLength bytes
length_begins bytes n size h = (take size bytes, drop size bytes, (n, h.0, h.2), sym (take-append-drop size bytes))

pub one_length_answer : OneLength → OneLengthRead
one_length_answer one bytes lengths.Cut lengths.Cut h k = refl
one_length_answer one bytes lengths.Cut lengths.Bad h k = absurd (cut_or_bad IsLength bytes h k)
one_length_answer one bytes lengths.Cut (lengths.Length n size) h k = absurd (h.0 (length_begins bytes n size k))
one_length_answer one bytes lengths.Bad lengths.Cut h k = absurd (cut_or_bad IsLength bytes k h)
one_length_answer one bytes lengths.Bad lengths.Bad h k = refl
one_length_answer one bytes lengths.Bad (lengths.Length n size) h k = absurd (h.0 (length_begins bytes n size k))
one_length_answer one bytes (lengths.Length n size) lengths.Cut h k = absurd (k.0 (length_begins bytes n size h))
one_length_answer one bytes (lengths.Length n size) lengths.Bad h k = absurd (k.0 (length_begins bytes n size h))
one_length_answer one bytes (lengths.Length m size) (lengths.Length n size') h k =
    let same : (m ≡ n) × (drop size bytes ≡ drop size' bytes) =
    one m n (drop size bytes) (drop size' bytes) h.0 k.0
    (sym (parted bytes (prefix m) size h.2) ∙ parted bytes (prefix n) size' k.2) in
    let sizes : size ≡ size' = same_size bytes size size' h.1 k.1 same.1 in
    ap (λ x. lengths.Length x size) same.0 ∙ ap (λ x. lengths.Length n x) sizes

-- lists that go on to one list, of one length
pub split_same : (p q x y : List ℕ) → length p ≡ length q → p ++ x ≡ q ++ y → (p ≡ q) × (x ≡ y)
split_same p q x y l e = (
  sym (take_at p x (length p) refl) ∙ ap (take (length p)) e ∙ take_at q y (length p) (sym l),
  sym (drop_at p x (length p) refl) ∙ ap (drop (length p)) e ∙ drop_at q y (length p) (sym l),
)

-- the number of an amount's eight bytes
abbrev pub eight_of : Amount → ℕ
eight_of (Native drops) = 2 ^ 62 + drops
eight_of (Issued v currency issuer) = 2 ^ 63 + cast_unsigned w64 v

abbrev pub after_eight : Amount → List ℕ
after_eight (Native drops) = []
after_eight (Issued v currency issuer) = currency ++ issuer

eight-below : (a : Amount) → IsValid a → eight_of a < 2 ^ 64
eight-below (Native drops) valid = omega arith
eight-below (Issued v currency issuer) ((bits, is, decimal), c, i) =
    let b : bits < 9223372036854775808 = decimal-below bits decimal in
    let u : cast_unsigned w64 v ≡ bits = ap (cast_unsigned w64) is in
    omega arith

amount_parts : (a : Amount) (x : List ℕ) → amount_bytes a ++ x ≡ to_be_bytes w64 (eight_of a) ++ (after_eight a ++ x)
amount_parts (Native drops) x = refl
amount_parts (Issued v currency issuer) x = refl

one_eight : (a b : Amount) (x y : List ℕ) → IsValid a → IsValid b → amount_bytes a ++ x ≡ amount_bytes b ++ y →
    (eight_of a ≡ eight_of b) × (after_eight a ++ x ≡ after_eight b ++ y)
one_eight a b x y va vb e =
    let s : (to_be_bytes w64 (eight_of a) ≡ to_be_bytes w64 (eight_of b)) × (after_eight a ++ x ≡ after_eight b ++ y) =
    split_same (to_be_bytes w64 (eight_of a)) (to_be_bytes w64 (eight_of b)) (after_eight a ++ x) (after_eight b ++ y)
    refl (sym (amount_parts a x) ∙ e ∙ amount_parts b y) in (
      sym (value-to_be_bytes (eight_of a) (eight-below a va))
          ∙ ap value s.0
          ∙ value-to_be_bytes (eight_of b) (eight-below b vb),
      s.1,
    )

one_begins : (a b : Amount) (x y : List ℕ) → IsValid a → IsValid b →
    (eight_of a ≡ eight_of b) × (after_eight a ++ x ≡ after_eight b ++ y) → (a ≡ b) × (x ≡ y)
one_begins (Native d) (Native e) x y va vb s = let same : d ≡ e = omega (arith, s.0) in (ap Native same, s.1)
one_begins (Native d) (Issued v c i) x y va vb s = absurd (omega (arith, s.0))
one_begins (Issued v c i) (Native d) x y va vb s = absurd (omega (arith, s.0))
one_begins (Issued v c i) (Issued w d j) x y ((m, v_is, dm), lc, li) ((n, w_is, dn), ld, lj) s =
    let mu : cast_unsigned w64 v ≡ m = ap (cast_unsigned w64) v_is in
    let nu : cast_unsigned w64 w ≡ n = ap (cast_unsigned w64) w_is in
    let bits : m ≡ n = omega (arith, s.0) in
    let halves : (c ++ i ≡ d ++ j) × (x ≡ y) =
    split_same (c ++ i) (d ++ j) x y (omega (arith, length-append c i, length-append d j)) s.1 in
    let parts : (c ≡ d) × (i ≡ j) = split_same c d i j (omega arith) halves.0 in (
      ap (λ z. Issued z c i) (v_is ∙ ap pos bits ∙ sym w_is)
          ∙ ap (λ z. Issued w z i) parts.0
          ∙ ap (λ z. Issued w d z) parts.1,
      halves.1,
    )

pub one_amount_begins : OneAmount
one_amount_begins a b x y va vb e = one_begins a b x y va vb (one_eight a b x y va vb e)

amount_begins : (bytes : List ℕ) (a : Amount) (size : ℕ) → AmountGives bytes (amounts.Amount a size) →
    Begins IsAmount bytes
amount_begins bytes a size h = (take size bytes, drop size bytes, (a, h.0, h.2), sym (take-append-drop size bytes))

pub one_amount_answer : OneAmount → OneAmountRead
one_amount_answer one bytes amounts.Cut amounts.Cut h k = refl
one_amount_answer one bytes amounts.Cut amounts.Bad h k = absurd (cut_or_bad IsAmount bytes h k)
one_amount_answer one bytes amounts.Cut (amounts.Amount a size) h k = absurd (h.0 (amount_begins bytes a size k))
one_amount_answer one bytes amounts.Bad amounts.Cut h k = absurd (cut_or_bad IsAmount bytes k h)
one_amount_answer one bytes amounts.Bad amounts.Bad h k = refl
one_amount_answer one bytes amounts.Bad (amounts.Amount a size) h k = absurd (h.0 (amount_begins bytes a size k))
one_amount_answer one bytes (amounts.Amount a size) amounts.Cut h k = absurd (k.0 (amount_begins bytes a size h))
one_amount_answer one bytes (amounts.Amount a size) amounts.Bad h k = absurd (k.0 (amount_begins bytes a size h))
one_amount_answer one bytes (amounts.Amount a size) (amounts.Amount b size') h k =
    let same : (a ≡ b) × (drop size bytes ≡ drop size' bytes) =
    one a b (drop size bytes) (drop size' bytes) h.0 k.0
    (sym (parted bytes (amount_bytes a) size h.2) ∙ parted bytes (amount_bytes b) size' k.2) in
    let sizes : size ≡ size' = same_size bytes size size' h.1 k.1 same.1 in
    ap (λ x. amounts.Amount x size) same.0 ∙ ap (λ n. amounts.Amount b n) sizes
