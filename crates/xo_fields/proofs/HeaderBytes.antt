-- What the table of headers says is what the definition of headers says.
use Rattle.std.proofs.Common.{◌≡◌, ℕ, suc, ◌/◌, ◌%◌, ◌<◌, ◌≤◌, ◌==◌, ◌&&◌, ◌⊎◌, inl, inr, List, [], ◌∷◌, ◌++◌, length}
use Rattle.std.proofs.Common.{take, drop, refl, sym, ap, subst, ◌∙◌, arith, append-nil, nat_lt, nat_le, Some, None}
use Rattle.std.proofs.Common.{IsSome}
use Rattle.std.proofs.lemmas.Bool.Decides.{nat_tests}
use Rattle.std.proofs.lemmas.List.{take-append-drop}
use Rattle.xo_fields.specs.declared.field.FieldId.{FieldId}
use Rattle.xo_fields.specs.declared.form.Form.{Form}
use Rattle.xo_fields.specs.declared.header.HeaderRead.{HeaderRead}
use Rattle.xo_fields.specs.declared.header.HeaderRead.TheVariants.{Cut, Bad, Header}
use Rattle.xo_fields.specs.Form.{form_at}
use Rattle.xo_fields.specs.Header.{header, IsField, IsHeader, HeaderGives}
use Rattle.xo_fields.specs.Spelling.{Begins}
use Rattle.xo_fields.specs.Table.{header_at, after_zero, after_kind, after_code, found}
use Rattle.xo_fields.proofs.Cases.{IsBytes, pick, either}

-- a header is found again, whatever comes after it
pub header_again : (f : FieldId) (rest : List ℕ) → IsField f →
    header_at (header f ++ rest) ≡ found f.kind f.code (length (header f))
header_again f rest is = grind (arith, nat_tests)

-- what is bad stays bad, however it goes on
pub stays_bad : (bytes more : List ℕ) → header_at bytes ≡ Bad → header_at (bytes ++ more) ≡ Bad
stays_bad [] more h = cc
stays_bad (a ∷ []) more h = grind (arith, nat_tests)
stays_bad (a ∷ b ∷ []) [] h = h
stays_bad (a ∷ b ∷ []) (c ∷ more) h = grind (arith, nat_tests)
stays_bad (a ∷ b ∷ c ∷ rest) more h = grind (arith, nat_tests)

-- what is cut can go on
pub goes_on : (bytes : List ℕ) → header_at bytes ≡ Cut → IsBytes bytes → (more : List ℕ) × IsHeader (bytes ++ more)
goes_on [] h small = (
  17 ∷ [],
  (
    record { kind = 1; code = 1 },
    record {
      kind = omega arith;
      code = omega arith;
      kind_byte = omega arith;
      code_byte = omega arith;
      no_mark = λ e k. grind arith;
    },
    refl,
  ),
)
goes_on (a ∷ []) h small = let ab : a < 256 = small 0 in
    either (a / 16 == 0)
    (λ k. either (a % 16 == 0)
    (λ c. (
      16 ∷ 16 ∷ [],
      (
        record { kind = 16; code = 16 },
        record {
          kind = omega arith;
          code = omega arith;
          kind_byte = omega arith;
          code_byte = omega arith;
          no_mark = λ e m. grind arith;
        },
        grind (arith, nat_tests),
      ),
    ))
    (λ c. (
      16 ∷ [],
      (
        record { kind = 16; code = a },
        record {
          kind = omega arith;
          code = grind (arith, nat_tests);
          kind_byte = omega arith;
          code_byte = omega arith;
          no_mark = λ e m. grind arith;
        },
        grind (arith, nat_tests),
      ),
    )))
    (λ k. either (a % 16 == 0)
    (λ c. (
      16 ∷ [],
      (
        record { kind = a / 16; code = 16 },
        record {
          kind = grind (arith, nat_tests);
          code = omega arith;
          kind_byte = omega arith;
          code_byte = omega arith;
          no_mark = λ e m. grind arith;
        },
        grind (arith, nat_tests),
      ),
    ))
    (λ c. absurd (grind (arith, nat_tests))))
goes_on (a ∷ b ∷ []) h small = let ab : a < 256 = small 0 in let bb : b < 256 = small 1 in (
  16 ∷ [],
  (
    record { kind = b; code = 16 },
    record {
      kind = grind (arith, nat_tests);
      code = omega arith;
      kind_byte = omega arith;
      code_byte = omega arith;
      no_mark = λ e m. grind arith;
    },
    grind (arith, nat_tests),
  ),
)
goes_on (a ∷ b ∷ c ∷ rest) h small = absurd (grind (arith, nat_tests))

-- these bytes at the front are the header of the field
abbrev pub Spells : List ℕ → FieldId → ℕ → Type 0
Spells bytes f size = IsField f × (size ≤ length bytes) × (take size bytes ≡ header f)

abbrev pub Good : List ℕ → HeaderRead → Type 0
Good bytes Cut = Unit {0}
Good bytes Bad = Unit {0}
Good bytes (Header f size) = Spells bytes f size

good_zero : (a : ℕ) (rest : List ℕ) → a ≡ 0 → IsBytes rest → Good (a ∷ rest) (after_zero rest)
good_zero a [] z small = tt
good_zero a (k ∷ []) z small = pick (Good (a ∷ k ∷ [])) (nat_lt k 16) _ _ (λ e. tt) (λ e. tt)
good_zero a (k ∷ c ∷ rest) z small = let kb : k < 256 = small 0 in let cb : c < 256 = small 1 in
    pick (Good (a ∷ k ∷ c ∷ rest)) (nat_lt k 16) _ _ (λ e. tt)
    (λ e. pick (Good (a ∷ k ∷ c ∷ rest)) (nat_lt c 16) _ _ (λ m. tt)
    (λ m. (
      record {
        kind = grind (arith, nat_tests);
        code = grind (arith, nat_tests);
        kind_byte = omega arith;
        code_byte = omega arith;
        no_mark = λ x y. grind (arith, nat_tests);
      },
      omega arith,
      grind (arith, nat_tests),
    )))

good_kind : (a : ℕ) (rest : List ℕ) → a % 16 ≡ 0 → 0 < a / 16 → a < 256 → IsBytes rest →
    Good (a ∷ rest) (after_kind (a / 16) rest)
good_kind a [] z p ab small = tt
good_kind a (c ∷ rest) z p ab small = let cb : c < 256 = small 0 in
    pick (Good (a ∷ c ∷ rest)) (nat_lt c 16) _ _ (λ e. tt)
    (λ e. (
      record {
        kind = p;
        code = grind (arith, nat_tests);
        kind_byte = omega arith;
        code_byte = omega arith;
        no_mark = λ x y. grind (arith, nat_tests);
      },
      omega arith,
      grind (arith, nat_tests),
    ))

good_code : (a : ℕ) (rest : List ℕ) → a / 16 ≡ 0 → 0 < a % 16 → IsBytes rest →
    Good (a ∷ rest) (after_code (a % 16) rest)
good_code a [] z p small = tt
good_code a (k ∷ rest) z p small = let kb : k < 256 = small 0 in
    pick (Good (a ∷ k ∷ rest)) (nat_lt k 16) _ _ (λ e. tt)
    (λ e. (
      record {
        kind = grind (arith, nat_tests);
        code = p;
        kind_byte = omega arith;
        code_byte = omega arith;
        no_mark = λ x y. grind (arith, nat_tests);
      },
      omega arith,
      grind (arith, nat_tests),
    ))

good : (bytes : List ℕ) → IsBytes bytes → Good bytes (header_at bytes)
good [] small = tt
good (a ∷ rest) small = let ab : a < 256 = small 0 in let more : IsBytes rest = λ i. small (suc i) in
    pick (Good (a ∷ rest)) (a / 16 == 0) _ _
    (λ k. pick (Good (a ∷ rest)) (a % 16 == 0) _ _
    (λ c. good_zero a rest (grind (arith, nat_tests)) more)
    (λ c. good_code a rest (grind (arith, nat_tests)) (grind (arith, nat_tests)) more))
    (λ k. pick (Good (a ∷ rest)) (a % 16 == 0) _ _
    (λ c. good_kind a rest (grind (arith, nat_tests)) (grind (arith, nat_tests)) ab more)
    (λ c. pick (Good (a ∷ rest)) ((a % 16 == 1) && nat_le 14 (a / 16)) _ _ (λ m. tt)
    (λ m. (
      record {
        kind = grind (arith, nat_tests);
        code = grind (arith, nat_tests);
        kind_byte = omega arith;
        code_byte = omega arith;
        no_mark = λ x y. grind (arith, nat_tests);
      },
      omega arith,
      grind (arith, nat_tests),
    ))))

-- what is cut or bad begins with no header
no_begin : (bytes : List ℕ) (read : HeaderRead) → header_at bytes ≡ read → (read ≡ Cut) ⊎ (read ≡ Bad) →
    Begins IsHeader bytes → ⊥
no_begin bytes read h which (front, rest, (f, is, e), whole) =
    let again : header_at bytes ≡ found f.kind f.code (length (header f)) =
    ap header_at (whole ∙ ap (λ x. x ++ rest) e) ∙ header_again f rest is in
    elim which [ inl c ↦ cc | inr b ↦ cc ]

pub header_cut : (bytes : List ℕ) → header_at bytes ≡ Cut → IsBytes bytes → HeaderGives bytes Cut
header_cut bytes h small = (no_begin bytes Cut h (inl refl), goes_on bytes h small)

pub header_bad : (bytes : List ℕ) → header_at bytes ≡ Bad → HeaderGives bytes Bad
header_bad bytes h =
    inl (
      no_begin bytes Bad h (inr refl),
      λ more spelled.
          no_begin (bytes ++ more) Bad (stays_bad bytes more h) (inr refl)
          (bytes ++ more, [], spelled, sym (append-nil (bytes ++ more))),
    )

spelled_there : (bytes : List ℕ) (f : FieldId) (size : ℕ) → header_at bytes ≡ Header f size → IsBytes bytes →
    Spells bytes f size
spelled_there bytes f size h small = subst (Good bytes) h (good bytes small)

pub header_known : (bytes : List ℕ) (f : FieldId) (size : ℕ) (form : Form) → header_at bytes ≡ Header f size →
    form_at f.kind ≡ Some form → IsBytes bytes → HeaderGives bytes (Header f size)
header_known bytes f size form h known small =
    let s : Spells bytes f size = spelled_there bytes f size h small in
    (s.0, subst (λ o. IsSome o) (sym known) refl, s.1, s.2)

pub header_unknown : (bytes : List ℕ) (f : FieldId) (size : ℕ) → header_at bytes ≡ Header f size →
    form_at f.kind ≡ None → IsBytes bytes → HeaderGives bytes Bad
header_unknown bytes f size h unknown small =
    let s : Spells bytes f size = spelled_there bytes f size h small in
    inr (f, drop size bytes, s.0, unknown, sym (take-append-drop size bytes) ∙ ap (λ x. x ++ drop size bytes) s.2)
