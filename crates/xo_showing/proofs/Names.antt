-- The table of names, read in both directions.
use Rattle.std.proofs.Common.{◌≡◌, ℕ, ◌<◌, ◌≤◌, ◌==◌, ◌&&◌, ◌⊎◌, inl, inr, Bool, true, false, List, [], ◌∷◌, get_or}
use Rattle.std.proofs.Common.{nat_le, refl, sym, ap, subst, ◌∙◌, arith, Option, Some, None}
use Rattle.std.specs.Prelude.{nat_eq, is_some, IsSome}
use Rattle.std.specs.Cmp.Lexicographic.{pointwise}
use Rattle.std.proofs.lemmas.Bool.{and_parts}
use Rattle.std.proofs.lemmas.Bool.Decides.{nat_tests}
use Rattle.std.proofs.lemmas.Slice.Eq.{bytes_eq-Decides}
use Rattle.xo_fields.specs.declared.field.FieldId.{FieldId}
use Rattle.xo_fields.specs.Form.{form_at}
use Rattle.xo_fields.specs.Header.{IsField}
use Rattle.hk_reading.specs.Parsing.{is_field}
use Rattle.xo_fields.specs.Name.{Names, code_named, named_by, named_among, field_named, kinds}
use Rattle.xo_fields.proofs.Cases.{pick, pick_equal, some_same, none_some}
use Rattle.xo_showing.specs.Name.{name_coded, names_among, name_of}
use Rattle.xo_showing.specs.Laws.{NamesBack}

-- a test of each name of the table, with its kind and its code
abbrev pub Test : Type 0
Test = ℕ → List ℕ → ℕ → Bool

abbrev pub names_pass : Test → ℕ → Names → Bool
names_pass test kind [] = true
names_pass test kind (entry ∷ rest) = test kind entry.0 entry.1 && names_pass test kind rest

abbrev pub kinds_pass : Test → List (ℕ × Names) → Bool
kinds_pass test [] = true
kinds_pass test (entry ∷ rest) = names_pass test entry.0 entry.1 && kinds_pass test rest

-- the name is that field's
abbrev pub is_at : ℕ → ℕ → Option FieldId → Bool
is_at kind code None = false
is_at kind code (Some f) = (f.kind == kind) && (f.code == code)

abbrev pub found_by_name : Test
found_by_name kind name code = is_at kind code (field_named name)

-- the field has that name
abbrev pub is_called : List ℕ → Option (List ℕ) → Bool
is_called name None = false
is_called name (Some other) = pointwise nat_eq name other

abbrev pub found_by_field : Test
found_by_field kind name code = is_called name (name_coded code (names_among kind kinds))

-- the name begins with a letter
abbrev pub begins_so : Test
begins_so kind name code = nat_le 65 (get_or name 0 0)

-- it is a field of a kind that has a form
abbrev pub is_known : Test
is_known kind name code = is_field (record { kind = kind; code = code }) && is_some (form_at kind)

all_by_name : kinds_pass found_by_name kinds ≡ true
all_by_name = refl

all_by_field : kinds_pass found_by_field kinds ≡ true
all_by_field = refl

all_begin : kinds_pass begins_so kinds ≡ true
all_begin = refl

all_known : kinds_pass is_known kinds ≡ true
all_known = refl

-- ---- from the test to the rule

field_is : (f : FieldId) (kind code : ℕ) → f.kind ≡ kind → f.code ≡ code → f ≡ record { kind = kind; code = code }
field_is f kind code k c = λ i. record { kind = k i; code = c i }

module _ (test : Test) where
  first_passes : (kind : ℕ) (entry : List ℕ × ℕ) (rest : Names) → names_pass test kind (entry ∷ rest) ≡ true →
      (test kind entry.0 entry.1 ≡ true) × (names_pass test kind rest ≡ true)
  first_passes kind entry rest pass = and_parts (test kind entry.0 entry.1) (names_pass test kind rest) pass

  kind_passes : (entry : ℕ × Names) (rest : List (ℕ × Names)) → kinds_pass test (entry ∷ rest) ≡ true →
      (names_pass test entry.0 entry.1 ≡ true) × (kinds_pass test rest ≡ true)
  kind_passes entry rest pass = and_parts (names_pass test entry.0 entry.1) (kinds_pass test rest) pass

  -- the name at a code passes
  coded_passes : (kind code : ℕ) (names : Names) (name : List ℕ) → names_pass test kind names ≡ true →
      name_coded code names ≡ Some name → test kind name code ≡ true
  coded_passes kind code [] name pass e = none_some name e
  coded_passes kind code (entry ∷ rest) name pass e =
      pick_equal (λ o. o ≡ Some name → test kind name code ≡ true) code entry.1 (Some entry.0) (name_coded code rest)
      (λ is h.
      ap (λ n. test kind n code) (sym (some_same entry.0 name h))
      ∙ ap (test kind entry.0) is
      ∙ (first_passes kind entry rest pass).0)
      (λ other h. coded_passes kind code rest name (first_passes kind entry rest pass).1 h) e

  -- the names of a kind pass
  among_pass : (kind : ℕ) (ks : List (ℕ × Names)) → kinds_pass test ks ≡ true →
      names_pass test kind (names_among kind ks) ≡ true
  among_pass kind [] pass = refl
  among_pass kind (entry ∷ rest) pass =
      pick_equal (λ names. names_pass test kind names ≡ true) kind entry.0 entry.1 (names_among kind rest)
      (λ is. ap (λ k. names_pass test k entry.1) is ∙ (kind_passes entry rest pass).0)
      (λ other. among_pass kind rest (kind_passes entry rest pass).1)

  -- the name of a code passes at that code
  named_passes : (kind : ℕ) (names : Names) (name : List ℕ) (code : ℕ) → names_pass test kind names ≡ true →
      code_named name names ≡ Some code → test kind name code ≡ true
  named_passes kind [] name code pass e = none_some code e
  named_passes kind (entry ∷ rest) name code pass e =
      pick (λ o. o ≡ Some code → test kind name code ≡ true) (pointwise nat_eq name entry.0) (Some entry.1)
      (code_named name rest)
      (λ is h.
      ap (test kind name) (sym (some_same entry.1 code h))
      ∙ ap (λ n. test kind n entry.1) ((bytes_eq-Decides name entry.0).0 is)
      ∙ (first_passes kind entry rest pass).0)
      (λ other h. named_passes kind rest name code (first_passes kind entry rest pass).1 h) e

  found_in : (entry : ℕ × Names) (o : Option ℕ) (later : Option FieldId) (name : List ℕ) (f : FieldId) →
      ((code : ℕ) → o ≡ Some code → test entry.0 name code ≡ true) → (later ≡ Some f → test f.kind name f.code ≡ true) →
      named_by entry.0 o later ≡ Some f → test f.kind name f.code ≡ true
  found_in entry None later name f here more h = more h
  found_in entry (Some code) later name f here more h =
      subst (λ (g : FieldId). test g.kind name g.code ≡ true) (some_same (record { kind = entry.0; code = code }) f h)
      (here code refl)

  -- and the name of a field at its kind and code
  field_passes : (ks : List (ℕ × Names)) (name : List ℕ) (f : FieldId) → kinds_pass test ks ≡ true →
      named_among name ks ≡ Some f → test f.kind name f.code ≡ true
  field_passes [] name f pass e = none_some f e
  field_passes (entry ∷ rest) name f pass e =
      found_in entry (code_named name entry.1) (named_among name rest) name f
      (λ code is. named_passes entry.0 entry.1 name code (kind_passes entry rest pass).0 is)
      (λ h. field_passes rest name f (kind_passes entry rest pass).1 h) e

-- ---- a field has a name exactly where the name is the field's

is_there : (kind code : ℕ) (o : Option FieldId) → is_at kind code o ≡ true →
    o ≡ Some (record { kind = kind; code = code })
is_there kind code None e = absurd cc
is_there kind code (Some f) e =
    let both : ((f.kind == kind) ≡ true) × ((f.code == code) ≡ true) = and_parts (f.kind == kind) (f.code == code) e in
    ap Some (field_is f kind code (grind (arith, nat_tests, both.0)) (grind (arith, nat_tests, both.1)))

is_its : (name : List ℕ) (o : Option (List ℕ)) → is_called name o ≡ true → o ≡ Some name
is_its name None e = absurd cc
is_its name (Some other) e = ap Some (sym ((bytes_eq-Decides name other).0 e))

pub names_back : NamesBack
unfolding name_of
names_back f name = (
  λ e.
      is_there f.kind f.code (field_named name) (coded_passes found_by_name f.kind f.code (names_among f.kind kinds)
      name
      (among_pass found_by_name f.kind kinds all_by_name) e),
  λ e.
      is_its name (name_coded f.code (names_among f.kind kinds))
      (field_passes found_by_field kinds name f all_by_field e),
)

-- a name begins with a letter
pub begins : (name : List ℕ) (f : FieldId) → field_named name ≡ Some f → 65 ≤ get_or name 0 0
begins name f e =
    let is : nat_le 65 (get_or name 0 0) ≡ true = field_passes begins_so kinds name f all_begin e in
    grind (arith, nat_tests)

-- a named field is one, and its kind has a form
pub named_known : (name : List ℕ) (f : FieldId) → field_named name ≡ Some f → IsField f × IsSome (form_at f.kind)
named_known name f e =
    let both : (is_field f ≡ true) × (is_some (form_at f.kind) ≡ true) =
    and_parts (is_field f) (is_some (form_at f.kind)) (field_passes is_known kinds name f all_known e) in
    let tests : _ = field_tests f both.0 in (
      record { kind = tests.0; code = tests.1; kind_byte = tests.2; code_byte = tests.3; no_mark = no_mark f both.0 },
      both.1,
    )
  where
    field_tests : (g : FieldId) → is_field g ≡ true → (0 < g.kind) × (0 < g.code) × (g.kind < 256) × (g.code < 256)
    field_tests g h =
        (grind (arith, nat_tests), grind (arith, nat_tests), grind (arith, nat_tests), grind (arith, nat_tests))

    no_mark : (g : FieldId) → is_field g ≡ true → g.code ≡ 1 → (g.kind ≡ 14) ⊎ (g.kind ≡ 15) → ⊥
    no_mark g h c (inl k) = grind (arith, nat_tests)
    no_mark g h c (inr k) = grind (arith, nat_tests)
