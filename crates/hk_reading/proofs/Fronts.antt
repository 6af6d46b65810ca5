-- What stands at the front of bytes is found.
use Rattle.std.proofs.Common.{◌≡◌, ℕ, ◌≤◌, ◌==◌, ◌&&◌, ◌||◌, Bool, true, false, List, ◌++◌, length, take, drop, refl}
use Rattle.std.proofs.Common.{sym, ap, subst, ◌∙◌, arith, append_assoc, length-append, length-take, Some}
use Rattle.std.specs.Prelude.{Decides}
use Rattle.std.specs.Option.{option_map}
use Rattle.std.proofs.lemmas.Bool.Decides.{Decides-and, Decides-or, Decides-not, Decides-like}
use Rattle.std.proofs.lemmas.List.{take_at, drop_at, take-append-drop}
use Rattle.xo_fields.specs.declared.field.FieldId.{FieldId}
use Rattle.xo_fields.specs.declared.form.Form.{Form}
use Rattle.xo_fields.specs.declared.header.HeaderRead.{HeaderRead}
use Rattle.xo_fields.specs.declared.header.HeaderRead.TheVariants as headers
use Rattle.xo_fields.specs.declared.length.LengthRead.{LengthRead}
use Rattle.xo_fields.specs.declared.length.LengthRead.TheVariants as lengths
use Rattle.xo_fields.specs.Field.{number}
use Rattle.xo_fields.specs.Form.{form_at}
use Rattle.xo_fields.specs.Header.{header, IsField}
use Rattle.xo_fields.specs.Length.{prefix}
use Rattle.xo_fields.specs.Table.{header_at, length_at, found}
use Rattle.xo_fields.proofs.HeaderBytes.{header_again}
use Rattle.xo_fields.proofs.LengthBytes.{length_again}
use Rattle.xo_list.specs.Value.{Allowed, Head}
use Rattle.hk_reading.specs.Parsing.{is_field, is_allowed, head_of, fixed, sized}
use Rattle.xo_fields.proofs.Cases.{none_some}
use Rattle.hk_reading.proofs.Finding.{Finds, finds_one, finds_if, finds_map, nat_same, nat_below, nat_up_to, lists_same}

-- the front of a list and the rest of it
pub cut_at : (n : ℕ) (bytes front rest : List ℕ) → bytes ≡ front ++ rest → length front ≡ n →
    (take n bytes ≡ front) × (drop n bytes ≡ rest)
cut_at n bytes front rest e l = (ap (take n) e ∙ take_at front rest n l, ap (drop n) e ∙ drop_at front rest n l)

pub fixed_found : (n : ℕ) (bytes : List ℕ) → Finds (λ p. (length p.0 ≡ n) × (bytes ≡ p.0 ++ p.1)) (fixed n bytes)
fixed_found n bytes =
    finds_one (λ p. (length p.0 ≡ n) × (bytes ≡ p.0 ++ p.1)) _ _ (nat_up_to n (length bytes))
    (λ h. (simp length-take (omega arith), sym (take-append-drop n bytes)))
    (λ p h. (
      omega (arith, ap length h.1, length-append p.0 p.1),
      let c : (take n bytes ≡ p.0) × (drop n bytes ≡ p.1) = cut_at n bytes p.0 p.1 h.1 h.0 in λ i. (c.0 i, c.1 i),
    ))

-- the tests of a header
is_field_so : (f : FieldId) → Decides (is_field f) (IsField f)
is_field_so f =
    Decides-like (is_field f) (λ h.
    record { kind = h.0; code = h.1.0; kind_byte = h.1.1.0; code_byte = h.1.1.1.0; no_mark = λ c k. h.1.1.1.1 (c, k) })
    (λ is. (is.kind, (is.code, (is.kind_byte, (is.code_byte, λ m. is.no_mark m.0 m.1)))))
    (Decides-and _ _ (nat_below 0 f.kind) (Decides-and _ _ (nat_below 0 f.code) (Decides-and _ _ (nat_below f.kind 256)
    (Decides-and _ _ (nat_below f.code 256)
    (Decides-not ((f.code == 1) && ((f.kind == 14) || (f.kind == 15)))
    (Decides-and _ _ (nat_same f.code 1) (Decides-or _ _ (nat_same f.kind 14) (nat_same f.kind 15))))))))

is_allowed_so : (array : Bool) (last : ℕ) (f : FieldId) → Decides (is_allowed array last f) (Allowed array last f)
is_allowed_so true last f = nat_same f.kind 14
is_allowed_so false last f = nat_below last (number f)

abbrev pub Start : Type 0
Start = FieldId × Form × List ℕ

abbrev pub HasHead : Bool → ℕ → List ℕ → Start → Type 0
HasHead array last bytes h = Head array last h.0 h.1 bytes h.2

-- what stands after a header that is read
abbrev pub AfterHeader : List ℕ → FieldId → ℕ → Start → Type 0
AfterHeader bytes f size h = (h.0 ≡ f) × (form_at f.kind ≡ Some h.1) × (h.2 ≡ drop size bytes)

form_found : (bytes : List ℕ) (f : FieldId) (size : ℕ) →
    Finds (AfterHeader bytes f size) (option_map (λ form. (f, form, drop size bytes)) (form_at f.kind))
form_found bytes f size =
    finds_map (λ form. form_at f.kind ≡ Some form) (AfterHeader bytes f size) (form_at f.kind)
    (λ form. (f, form, drop size bytes)) (record { sound = λ x e. e; complete = λ x e. e })
    (λ form e. (refl, e, refl)) (λ h a. (h.1, a.1, λ i. (sym a.0 i, h.1, sym a.2 i)))

-- the tests of a header pass, and this stands after it
abbrev pub AtHeader : Bool → ℕ → List ℕ → FieldId → ℕ → Start → Type 0
AtHeader array last bytes f size h =
    (IsField f × (Allowed array last f × (take size bytes ≡ header f))) × AfterHeader bytes f size h

at_header_found : (array : Bool) (last : ℕ) (bytes : List ℕ) (f : FieldId) (size : ℕ) →
    Finds (AtHeader array last bytes f size) (head_of array last bytes (headers.Header f size))
at_header_found array last bytes f size =
    finds_if (AfterHeader bytes f size) (AtHeader array last bytes f size) _ _ (Decides-and _ _ (is_field_so f)
    (Decides-and _ _ (is_allowed_so array last f) (lists_same (take size bytes) (header f)))) (form_found bytes f size)
    (λ h t a. (t, a)) (λ h a. a)

head_there : (array : Bool) (last : ℕ) (bytes : List ℕ) (f : FieldId) (size : ℕ) (h : Start) →
    AtHeader array last bytes f size h → HasHead array last bytes h
head_there array last bytes f size h ((is, (allowed, cut)), (same, known, tail)) =
    subst (λ g. Head array last g h.1 bytes h.2) (sym same)
    (record {
      is = is;
      known = known;
      whole =
          sym (take-append-drop size bytes) ∙ ap (λ x. x ++ drop size bytes) cut ∙ ap (λ x. header f ++ x) (sym tail);
      allowed = allowed;
    })

header_sound : (array : Bool) (last : ℕ) (bytes : List ℕ) (read : HeaderRead) (h : Start) →
    head_of array last bytes read ≡ Some h → HasHead array last bytes h
header_sound array last bytes headers.Cut h e = none_some h e
header_sound array last bytes headers.Bad h e = none_some h e
header_sound array last bytes (headers.Header f size) h e =
    head_there array last bytes f size h ((at_header_found array last bytes f size).sound h e)

header_complete : (array : Bool) (last : ℕ) (bytes : List ℕ) (h : Start) → HasHead array last bytes h →
    head_of array last bytes (header_at bytes) ≡ Some h
header_complete array last bytes h head =
    let again : header_at bytes ≡ found h.0.kind h.0.code (length (header h.0)) =
    ap header_at head.whole ∙ header_again h.0 h.2 head.is in
    let cut : (take (length (header h.0)) bytes ≡ header h.0) × (drop (length (header h.0)) bytes ≡ h.2) =
    cut_at (length (header h.0)) bytes (header h.0) h.2 head.whole refl in
    ap (head_of array last bytes) again
    ∙ (at_header_found array last bytes h.0 (length (header h.0))).complete h
    ((head.is, (head.allowed, cut.0)), (refl, head.known, sym cut.1))

pub header_found : (array : Bool) (last : ℕ) (bytes : List ℕ) →
    Finds (HasHead array last bytes) (head_of array last bytes (header_at bytes))
header_found array last bytes = record {
  sound = header_sound array last bytes (header_at bytes);
  complete = header_complete array last bytes;
}

-- a value after its length
module _ (fits : ℕ → Bool) (Fits : ℕ → Type 0) (decides : (n : ℕ) → Decides (fits n) (Fits n))
    (small : (n : ℕ) → Fits n → n ≤ 918744) (bytes : List ℕ) where
  abbrev pub IsSized : List ℕ × List ℕ → Type 0
  IsSized p = Fits (length p.0) × (bytes ≡ (prefix (length p.0) ++ p.0) ++ p.1)

  abbrev pub AtLength : ℕ → ℕ → List ℕ × List ℕ → Type 0
  AtLength n size p = (Fits n × (take size bytes ≡ prefix n)) × ((length p.0 ≡ n) × (drop size bytes ≡ p.0 ++ p.1))

  at_length_found : (n size : ℕ) → Finds (AtLength n size) (sized fits bytes (lengths.Length n size))
  at_length_found n size =
      finds_if (λ p. (length p.0 ≡ n) × (drop size bytes ≡ p.0 ++ p.1)) (AtLength n size) _ _
      (Decides-and _ _ (decides n) (lists_same (take size bytes) (prefix n))) (fixed_found n (drop size bytes))
      (λ p t h. (t, h)) (λ p h. h)

  sized_there : (n size : ℕ) (p : List ℕ × List ℕ) → AtLength n size p → IsSized p
  sized_there n size p ((fit, cut), (long, tail)) =
      subst (λ m. Fits m × (bytes ≡ (prefix m ++ p.0) ++ p.1)) (sym long) (
        fit,
        sym (take-append-drop size bytes)
            ∙ ap (λ x. x ++ drop size bytes) cut
            ∙ ap (λ x. prefix n ++ x) tail
            ∙ sym (append_assoc (prefix n) p.0 p.1),
      )

  sized_sound : (read : LengthRead) (p : List ℕ × List ℕ) → sized fits bytes read ≡ Some p → IsSized p
  sized_sound lengths.Cut p e = none_some p e
  sized_sound lengths.Bad p e = none_some p e
  sized_sound (lengths.Length n size) p e = sized_there n size p ((at_length_found n size).sound p e)

  sized_complete : (p : List ℕ × List ℕ) → IsSized p → sized fits bytes (length_at bytes) ≡ Some p
  sized_complete p (fit, is) =
      let n : ℕ = length p.0 in
      let spelled : bytes ≡ prefix n ++ (p.0 ++ p.1) = is ∙ append_assoc (prefix n) p.0 p.1 in
      let again : length_at bytes ≡ lengths.Length n (length (prefix n)) =
      ap length_at spelled ∙ length_again n (p.0 ++ p.1) (small n fit) in
      let cut : (take (length (prefix n)) bytes ≡ prefix n) × (drop (length (prefix n)) bytes ≡ p.0 ++ p.1) =
      cut_at (length (prefix n)) bytes (prefix n) (p.0 ++ p.1) spelled refl in
      ap (sized fits bytes) again ∙ (at_length_found n (length (prefix n))).complete p ((fit, cut.0), (refl, cut.1))

  pub sized_found : Finds IsSized (sized fits bytes (length_at bytes))
  sized_found = record { sound = sized_sound (length_at bytes); complete = sized_complete }
