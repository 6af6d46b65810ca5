-- What an execution's details say of generation and burden.
use Rattle.std.proofs.Common.{◌≡◌, ℕ, ◌<◌, ◌^◌, ◌∷◌, Bool, true, false, List, [], ◌++◌, length, refl, sym, ap, subst}
use Rattle.std.proofs.Common.{◌∙◌, arith, Option, Some, None, if◌then◌else◌}
use Rattle.std.specs.Prelude.{bytes_eq, find}
use Rattle.std.specs.Int.{w32, w64, to_be_bytes, from_be_bytes}
use Rattle.std.specs.Option.{option_map, option_map_or}
use Rattle.std.proofs.lemmas.Nat.{from_be_bytes-to_be_bytes_4, from_be_bytes-to_be_bytes_8}
use Rattle.std.proofs.lemmas.Slice.Eq.{bytes_eq-Decides}
use Rattle.hk_base.specs.declared.ids.Hash256.{Hash256}
use Rattle.xo_fields.specs.declared.field.FieldId.{FieldId}
use Rattle.xo_fields.specs.declared.form.Form.TheVariants.{Fixed}
use Rattle.xo_fields.specs.Field.{number}
use Rattle.xo_fields.specs.Form.{form_at}
use Rattle.xo_fields.specs.Header.{header, IsField}
use Rattle.xo_fields.specs.Laws.{OneHeader}
use Rattle.xo_fields.proofs.Cases.{some_same, none_some}
use Rattle.xo_fields.proofs.OneAnswer.{split_same}
use Rattle.xo_list.specs.Item.{Item, body, lookup}
use Rattle.xo_list.specs.Value.{IsObject, IsValue, Stands}
use Rattle.xo_object.specs.Names as names
use Rattle.xo_object.specs.Transaction.{number32, number64, EmissionIs, DetailsAre}
use Rattle.xo_object.proofs.Values.{number_same}
use Rattle.hk_emit.specs.declared.context.EmitContext.{EmitContext}
use Rattle.hk_emit.specs.Accept.{has_details, nonce_of}
use Rattle.hk_emit.specs.Details.{details_fields, callback_field}

-- the first field, where the bytes begin with a value of so many bytes under its header
stands_first : OneHeader → (f : FieldId) (n : ℕ) (value rest : List ℕ) → IsField f → form_at f.kind ≡ Some (Fixed n) →
    length value ≡ n → (last : ℕ) (x : Item) (tail : List ℕ) →
    Stands (IsValue 10) false last x (header f ++ (value ++ rest)) tail →
    (x.field ≡ f) × (x.value ≡ value) × (tail ≡ rest)
stands_first one f n value rest is form long last x tail s =
    let heads : (x.field ≡ f) × (body s.form x.value ++ tail ≡ value ++ rest) =
    one x.field f (body s.form x.value ++ tail) (value ++ rest) s.head.is is (sym s.head.whole) in
    let fixed : s.form ≡ Fixed n =
    some_same s.form (Fixed n) (sym s.head.known ∙ ap (λ (g : FieldId). form_at g.kind) heads.0 ∙ form) in
    let short : length x.value ≡ n = subst (λ g. IsValue 10 g x.value) fixed s.value in
    let parts : (x.value ≡ value) × (tail ≡ rest) =
    split_same x.value value tail rest (short ∙ sym long)
    (subst (λ g. body g x.value ++ tail ≡ value ++ rest) fixed heads.1) in
    (heads.0, parts.0, parts.1)

-- bytes that begin with a generation and a burden
abbrev pub numbered : ℕ → ℕ → List ℕ → List ℕ
numbered generation burden rest =
    header names.emit_generation ++
    (to_be_bytes w32 generation ++ (header names.emit_burden ++ (to_be_bytes w64 burden ++ rest)))

abbrev pub HasNumbers : ℕ → ℕ → List Item → Type 0
HasNumbers generation burden fields =
    (lookup names.emit_generation fields ≡ Some (to_be_bytes w32 generation))
    × (lookup names.emit_burden fields ≡ Some (to_be_bytes w64 burden))

generation_field : IsField names.emit_generation
generation_field = record {
  kind = omega arith;
  code = omega arith;
  kind_byte = omega arith;
  code_byte = omega arith;
  no_mark = λ e h. omega (arith, e);
}

burden_field : IsField names.emit_burden
burden_field = record {
  kind = omega arith;
  code = omega arith;
  kind_byte = omega arith;
  code_byte = omega arith;
  no_mark = λ e h. omega (arith, e);
}

-- a list that isn't empty
some_left : (x : ℕ) (xs rest : List ℕ) → rest ≡ x ∷ xs → rest ≡ [] → ⊥
some_left x xs rest e f = omega (arith, ap length (sym e ∙ f))

numbers_there : OneHeader → (generation burden : ℕ) (rest : List ℕ) (fields : List Item) →
    IsObject fields (numbered generation burden rest) → HasNumbers generation burden fields
numbers_there one generation burden rest [] whole = absurd (some_left _ _ _ refl whole)
numbers_there one generation burden rest (x ∷ []) (tail, stands, ends) =
    let first : (x.field ≡ names.emit_generation) × (x.value ≡ to_be_bytes w32 generation)
    × (tail ≡ header names.emit_burden ++ (to_be_bytes w64 burden ++ rest)) =
    stands_first one names.emit_generation 4 (to_be_bytes w32 generation)
    (header names.emit_burden ++ (to_be_bytes w64 burden ++ rest)) generation_field refl refl 0 x tail stands in
    absurd (some_left _ _ tail first.2 ends)
numbers_there one generation burden rest (x ∷ y ∷ more) (tail, stands, (left, next, goes)) =
    let first : (x.field ≡ names.emit_generation) × (x.value ≡ to_be_bytes w32 generation)
    × (tail ≡ header names.emit_burden ++ (to_be_bytes w64 burden ++ rest)) =
    stands_first one names.emit_generation 4 (to_be_bytes w32 generation)
    (header names.emit_burden ++ (to_be_bytes w64 burden ++ rest)) generation_field refl refl 0 x tail stands in
    let second : (y.field ≡ names.emit_burden) × (y.value ≡ to_be_bytes w64 burden) × (left ≡ rest) =
    stands_first one names.emit_burden 8 (to_be_bytes w64 burden) rest burden_field refl refl (number x.field) y left
    (subst (λ bytes. Stands (IsValue 10) false (number x.field) y bytes left) first.2 next) in
    let items : x ∷ y ∷ more
    ≡ record { field = names.emit_generation; value = to_be_bytes w32 generation } ∷
    record { field = names.emit_burden; value = to_be_bytes w64 burden } ∷ more =
    λ i. record { field = first.0 i; value = first.1 i } ∷ record { field = second.0 i; value = second.1 i } ∷ more in
    (ap (lookup names.emit_generation) items, ap (lookup names.emit_burden) items)

-- the numbers are the context's, where these fit
abbrev pub SaysOf : EmitContext → ℕ → ℕ → Type 0
SaysOf context generation burden =
    (context.generation < 2 ^ 32 → generation ≡ context.generation)
    × (context.burden < 2 ^ 64 → burden ≡ context.burden)

module _ (one : OneHeader) (context : EmitContext) (nonce : Hash256) where
  -- what stands behind both numbers
  abbrev pub behind : List ℕ
  behind = 0x5B ∷ context.parent.0 ++ 0x5C ∷ nonce.0 ++ 0x5D ∷ context.hash.0 ++ callback_field context

  says_numbers : (generation burden : ℕ) → DetailsAre (details_fields context nonce) generation burden →
      SaysOf context generation burden
  says_numbers generation burden h =
      let numbers : HasNumbers context.generation context.burden h.fields =
      numbers_there one context.generation context.burden behind h.fields h.object in (
        λ small. number_same (number32 names.emit_generation h.fields) generation context.generation h.is.generation_is
            (ap (option_map (from_be_bytes w32)) numbers.0
            ∙ ap Some (from_be_bytes-to_be_bytes_4 context.generation small)),
        λ small. number_same (number64 names.emit_burden h.fields) burden context.burden h.is.burden_is
            (ap (option_map (from_be_bytes w64)) numbers.1
            ∙ ap Some (from_be_bytes-to_be_bytes_8 context.burden small)),
      )

  -- of a transaction that has these details
  emitted_says : (details : Option (List ℕ)) (sequence generation burden : ℕ) →
      option_map_or (λ found. bytes_eq found (details_fields context nonce)) details false ≡ true →
      EmissionIs true details sequence generation burden → SaysOf context generation burden
  emitted_says None sequence generation burden same h = absurd h
  emitted_says (Some bytes) sequence generation burden same h =
      says_numbers generation burden
      (subst (λ b. DetailsAre b generation burden) ((bytes_eq-Decides bytes (details_fields context nonce)).0 same) h.1)

-- a nonce that is found gives the details
found_passes : {A : Type 0} (test : A → Bool) (xs : List A) (x : A) → find test xs ≡ Some x → test x ≡ true
found_passes test [] x e = none_some x e
found_passes test (y ∷ ys) x e = there (test y) refl e (found_passes test ys x)
  where
    there : (b : Bool) → test y ≡ b → (if b then Some y else find test ys) ≡ Some x →
        (find test ys ≡ Some x → test x ≡ true) → test x ≡ true
    there true h f later = subst (λ z. test z ≡ true) (some_same y x f) h
    there false h f later = later f

pub nonce_says : OneHeader →
    (context : EmitContext) (nonces : List Hash256) (fields : List Item) (nonce : Hash256)
    (sequence generation burden : ℕ) → nonce_of context nonces fields ≡ Some nonce →
    EmissionIs true (lookup names.emit_details fields) sequence generation burden → SaysOf context generation burden
nonce_says one context nonces fields nonce sequence generation burden found h =
    emitted_says one context nonce (lookup names.emit_details fields) sequence generation burden
    (found_passes (has_details context fields) nonces nonce found) h
