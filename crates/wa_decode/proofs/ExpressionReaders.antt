-- Expressions are read as they are spelled.
use Rattle.std.proofs.Common.{◌≡◌, ℕ, zero, suc, ◌≤◌, Bool, false, List, [], ◌∷◌, ◌++◌, length, Option, Some, None}
use Rattle.std.proofs.Common.{refl, sym, ap, ◌∙◌, subst, append_assoc, length-append, arith}
use Rattle.wa_ops.specs.declared.op.Op.{Op}
use Rattle.wa_decode.specs.CodeReading.{op_at, opened, rest_at, regions_at, expression_at}
use Rattle.wa_decode.specs.Grammar.{SpellsAll}
use Rattle.wa_decode.specs.Instructions.{SpellsOp, SpellsExpression}
use Rattle.wa_decode.proofs.CodeReaders.{op_forth, op_back}
use Rattle.wa_decode.proofs.Nesting.{Closes, nested_closes, closes_nested}
use Rattle.wa_decode.proofs.Readers.{Reader, bind_some, some_both, pair_of}

-- items that are spelled by a byte at least are no more than the bytes
pub items_long : {A : Type 0} (Spelling : A → List ℕ → Type 0) → ((x : A) → Spelling x [] → ⊥) →
    (xs : List A) (front : List ℕ) → SpellsAll Spelling xs front → length xs ≤ length front
items_long Spelling some [] front h = omega arith
items_long {A} Spelling some (x ∷ xs) front h = longer h.0 h.2 h.4 (items_long Spelling some xs h.1 h.3)
  where
    longer : (first : List ℕ) → Spelling x first → front ≡ first ++ h.1 → length xs ≤ length h.1 →
        length (x ∷ xs) ≤ length front
    longer [] s e l = absurd (some x s)
    longer (b ∷ bs) s e l =
        let p : length front ≡ suc (length (bs ++ h.1)) = ap length e in omega (arith, length-append bs h.1)

pub op_some : (op : Op) → SpellsOp op [] → ⊥
unfolding op_at
op_some op h = let e : op_at [] ≡ Some (op, []) = op_forth op [] [] h in absurd cc

-- ---- each spelling is read

rest_forth : (op : Op) (ops : List Op) (bytes : List ℕ) (behind rest : List ℕ)
    (next : List Bool → Option (List Op × List ℕ)) (now : Option (List Bool)) → SpellsAll SpellsOp ops behind →
    Closes ops now → bytes ≡ behind ++ rest
    → ((may : Bool) (around : List Bool) → Closes ops (Some (may ∷ around)) → next (may ∷ around) ≡ Some (ops, rest)) →
    rest_at op bytes next now ≡ Some (op ∷ ops, rest)
rest_forth op ops bytes behind rest next None s c e deeper = absurd c
rest_forth op [] bytes behind rest next (Some []) s c e deeper =
    pair_of (op ∷ []) (op ∷ []) bytes rest refl (e ∙ ap (λ bs. bs ++ rest) s)
rest_forth op (x ∷ xs) bytes behind rest next (Some []) s c e deeper = absurd c
rest_forth op ops bytes behind rest next (Some (may ∷ around)) s c e deeper = rw (deeper may around c) refl

pub regions_forth : (ops : List Op) (n : ℕ) (may : Bool) (around : List Bool) (front rest : List ℕ) → length ops ≤ n →
    SpellsAll SpellsOp ops front → Closes ops (Some (may ∷ around)) →
    regions_at n (may ∷ around) (front ++ rest) ≡ Some (ops, rest)
unfolding regions_at
regions_forth [] n may around front rest l s c = absurd cc
regions_forth (op ∷ ops) zero may around front rest l s c = absurd (omega arith)
regions_forth (op ∷ ops) (suc n) may around front rest l s c =
    let e : front ++ rest ≡ s.0 ++ (s.1 ++ rest) = ap (λ bs. bs ++ rest) s.4 ∙ append_assoc s.0 s.1 rest in
    ap (regions_at (suc n) (may ∷ around)) e
    ∙ rw (op_forth op s.0 (s.1 ++ rest) s.2) (rest_forth op ops (s.1 ++ rest) s.1 rest
    (λ now. regions_at n now (s.1 ++ rest)) (opened op (may ∷ around)) s.3 c refl
    (λ m a k. regions_forth ops n m a s.1 rest (omega (arith, l)) s.3 k))

-- ---- what is read is spelled

abbrev pub RegionsBack : List ℕ → Option (List Bool) → List Op → List ℕ → Type 0
RegionsBack bytes now ops rest =
    (front : List ℕ) × SpellsAll SpellsOp ops front × Closes ops now × (bytes ≡ front ++ rest)

rest_back : (op : Op) (bytes : List ℕ) (next : List Bool → Option (List Op × List ℕ)) (now : Option (List Bool))
    (ops : List Op) (rest : List ℕ) → rest_at op bytes next now ≡ Some (ops, rest)
    → ((may : Bool) (around : List Bool) (others : List Op) (more : List ℕ) →
    next (may ∷ around) ≡ Some (others, more) → RegionsBack bytes (Some (may ∷ around)) others more)
    → (others : List Op) × (op ∷ others ≡ ops) × RegionsBack bytes now others rest
rest_back op bytes next None ops rest e deeper = absurd cc
rest_back op bytes next (Some []) ops rest e deeper =
    let s = some_both (op ∷ [], bytes) (ops, rest) e in
    ([], s.0, ([], refl, refl, s.1))
rest_back op bytes next (Some (may ∷ around)) ops rest e deeper =
    let f = bind_some (next (may ∷ around)) (λ r. Some (op ∷ r.0, r.1)) (ops, rest) e in
    let s = some_both (op ∷ f.0.0, f.0.1) (ops, rest) f.2 in
    let d = deeper may around f.0.0 f.0.1 f.1 in
    (f.0.0, s.0, (d.0, d.1, d.2, d.3 ∙ ap (λ bs. d.0 ++ bs) s.1))

pub regions_back : (n : ℕ) (may : Bool) (around : List Bool) (bytes : List ℕ) (ops : List Op) (rest : List ℕ) →
    regions_at n (may ∷ around) bytes ≡ Some (ops, rest) → RegionsBack bytes (Some (may ∷ around)) ops rest
unfolding regions_at
regions_back zero may around bytes ops rest e = absurd cc
regions_back (suc n) may around bytes ops rest e =
    let f =
    bind_some (op_at bytes) (λ x. rest_at x.0 x.1 (λ now. regions_at n now x.1) (opened x.0 (may ∷ around))) (ops, rest)
    e in
    let a = op_back bytes f.0.0 f.0.1 f.1 in
    let r =
    rest_back f.0.0 f.0.1 (λ now. regions_at n now f.0.1) (opened f.0.0 (may ∷ around)) ops rest f.2
    (λ m k others more g. regions_back n m k f.0.1 others more g) in
    let P : List Op → Type 0 = λ os. RegionsBack bytes (Some (may ∷ around)) os rest in
    let w : bytes ≡ (a.0 ++ r.2.0) ++ rest = a.2 ∙ ap (λ bs. a.0 ++ bs) r.2.3 ∙ sym (append_assoc a.0 r.2.0 rest) in
    subst P r.1 (a.0 ++ r.2.0, (a.0, r.2.0, a.1, r.2.1, refl), r.2.2, w)

pub expression_reader : Reader SpellsExpression expression_at
unfolding expression_at
expression_reader = record {
  forth =
      λ ops front rest h.
      regions_forth ops (length (front ++ rest)) false [] front rest
      (omega (arith, items_long SpellsOp op_some ops front h.1, length-append front rest)) h.1 (nested_closes ops h.0);
  back = λ bytes ops rest e.
      let r = regions_back (length bytes) false [] bytes ops rest e in
      (r.0, (closes_nested ops r.2, r.1), r.3);
}
