-- What is read is what is spelled, both ways, for readers made of readers.
use Rattle.std.proofs.Common.{◌≡◌, ℕ, ◌⊎◌, inl, inr, Bool, true, false, ◌==◌, if◌then◌else◌, List, [], ◌∷◌, ◌++◌}
use Rattle.std.proofs.Common.{Option, Some, None, refl, sym, ap, ap₂, ◌∙◌, subst, append_assoc}
use Rattle.std.proofs.lemmas.Bool.{eq-eqb, eqb-true}
use Rattle.wa_decode.specs.Grammar.{Then, After}
use Rattle.wa_decode.specs.Reading.{◌>>=◌, made_at, both_at, tag_at}

-- each spelling is read, with whatever stands behind it; and what is read is spelled
pub record Reader {A : Type 0} (Spelling : A → List ℕ → Type 0) (read : List ℕ → Option (A × List ℕ)) : Type 0 where
  pub forth : (x : A) (front rest : List ℕ) → Spelling x front → read (front ++ rest) ≡ Some (x, rest)
  pub back : (bytes : List ℕ) (x : A) (rest : List ℕ) → read bytes ≡ Some (x, rest) →
      (front : List ℕ) × Spelling x front × (bytes ≡ front ++ rest)

-- ---- answers that are there

pub bind_some : {A B : Type 0} (o : Option A) (f : A → Option B) (y : B) → (o >>= f) ≡ Some y →
    (x : A) × (o ≡ Some x) × (f x ≡ Some y)
bind_some None f y e = absurd cc
bind_some (Some x) f y e = (x, refl, e)

pub guard_some : {A : Type 0} (t : Bool) (o : Option A) (y : A) → (if t then o else None) ≡ Some y →
    (t ≡ true) × (o ≡ Some y)
guard_some true o y e = (refl, e)
guard_some false o y e = absurd cc

pub choice_some : {A : Type 0} (t : Bool) (o p : Option A) (y : A) → (if t then o else p) ≡ Some y →
    ((t ≡ true) × (o ≡ Some y)) ⊎ ((t ≡ false) × (p ≡ Some y))
choice_some true o p y e = inl (refl, e)
choice_some false o p y e = inr (refl, e)

pub some_both : {A B : Type 0} (x y : A × B) → Some x ≡ Some y → (x.0 ≡ y.0) × (x.1 ≡ y.1)
some_both x y e = let p : x ≡ y = cc in (ap (λ t. t.0) p, ap (λ t. t.1) p)

abbrev pub some_pair : {A B : Type 0} → A → B → Option (A × B)
some_pair a b = Some (a, b)

pub pair_of : {A B : Type 0} (a c : A) (b d : B) → a ≡ c → b ≡ d → some_pair a b ≡ some_pair c d
pair_of {A} {B} a c b d p q = ap₂ (λ (x : A) (y : B). some_pair x y) p q

-- ---- readers made of readers

pub made : {A B : Type 0} (SpellsA : A → List ℕ → Type 0) (read : List ℕ → Option (A × List ℕ)) → Reader SpellsA read →
    (make : A → B) (parts : B → A)
    → ((a : A) → parts (make a) ≡ a) → ((b : B) → make (parts b) ≡ b) →
    Reader (λ b. SpellsA (parts b)) (made_at make read)
made {A} {B} SpellsA read r make parts there again = record {
  forth = λ b front rest h. rw (r.forth (parts b) front rest h) (pair_of (make (parts b)) b rest rest (again b) refl);
  back = λ bytes b rest e.
      let f = bind_some (read bytes) (λ a. Some (make a.0, a.1)) (b, rest) e in
      let s = some_both (make f.0.0, f.0.1) (b, rest) f.2 in
      let g = r.back bytes f.0.0 f.0.1 f.1 in
      let P : A → Type 0 = λ a. SpellsA a g.0 in
      let h : SpellsA (parts b) g.0 = subst P (sym (there f.0.0) ∙ ap parts s.0) g.1 in
      let w : bytes ≡ g.0 ++ rest = g.2 ∙ ap (λ bs. g.0 ++ bs) s.1 in
      (g.0, h, w);
}

pub both : {A B : Type 0} (SpellsA : A → List ℕ → Type 0) (read : List ℕ → Option (A × List ℕ))
    (SpellsB : B → List ℕ → Type 0) (read_next : List ℕ → Option (B × List ℕ))
    → Reader SpellsA read → Reader SpellsB read_next →
    Reader (λ p. Then (SpellsA p.0) (SpellsB p.1)) (both_at read read_next)
both {A} {B} SpellsA read SpellsB read_next r n = record {
  forth = λ p front rest h.
      let e : front ++ rest ≡ h.0 ++ (h.1 ++ rest) = ap (λ bs. bs ++ rest) h.4 ∙ append_assoc h.0 h.1 rest in
      ap (both_at read read_next) e ∙ rw (r.forth p.0 h.0 (h.1 ++ rest) h.2, n.forth p.1 h.1 rest h.3) refl;
  back = λ bytes p rest e.
      let f = bind_some (read bytes) (λ a. read_next a.1 >>= λ b. Some ((a.0, b.0), b.1)) (p, rest) e in
      let g = bind_some (read_next f.0.1) (λ b. Some ((f.0.0, b.0), b.1)) (p, rest) f.2 in
      let s = some_both ((f.0.0, g.0.0), g.0.1) (p, rest) g.2 in
      let a = r.back bytes f.0.0 f.0.1 f.1 in
      let b = n.back f.0.1 g.0.0 g.0.1 g.1 in
      let P : A → Type 0 = λ x. SpellsA x a.0 in
      let Q : B → Type 0 = λ x. SpellsB x b.0 in
      let w : bytes ≡ (a.0 ++ b.0) ++ rest =
      a.2 ∙ ap (λ bs. a.0 ++ bs) (b.2 ∙ ap (λ bs. b.0 ++ bs) s.1) ∙ sym (append_assoc a.0 b.0 rest) in
      (a.0 ++ b.0, (a.0, b.0, subst P (ap (λ t. t.0) s.0) a.1, subst Q (ap (λ t. t.1) s.0) b.1, refl), w);
}

pub tagged : {A : Type 0} (tag : ℕ) (SpellsA : A → List ℕ → Type 0) (read : List ℕ → Option (A × List ℕ)) →
    Reader SpellsA read → Reader (λ x. After tag (SpellsA x)) (tag_at tag read)
tagged {A} tag SpellsA read r = record {
  forth = λ x front rest h.
      let e : front ++ rest ≡ tag ∷ (h.0 ++ rest) = ap (λ bs. bs ++ rest) h.2 in
      let t : (tag == tag) ≡ true = eq-eqb tag tag refl in
      ap (tag_at tag read) e ∙ rw t (r.forth x h.0 rest h.1);
  back = tagged_back;
}
  where
    tagged_back : (bytes : List ℕ) (x : A) (rest : List ℕ) → tag_at tag read bytes ≡ Some (x, rest) →
        (front : List ℕ) × After tag (SpellsA x) front × (bytes ≡ front ++ rest)
    tagged_back [] x rest e = absurd cc
    tagged_back (b ∷ bs) x rest e =
        let g = guard_some (b == tag) (read bs) (x, rest) e in
        let f = r.back bs x rest g.1 in
        let w : b ∷ bs ≡ (tag ∷ f.0) ++ rest = ap₂ (λ (n : ℕ) (ns : List ℕ). n ∷ ns) (eqb-true b tag g.0) f.2 in
        (tag ∷ f.0, (f.0, f.1, refl), w)

-- ---- choices by the first byte

-- what is read behind this byte is spelled
pub record Back {A : Type 0} (Spelling : A → List ℕ → Type 0) (byte : ℕ) (bytes : List ℕ)
    (read : Option (A × List ℕ)) : Type 0 where
  pub gives : (x : A) (rest : List ℕ) → read ≡ Some (x, rest) →
      (front : List ℕ) × Spelling x front × (byte ∷ bytes ≡ front ++ rest)

pub never : {A : Type 0} {Spelling : A → List ℕ → Type 0} (byte : ℕ) (bytes : List ℕ) → Back Spelling byte bytes None
never byte bytes = record { gives = λ x rest e. absurd cc }

pub when : {A : Type 0} {Spelling : A → List ℕ → Type 0} (tag byte : ℕ) (bytes : List ℕ)
    (read other : Option (A × List ℕ)) → Back Spelling tag bytes read → Back Spelling byte bytes other →
    Back Spelling byte bytes (if byte == tag then read else other)
when {A} {Spelling} tag byte bytes read other here there = record {
  gives = λ x rest e. pick x rest (choice_some (byte == tag) read other (x, rest) e);
}
  where
    pick : (x : A) (rest : List ℕ) →
        (((byte == tag) ≡ true) × (read ≡ Some (x, rest))) ⊎ (((byte == tag) ≡ false) × (other ≡ Some (x, rest))) →
        (front : List ℕ) × Spelling x front × (byte ∷ bytes ≡ front ++ rest)
    pick x rest (inl (t, e)) =
        let f = here.gives x rest e in
        (f.0, f.1, ap (λ b. b ∷ bytes) (eqb-true byte tag t) ∙ f.2)
    pick x rest (inr (t, e)) = there.gives x rest e

pub bare : {A : Type 0} (Spelling : A → List ℕ → Type 0) (x : A) (byte : ℕ) (bytes : List ℕ) → Spelling x (byte ∷ []) →
    Back Spelling byte bytes (Some (x, bytes))
bare {A} Spelling x byte bytes h = record {
  gives = λ y rest e.
      let s = some_both (x, bytes) (y, rest) e in
      let P : A → Type 0 = λ z. Spelling z (byte ∷ []) in
      (byte ∷ [], subst P s.0 h, ap (λ bs. byte ∷ bs) s.1);
}

pub mapped : {A B : Type 0} (Spelling : B → List ℕ → Type 0) (SpellsA : A → List ℕ → Type 0)
    (read : List ℕ → Option (A × List ℕ)) → Reader SpellsA read → (make : A → B) (byte : ℕ) (bytes : List ℕ)
    → ((a : A) (front : List ℕ) → SpellsA a front → Spelling (make a) (byte ∷ front)) →
    Back Spelling byte bytes (made_at make read bytes)
mapped {A} {B} Spelling SpellsA read r make byte bytes h = record {
  gives = λ y rest e.
      let f = bind_some (read bytes) (λ a. Some (make a.0, a.1)) (y, rest) e in
      let s = some_both (make f.0.0, f.0.1) (y, rest) f.2 in
      let g = r.back bytes f.0.0 f.0.1 f.1 in
      let P : B → Type 0 = λ z. Spelling z (byte ∷ g.0) in
      (byte ∷ g.0, subst P s.0 (h f.0.0 g.0 g.1), ap (λ bs. byte ∷ bs) (g.2 ∙ ap (λ bs. g.0 ++ bs) s.1));
}
