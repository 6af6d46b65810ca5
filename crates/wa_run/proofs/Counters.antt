-- The search tree of counters: what a search finds, and what one pass more changes.
use Rattle.std.proofs.Common.{◌≡◌, ◌+◌, ◌<◌, ◌≤◌, ◌==◌, ◌/◌, ◌%◌, ◌⊎◌, inl, inr, ◌++◌, ℕ, zero, suc, List, [], ◌∷◌}
use Rattle.std.proofs.Common.{Some, Bool, true, false, if◌then◌else◌, length, slice_get, slice_set, slice_index_or}
use Rattle.std.proofs.Common.{nat_lt, length-append, sym, ◌∙◌, ap, subst, refl, arith}
use Rattle.std.proofs.lemmas.Option.{same_Some as one_some, slice_get_within as got_within}
use Rattle.std.proofs.lemmas.Bool.Decides.{nat_tests}
use Rattle.std.proofs.lemmas.Option.{get_or_from_slice_get}
use Rattle.wa_machine.specs.Machine.{counted}
use Rattle.wa_run.specs.declared.counter.Counter.{Counter}
use Rattle.wa_run.specs.declared.counter.Spot.{Spot}
use Rattle.wa_run.specs.Guards.{passed_by, passes_of, child, with_child, with_counter, Finds, IsAhead, IsTree, Extends}
use Rattle.wa_run.specs.Guards.{FindsAll, ComesTo, IsSpot}

-- ---- lists

pub got_same : {A : Type 0} (xs : List A) (i : ℕ) (x y : A) → slice_get xs i ≡ Some x →
    slice_get (slice_set xs i y) i ≡ Some y
got_same [] i x y e = absurd cc
got_same (first ∷ xs) zero x y e = refl
got_same (first ∷ xs) (suc i) x y e = got_same xs i x y e

pub got_other : {A : Type 0} (xs : List A) (i j : ℕ) (y : A) → (i ≡ j → ⊥) →
    slice_get (slice_set xs i y) j ≡ slice_get xs j
got_other [] i j y n = refl
got_other (first ∷ xs) zero zero y n = absurd (n refl)
got_other (first ∷ xs) zero (suc j) y n = refl
got_other (first ∷ xs) (suc i) zero y n = refl
got_other (first ∷ xs) (suc i) (suc j) y n = got_other xs i j y (λ e. n (ap suc e))

pub set_long : {A : Type 0} (xs : List A) (i : ℕ) (y : A) → length (slice_set xs i y) ≡ length xs
set_long [] i y = refl
set_long (first ∷ xs) zero y = refl
set_long (first ∷ xs) (suc i) y = ap suc (set_long xs i y)

pub got_front : {A : Type 0} (xs ys : List A) (i : ℕ) (x : A) → slice_get xs i ≡ Some x →
    slice_get (xs ++ ys) i ≡ Some x
got_front [] ys i x e = absurd cc
got_front (first ∷ xs) ys zero x e = e
got_front (first ∷ xs) ys (suc i) x e = got_front xs ys i x e

pub got_last : {A : Type 0} (xs : List A) (y : A) → slice_get (xs ++ y ∷ []) (length xs) ≡ Some y
got_last [] y = refl
got_last (first ∷ xs) y = got_last xs y

-- what was got from a list that one more was put behind
pub got_either : {A : Type 0} (xs : List A) (y : A) (i : ℕ) (x : A) → slice_get (xs ++ y ∷ []) i ≡ Some x →
    (slice_get xs i ≡ Some x) ⊎ ((i ≡ length xs) × (x ≡ y))
got_either [] y zero x e = inr (refl, sym (one_some y x e))
got_either [] y (suc i) x e = absurd cc
got_either (first ∷ xs) y zero x e = inl e
got_either (first ∷ xs) y (suc i) x e = further (got_either xs y i x e)
  where
    further : (slice_get xs i ≡ Some x) ⊎ ((i ≡ length xs) × (x ≡ y)) →
        (slice_get xs i ≡ Some x) ⊎ ((suc i ≡ suc (length xs)) × (x ≡ y))
    further (inl h) = inl h
    further (inr h) = inr (ap suc h.0, h.1)

-- what was got from a list in which one was set
pub got_set : {A : Type 0} (xs : List A) (i j : ℕ) (x y z : A) → slice_get xs i ≡ Some x →
    slice_get (slice_set xs i y) j ≡ Some z → (slice_get xs j ≡ Some z) ⊎ ((j ≡ i) × (z ≡ y))
got_set {A} xs i j x y z g e = at (i == j) refl
  where
    at : (same : Bool) → (i == j) ≡ same → (slice_get xs j ≡ Some z) ⊎ ((j ≡ i) × (z ≡ y))
    at true s =
        let p : i ≡ j = grind (arith, nat_tests) in
        inr (
          sym p,
          sym (one_some y z (sym (subst (λ n. slice_get (slice_set xs i y) n ≡ Some y) p (got_same xs i x y g)) ∙ e)),
        )
    at false s =
        inl (sym (got_other xs i j y (λ p. absurd (let q : (i == j) ≡ true = grind (arith, nat_tests) in cc))) ∙ e)

-- ---- how often an id was passed

pub passed_is : (counter : Counter) (id : ℕ) → counter.id ≡ id → passed_by counter id ≡ counter.passes
passed_is counter id e =
    let t : (counter.id == id) ≡ true = grind (arith, nat_tests) in
    ap (λ same. if same then counter.passes else 0) t

pub passed_not : (counter : Counter) (id : ℕ) → (counter.id ≡ id → ⊥) → passed_by counter id ≡ 0
passed_not counter id n = at (counter.id == id) refl
  where
    at : (same : Bool) → (counter.id == id) ≡ same → (if same then counter.passes else 0) ≡ 0
    at true e = absurd (n (grind (arith, nat_tests)))
    at false e = refl

pub passes_none : (counters : List Counter) (id : ℕ) →
    ((place : ℕ) (counter : Counter) → slice_get counters place ≡ Some counter → counter.id ≡ id → ⊥) →
    passes_of counters id ≡ 0
passes_none [] id none = refl
passes_none (first ∷ counters) id none =
    omega (
      arith,
      passed_not first id (none 0 first refl),
      passes_none counters id (λ place counter g e. none (suc place) counter g e),
    )

-- by the only counter that has it
pub passes_at : (counters : List Counter) (place : ℕ) (counter : Counter) (id : ℕ) →
    slice_get counters place ≡ Some counter → counter.id ≡ id →
    ((found : ℕ) (other : Counter) → slice_get counters found ≡ Some other → other.id ≡ id → found ≡ place) →
    passes_of counters id ≡ counter.passes
passes_at [] place counter id g e only = absurd cc
passes_at (first ∷ counters) zero counter id g e only =
    let p : first ≡ counter = one_some first counter g in
    omega (
      arith,
      ap (λ (c : Counter). passed_by c id) p,
      passed_is counter id e,
      passes_none counters id (λ found other h s. absurd (omega (arith, only (suc found) other h s))),
    )
passes_at (first ∷ counters) (suc place) counter id g e only =
    omega (
      arith,
      passed_not first id (λ s. absurd (omega (arith, only 0 first refl s))),
      passes_at counters place counter id g e (λ found other h s. omega (arith, only (suc found) other h s)),
    )

pub passes_set : (counters : List Counter) (place : ℕ) (old new : Counter) (id : ℕ) →
    slice_get counters place ≡ Some old →
    passes_of (slice_set counters place new) id + passed_by old id ≡ passes_of counters id + passed_by new id
passes_set [] place old new id g = absurd cc
passes_set (first ∷ counters) zero old new id g =
    let p : first ≡ old = one_some first old g in
    omega (arith, ap (λ (c : Counter). passed_by c id) p)
passes_set (first ∷ counters) (suc place) old new id g = omega (arith, passes_set counters place old new id g)

pub passes_append : (counters : List Counter) (last : Counter) (id : ℕ) →
    passes_of (counters ++ last ∷ []) id ≡ passes_of counters id + passed_by last id
passes_append [] last id = omega arith
passes_append (first ∷ counters) last id = omega (arith, passes_append counters last id)

abbrev pub once : ℕ → ℕ → ℕ
once id other = if other == id then 1 else 0

pub passed_more : (old new : Counter) (id other : ℕ) → old.id ≡ id → new.id ≡ id → new.passes ≡ old.passes + 1 →
    passed_by new other ≡ passed_by old other + once id other
passed_more old new id other a b p = at (other == id) refl
  where
    at : (same : Bool) → (other == id) ≡ same → passed_by new other ≡ passed_by old other + (if same then 1 else 0)
    at true e =
        let s : other ≡ id = grind (arith, nat_tests) in
        omega (arith, passed_is new other (b ∙ sym s), passed_is old other (a ∙ sym s), p)
    at false e =
        let n : other ≡ id → ⊥ = λ s. absurd (let q : (other == id) ≡ true = grind (arith, nat_tests) in cc) in
        omega (arith, passed_not new other (λ s. n (sym s ∙ b)), passed_not old other (λ s. n (sym s ∙ a)))

pub passed_once : (id other : ℕ) (fresh : Counter) → fresh.id ≡ id → fresh.passes ≡ 1 →
    passed_by fresh other ≡ once id other
passed_once id other fresh a p = at (other == id) refl
  where
    at : (same : Bool) → (other == id) ≡ same → passed_by fresh other ≡ (if same then 1 else 0)
    at true e = let s : other ≡ id = grind (arith, nat_tests) in passed_is fresh other (a ∙ sym s) ∙ p
    at false e =
        let n : other ≡ id → ⊥ = λ s. absurd (let q : (other == id) ≡ true = grind (arith, nat_tests) in cc) in
        passed_not fresh other (λ s. n (sym s ∙ a))

pub counted_once : (id other passes : ℕ) (before : ℕ → ℕ) → passes ≡ before other + once id other →
    passes ≡ counted id before other
counted_once id other passes before e = at (other == id) e
  where
    at : (same : Bool) → passes ≡ before other + (if same then 1 else 0) →
        passes ≡ (if same then suc (before other) else before other)
    at true h = omega (arith, h)
    at false h = omega (arith, h)

-- ---- children

pub child_with : (counter : Counter) (bits place : ℕ) → child (with_child counter bits place) bits ≡ place
child_with counter bits place = at (bits % 2 == 0)
  where
    at : (even : Bool) →
        (if even then (if even then record counter { even = place } else record counter { odd = place }).even
        else (if even then record counter { even = place } else record counter { odd = place }).odd) ≡ place
    at true = refl
    at false = refl

pub child_kept : (counter : Counter) (bits place : ℕ) → child counter bits ≡ 0 → (others : ℕ) →
    (child counter others ≡ 0 → ⊥) → child (with_child counter bits place) others ≡ child counter others
child_kept counter bits place z others h = at (bits % 2 == 0) (others % 2 == 0) z h
  where
    at : (even also : Bool) → (if even then counter.even else counter.odd) ≡ 0 →
        ((if also then counter.even else counter.odd) ≡ 0 → ⊥) →
        (if also then (if even then record counter { even = place } else record counter { odd = place }).even
        else (if even then record counter { even = place } else record counter { odd = place }).odd)
        ≡ (if also then counter.even else counter.odd)
    at true true z h = absurd (h z)
    at true false z h = refl
    at false true z h = refl
    at false false z h = absurd (h z)

-- the counter is as it was but for one child
pub record Same (counter other : Counter) : Type 0 where
  pub id : other.id ≡ counter.id
  pub passes : other.passes ≡ counter.passes

pub with_same : (counter : Counter) (bits place : ℕ) → Same counter (with_child counter bits place)
with_same counter bits place = at (bits % 2 == 0)
  where
    at : (even : Bool) → Same counter (if even then record counter { even = place } else record counter { odd = place })
    at true = record { id = refl; passes = refl }
    at false = record { id = refl; passes = refl }

abbrev pub AreAhead : ℕ → ℕ → Counter → Type 0
AreAhead size place counter = IsAhead size place counter.even × IsAhead size place counter.odd

pub ahead_more : (size more place next : ℕ) → size ≤ more → IsAhead size place next → IsAhead more place next
ahead_more size more place next h (inl e) = inl e
ahead_more size more place next h (inr b) = inr (b.0, omega (arith, b.1))

pub are_more : (size more place : ℕ) (counter : Counter) → size ≤ more → AreAhead size place counter →
    AreAhead more place counter
are_more size more place counter h a =
    (ahead_more size more place counter.even h a.0, ahead_more size more place counter.odd h a.1)

pub with_ahead : (size place : ℕ) (counter : Counter) (bits : ℕ) → place < size → AreAhead size place counter →
    AreAhead (size + 1) place (with_child counter bits size)
with_ahead size place counter bits h a = at (bits % 2 == 0)
  where
    at : (even : Bool) →
        AreAhead (size + 1) place (if even then record counter { even = size } else record counter { odd = size })
    at true = (inr (h, omega arith), ahead_more size (size + 1) place counter.odd (omega arith) a.1)
    at false = (ahead_more size (size + 1) place counter.even (omega arith) a.0, inr (h, omega arith))

pub child_ahead : (counters : List Counter) (place : ℕ) (counter : Counter) (bits : ℕ) → IsTree counters →
    slice_get counters place ≡ Some counter → (child counter bits ≡ 0 → ⊥) →
    (place < child counter bits) × (child counter bits < length counters)
child_ahead counters place counter bits t g n = at (bits % 2 == 0) n
  where
    past : (next : ℕ) → IsAhead (length counters) place next → (next ≡ 0 → ⊥) →
        (place < next) × (next < length counters)
    past next (inl e) h = absurd (h e)
    past next (inr b) h = b

    at : (even : Bool) → ((if even then counter.even else counter.odd) ≡ 0 → ⊥) →
        (place < (if even then counter.even else counter.odd))
        × ((if even then counter.even else counter.odd) < length counters)
    at true h = past counter.even (t.ahead place counter g).0 h
    at false h = past counter.odd (t.ahead place counter g).1 h

-- ---- searches

pub finds_kept : (counters others : List Counter) (id more place bits found : ℕ) → Extends counters others →
    Finds counters id more place bits found → Finds others id more place bits found
finds_kept counters others id zero place bits found x f =
    let k = x place f.1.0 f.1.1 in
    (f.0, (k.0, k.1, k.2 ∙ f.1.2))
finds_kept counters others id (suc more) place bits found x f =
    let k = x place f.0 f.1 in
    let same : child k.0 bits ≡ child f.0 bits = k.3 bits f.3 in (
      k.0,
      k.1,
      (λ e. f.2 (sym k.2 ∙ e)),
      (λ e. f.3 (sym same ∙ e)),
      subst (λ n. Finds others id more n (bits / 2) found) (sym same)
          (finds_kept counters others id more (child f.0 bits) (bits / 2) found x f.4),
    )

pub finds_first : (counters : List Counter) (id : ℕ) → IsTree counters → FindsAll counters id 0 id
finds_first counters id t found counter g e =
    let f = t.found found counter g in
    (f.0, subst (λ n. Finds counters n f.0 0 n found) e f.1)

pub comes_first : (counters : List Counter) (id : ℕ) → ComesTo counters id 0 id
comes_first counters id others found more x f = (more, f)

pub finds_on : (counters : List Counter) (id place bits next : ℕ) (counter : Counter) →
    slice_get counters place ≡ Some counter → (counter.id ≡ id → ⊥) → next ≡ child counter bits →
    FindsAll counters id place bits → FindsAll counters id next (bits / 2)
finds_on counters id place bits next counter g n e all found other h s =
    further (all found other h s).0 (all found other h s).1
  where
    further : (more : ℕ) → Finds counters id more place bits found →
        (rest : ℕ) × Finds counters id rest next (bits / 2) found
    further zero f = absurd (n (ap (λ (c : Counter). c.id) (one_some counter f.1.0 (sym g ∙ f.1.1)) ∙ f.1.2))
    further (suc more) f = (
      more,
      subst (λ p. Finds counters id more p (bits / 2) found)
          (ap (λ (c : Counter). child c bits) (one_some f.0 counter (sym f.1 ∙ g)) ∙ sym e) f.4,
    )

pub comes_on : (counters : List Counter) (id place bits next : ℕ) (counter : Counter) →
    slice_get counters place ≡ Some counter → (counter.id ≡ id → ⊥) → next ≡ child counter bits → (next ≡ 0 → ⊥) →
    ComesTo counters id place bits → ComesTo counters id next (bits / 2)
comes_on counters id place bits next counter g n e z comes others found more x f =
    let k = x place counter g in
    let same : child k.0 bits ≡ child counter bits = k.3 bits (λ t. z (e ∙ t)) in
    comes others found (suc more) x (
      k.0,
      k.1,
      (λ t. n (sym k.2 ∙ t)),
      (λ t. z (e ∙ (sym same ∙ t))),
      subst (λ p. Finds others id more p (bits / 2) found) (e ∙ sym same) f,
    )

-- the search ends at the only counter that has the id
pub only_here : (counters : List Counter) (id place bits : ℕ) (counter : Counter) →
    slice_get counters place ≡ Some counter → counter.id ≡ id → FindsAll counters id place bits →
    (found : ℕ) (other : Counter) → slice_get counters found ≡ Some other → other.id ≡ id → found ≡ place
only_here counters id place bits counter g e all found other h s = at (all found other h s).0 (all found other h s).1
  where
    at : (more : ℕ) → Finds counters id more place bits found → found ≡ place
    at zero f = sym f.0
    at (suc more) f = absurd (f.2 (ap (λ (c : Counter). c.id) (one_some f.0 counter (sym f.1 ∙ g)) ∙ e))

-- it ends nowhere, so no counter has the id
pub none_here : (counters : List Counter) (id place bits : ℕ) (counter : Counter) →
    slice_get counters place ≡ Some counter → (counter.id ≡ id → ⊥) → child counter bits ≡ 0 →
    FindsAll counters id place bits →
    (found : ℕ) (other : Counter) → slice_get counters found ≡ Some other → other.id ≡ id → ⊥
none_here counters id place bits counter g n z all found other h s = at (all found other h s).0 (all found other h s).1
  where
    at : (more : ℕ) → Finds counters id more place bits found → ⊥
    at zero f = n (ap (λ (c : Counter). c.id) (one_some counter f.1.0 (sym g ∙ f.1.1)) ∙ f.1.2)
    at (suc more) f = f.3 (ap (λ (c : Counter). child c bits) (one_some f.0 counter (sym f.1 ∙ g)) ∙ z)

-- ---- trees after one pass more

pub extends_set : (counters : List Counter) (place : ℕ) (old new : Counter) → slice_get counters place ≡ Some old →
    new.id ≡ old.id → ((bits : ℕ) → (child old bits ≡ 0 → ⊥) → child new bits ≡ child old bits) →
    Extends counters (slice_set counters place new)
extends_set counters place old new g i c found counter h = at (place == found) refl
  where
    at : (same : Bool) → (place == found) ≡ same →
        (other : Counter) × (slice_get (slice_set counters place new) found ≡ Some other) × (other.id ≡ counter.id)
        × ((bits : ℕ) → (child counter bits ≡ 0 → ⊥) → child other bits ≡ child counter bits)
    at true s =
        let p : place ≡ found = grind (arith, nat_tests) in
        let q : old ≡ counter = one_some old counter (sym (subst (λ n. slice_get counters n ≡ Some old) p g) ∙ h) in
        subst (λ (k : Counter).
        (other : Counter) × (slice_get (slice_set counters place new) found ≡ Some other) × (other.id ≡ k.id)
        × ((bits : ℕ) → (child k bits ≡ 0 → ⊥) → child other bits ≡ child k bits)) q (
          new,
          subst (λ n. slice_get (slice_set counters place new) n ≡ Some new) p (got_same counters place old new g),
          i,
          c,
        )
    at false s = (
      counter,
      got_other counters place found new
          (λ p. absurd (let q : (place == found) ≡ true = grind (arith, nat_tests) in cc))
          ∙ h,
      refl,
      (λ bits n. refl),
    )

pub extends_front : (counters others more : List Counter) → Extends counters others → Extends counters (others ++ more)
extends_front counters others more x found counter h =
    let k = x found counter h in
    (k.0, got_front others more found k.0 k.1, k.2, k.3)

-- as the counter there before had
abbrev pub HadId : List Counter → ℕ → ℕ → Type 0
HadId counters place id = (counter : Counter) × (slice_get counters place ≡ Some counter) × (counter.id ≡ id)

pub had_found : (counters others : List Counter) (place id : ℕ) → IsTree counters → Extends counters others →
    HadId counters place id → (more : ℕ) × Finds others id more 0 id place
had_found counters others place id t x h =
    let f = t.found place h.0 h.1 in
    (f.0, finds_kept counters others id f.0 0 id place x (subst (λ n. Finds counters n f.0 0 n place) h.2 f.1))

pub counted_tree : (counters : List Counter) (place : ℕ) (old new : Counter) → slice_get counters place ≡ Some old →
    new.id ≡ old.id → new.even ≡ old.even → new.odd ≡ old.odd → IsTree counters →
    IsTree (slice_set counters place new)
counted_tree counters place old new g i e o t = record {
  some = omega (arith, set_long counters place new, t.some);
  ahead =
      λ found counter h.
      subst (λ size. AreAhead size found counter) (sym (set_long counters place new))
      (ahead found counter (got_set counters place found old new counter g h));
  found =
      λ found counter h.
      had_found counters (slice_set counters place new) found counter.id t extends
      (had found counter (got_set counters place found old new counter g h));
}
  where
    same : (bits : ℕ) → child new bits ≡ child old bits
    same bits = at (bits % 2 == 0)
      where
        at : (even : Bool) → (if even then new.even else new.odd) ≡ (if even then old.even else old.odd)
        at true = e
        at false = o

    extends : Extends counters (slice_set counters place new)
    extends = extends_set counters place old new g i (λ bits n. same bits)

    ahead : (found : ℕ) (counter : Counter) →
        (slice_get counters found ≡ Some counter) ⊎ ((found ≡ place) × (counter ≡ new)) →
        AreAhead (length counters) found counter
    ahead found counter (inl h) = t.ahead found counter h
    ahead found counter (inr h) =
        subst (λ n. AreAhead (length counters) n counter) (sym h.0) (subst
        (λ (k : Counter). AreAhead (length counters) place k) (sym h.1) (
          subst (λ n. IsAhead (length counters) place n) (sym e) (t.ahead place old g).0,
          subst (λ n. IsAhead (length counters) place n) (sym o) (t.ahead place old g).1,
        ))

    had : (found : ℕ) (counter : Counter) →
        (slice_get counters found ≡ Some counter) ⊎ ((found ≡ place) × (counter ≡ new)) →
        HadId counters found counter.id
    had found counter (inl h) = (counter, h, refl)
    had found counter (inr h) =
        (old, subst (λ n. slice_get counters n ≡ Some old) (sym h.0) g, sym i ∙ ap (λ (k : Counter). k.id) (sym h.1))

pub added_long : (counters : List Counter) (spot : Spot) (counter : Counter) (id : ℕ) →
    length (with_counter counters spot counter id) ≡ length counters + 1
added_long counters spot counter id =
    omega (
      arith,
      length-append (slice_set counters spot.place (with_child counter spot.bits (length counters)))
          (record { id = id; passes = 1; even = 0; odd = 0 } ∷ []),
      set_long counters spot.place (with_child counter spot.bits (length counters)),
    )

pub added_tree : (counters : List Counter) (id : ℕ) (spot : Spot) (counter : Counter) →
    slice_get counters spot.place ≡ Some counter → (counter.id ≡ id → ⊥) → child counter spot.bits ≡ 0 →
    ComesTo counters id spot.place spot.bits → IsTree counters → IsTree (with_counter counters spot counter id)
added_tree counters id spot counter g n z comes t = record {
  some = omega (arith, added_long counters spot counter id);
  ahead =
      λ found other h.
      subst (λ size. AreAhead size found other) (sym (added_long counters spot counter id))
      (ahead found other (got_either middle fresh found other h));
  found = λ found other h. shown found other (got_either middle fresh found other h);
}
  where
    size : ℕ
    size = length counters

    linked : Counter
    linked = with_child counter spot.bits size

    middle : List Counter
    middle = slice_set counters spot.place linked

    fresh : Counter
    fresh = record { id = id; passes = 1; even = 0; odd = 0 }

    extends : Extends counters (middle ++ fresh ∷ [])
    extends =
        extends_front counters middle (fresh ∷ []) (extends_set counters spot.place counter linked g
        (with_same counter spot.bits size).id (child_kept counter spot.bits size z))

    ahead_set : (found : ℕ) (other : Counter) →
        (slice_get counters found ≡ Some other) ⊎ ((found ≡ spot.place) × (other ≡ linked)) →
        AreAhead (size + 1) found other
    ahead_set found other (inl h) = are_more size (size + 1) found other (omega arith) (t.ahead found other h)
    ahead_set found other (inr h) =
        subst (λ p. AreAhead (size + 1) p other) (sym h.0) (subst (λ (k : Counter). AreAhead (size + 1) spot.place k)
        (sym h.1)
        (with_ahead size spot.place counter spot.bits (got_within counters spot.place counter g)
        (t.ahead spot.place counter g)))

    ahead : (found : ℕ) (other : Counter) →
        (slice_get middle found ≡ Some other) ⊎ ((found ≡ length middle) × (other ≡ fresh)) →
        AreAhead (size + 1) found other
    ahead found other (inl h) = ahead_set found other (got_set counters spot.place found counter linked other g h)
    ahead found other (inr h) = subst (λ (k : Counter). AreAhead (size + 1) found k) (sym h.1) (inl refl, inl refl)

    had : (found : ℕ) (other : Counter) →
        (slice_get counters found ≡ Some other) ⊎ ((found ≡ spot.place) × (other ≡ linked)) →
        HadId counters found other.id
    had found other (inl h) = (other, h, refl)
    had found other (inr h) = (
      counter,
      subst (λ p. slice_get counters p ≡ Some counter) (sym h.0) g,
      sym (with_same counter spot.bits size).id ∙ ap (λ (k : Counter). k.id) (sym h.1),
    )

    last : (steps : ℕ) × Finds (middle ++ fresh ∷ []) id steps 0 id (length middle)
    last = comes (middle ++ fresh ∷ []) (length middle) 1 extends (
      linked,
      got_front middle (fresh ∷ []) spot.place linked (got_same counters spot.place counter linked g),
      (λ e. n (sym (with_same counter spot.bits size).id ∙ e)),
      (λ e.
          absurd
          (omega (arith, sym (child_with counter spot.bits size) ∙ e, got_within counters spot.place counter g))),
      (
        child_with counter spot.bits size ∙ sym (set_long counters spot.place linked),
        (
          fresh,
          subst (λ p. slice_get (middle ++ fresh ∷ []) p ≡ Some fresh)
              (set_long counters spot.place linked ∙ sym (child_with counter spot.bits size)) (got_last middle fresh),
          refl,
        ),
      ),
    )

    shown : (found : ℕ) (other : Counter) →
        (slice_get middle found ≡ Some other) ⊎ ((found ≡ length middle) × (other ≡ fresh)) →
        (more : ℕ) × Finds (middle ++ fresh ∷ []) other.id more 0 other.id found
    shown found other (inl h) =
        had_found counters (middle ++ fresh ∷ []) found other.id t extends
        (had found other (got_set counters spot.place found counter linked other g h))
    shown found other (inr h) =
        subst (λ p. (more : ℕ) × Finds (middle ++ fresh ∷ []) other.id more 0 other.id p) (sym h.0)
        (subst (λ (k : Counter). (more : ℕ) × Finds (middle ++ fresh ∷ []) k.id more 0 k.id (length middle)) (sym h.1)
        last)

-- ---- what one pass more counts

pub counted_more : (counters : List Counter) (place : ℕ) (old new : Counter) (id : ℕ) →
    slice_get counters place ≡ Some old → old.id ≡ id → new.id ≡ id → new.passes ≡ old.passes + 1 →
    (other : ℕ) → passes_of (slice_set counters place new) other ≡ counted id (passes_of counters) other
counted_more counters place old new id g a b p other =
    counted_once id other (passes_of (slice_set counters place new) other) (passes_of counters)
    (omega (arith, passes_set counters place old new other g, passed_more old new id other a b p))

pub added_more : (counters : List Counter) (spot : Spot) (counter : Counter) (id : ℕ) →
    slice_get counters spot.place ≡ Some counter →
    (other : ℕ) → passes_of (with_counter counters spot counter id) other ≡ counted id (passes_of counters) other
added_more counters spot counter id g other =
    let linked : Counter = with_child counter spot.bits (length counters) in
    let fresh : Counter = record { id = id; passes = 1; even = 0; odd = 0 } in
    let s : Same counter linked = with_same counter spot.bits (length counters) in
    let same : passed_by linked other ≡ passed_by counter other =
    ap (λ n. if n == other then linked.passes else 0) s.id ∙ ap (λ n. if counter.id == other then n else 0) s.passes in
    counted_once id other (passes_of (with_counter counters spot counter id) other) (passes_of counters)
    (omega (
      arith,
      passes_append (slice_set counters spot.place linked) fresh other,
      passes_set counters spot.place counter linked other g,
      same,
      passed_once id other fresh refl refl,
    ))

pub goes_ahead : (counters : List Counter) (place bits next : ℕ) (counter : Counter) → IsTree counters →
    slice_get counters place ≡ Some counter → next ≡ child counter bits → (next ≡ 0 → ⊥) →
    (place < next) × (next < length counters)
goes_ahead counters place bits next counter t g e n =
    subst (λ p. (place < p) × (p < length counters)) (sym e)
    (child_ahead counters place counter bits t g (λ z. n (e ∙ z)))

-- ---- at the end of a search

pub record Here (counters : List Counter) (id : ℕ) (spot : Spot) (counter : Counter) : Type 0 where
  pub got : slice_get counters spot.place ≡ Some counter
  pub stops : (counter.id ≡ id) ⊎ (child counter spot.bits ≡ 0)
  pub finds : FindsAll counters id spot.place spot.bits
  pub comes : ComesTo counters id spot.place spot.bits

pub spot_here : (items counters : List Counter) (id : ℕ) (spot : Spot) (counter : Counter) → IsSpot items id spot →
    items ≡ counters → counter ≡ slice_index_or counters spot.place counter → Here counters id spot counter
spot_here items counters id spot counter s e i =
    let same : s.counter ≡ counter =
    sym (i
    ∙ get_or_from_slice_get counters spot.place s.counter counter
    (subst (λ xs. slice_get xs spot.place ≡ Some s.counter) e s.got)) in
    subst (λ (k : Counter). Here counters id spot k) same
    (subst (λ xs. Here xs id spot s.counter) e
    (record { got = s.got; stops = s.stops; finds = s.finds; comes = s.comes }))

pub goes_nowhere : (counters : List Counter) (id : ℕ) (spot : Spot) (counter : Counter) →
    Here counters id spot counter → (counter.id ≡ id → ⊥) → child counter spot.bits ≡ 0
goes_nowhere counters id spot counter h n = at h.stops
  where
    at : (counter.id ≡ id) ⊎ (child counter spot.bits ≡ 0) → child counter spot.bits ≡ 0
    at (inl e) = absurd (n e)
    at (inr z) = z

pub never_passed : (counters : List Counter) (id : ℕ) (spot : Spot) (counter : Counter) →
    Here counters id spot counter → (counter.id ≡ id → ⊥) → passes_of counters id ≡ 0
never_passed counters id spot counter h n =
    passes_none counters id
    (none_here counters id spot.place spot.bits counter h.got n (goes_nowhere counters id spot counter h n) h.finds)

pub passed_so : (counters : List Counter) (id : ℕ) (spot : Spot) (counter : Counter) → Here counters id spot counter →
    counter.id ≡ id → passes_of counters id ≡ counter.passes
passed_so counters id spot counter h e =
    passes_at counters spot.place counter id h.got e
    (only_here counters id spot.place spot.bits counter h.got e h.finds)

pub is_less : (n limit : ℕ) → n < limit → true ≡ nat_lt n limit
is_less n limit h = grind (arith, nat_tests)

pub is_not_less : (n limit : ℕ) → limit ≤ n → false ≡ nat_lt n limit
is_not_less n limit h = grind (arith, nat_tests)
