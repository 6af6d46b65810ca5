-- Drafts that go on.
use Rattle.std.proofs.Common.{◌≡◌, ℕ, ◌⊎◌, inl, inr, Bool, true, false, cond, ◌||◌, if◌then◌else◌, List, [], ◌∷◌, ◌++◌}
use Rattle.std.proofs.Common.{append_assoc, append-nil, refl, sym, ap, subst, ◌∙◌, arith, Option, Some, None}
use Rattle.std.proofs.lemmas.Bool.{or_left as or_first, or_parts}
use Rattle.std.specs.List.{list_any}
use Rattle.std.specs.FinMap.{get}
use Rattle.std.proofs.lemmas.List.Folds.{list_any-append}
use Rattle.hk_reading.specs.declared.reading.Reading.{Reading}
use Rattle.hk_emit.specs.declared.emission.Emission.{Emission}
use Rattle.hk_state.specs.declared.entry.Entry.{Entry}
use Rattle.hk_state.specs.declared.entry.Entry.TheVariants as entry
use Rattle.hk_state.specs.declared.key.Key.{Key}
use Rattle.hk_state.specs.declared.key.Key.TheVariants as key
use Rattle.hk_state.specs.declared.key.StateKey.{StateKey}
use Rattle.hk_state.specs.Keys.{is_key, as_key, exact}
use Rattle.hk_state.specs.Entries.{Entries, write, get-write}
use Rattle.hk_state.specs.Balances.{worth}
use Rattle.hk_state.specs.Sums.{part, sum-write}
use Rattle.hk_draft.specs.Lists.{Each}
use Rattle.hk_draft.specs.Draft.{Draft, is_listed, noted, erased, write_state, emits_too}
use Rattle.hk_draft.specs.Extends.{Extends, Emits, HoldsState, KeepsOthers, is_state}

pub each-append : {X : Type 0} (P : X → Type 0) (xs ys : List X) → Each P xs → Each P ys → Each P (xs ++ ys)
each-append P [] ys here there = there
each-append P (x ∷ xs) ys here there = (here.0, each-append P xs ys here.1 there)

-- an entry of State keys is worth no drops
no_worth : (q : StateKey) (found : Option Entry) → part worth (as_key q) found ≡ 0
no_worth q None = refl
no_worth q (Some e) = refl

either_way : (b : Bool) → (b || false) ≡ b
either_way true = refl
either_way false = refl

-- a key is listed after another was noted, where it was listed or is that one
listed_key : (p q : StateKey) (qs : List StateKey) → is_listed q qs ≡ true → (b : Bool) →
    is_key (as_key p) (as_key q) ≡ b → is_listed p qs ≡ (is_listed p qs || b)
listed_key p q qs there true same =
    let here : is_listed p qs ≡ true =
    ap (λ k. list_any (λ x. is_key k (as_key x)) qs) (exact (as_key p) (as_key q) same) ∙ there in
    here ∙ ap (λ b. b || true) (sym here)
listed_key p q qs there false other = sym (either_way (is_listed p qs))

pub listed-noted : (p q : StateKey) (qs : List StateKey) →
    is_listed p (noted q qs) ≡ (is_listed p qs || is_key (as_key p) (as_key q))
listed-noted p q qs =
    elim (is_listed q qs) as (λ b.
    is_listed q qs ≡ b →
    is_listed p (if b then qs else qs ++ q ∷ []) ≡ (is_listed p qs || is_key (as_key p) (as_key q))) [
      | true ↦ λ there. listed_key p q qs there (is_key (as_key p) (as_key q)) refl
      | false ↦ λ other. list_any-append (λ x. is_key (as_key p) (as_key x)) qs (q ∷ [])
          ∙ ap (λ b. is_listed p qs || b) (either_way (is_key (as_key p) (as_key q)))
    ] refl

-- the State key that a key is, or this one
abbrev state_or : StateKey → Key → StateKey
state_or other (key.State owner namespace k) = record { owner = owner; namespace = namespace; key = k }
state_or other k = other

same_key : (p q : StateKey) → is_key (as_key p) (as_key q) ≡ true → p ≡ q
same_key p q same = ap (state_or p) (exact (as_key p) (as_key q) same)

first_or_second : (a b : Bool) → (a || b) ≡ true → (a ≡ true) ⊎ (b ≡ true)
first_or_second true b h = inl refl
first_or_second false b h = inr h

module _ (reads : List ℕ → Reading) (seq : ℕ) (G : StateKey → Type 0) where
  pub extends_itself : (a : Draft) → Extends reads seq G a a
  extends_itself a = record {
    unlisted = λ q h. refl;
    listed = λ q h. h;
    grounds = λ q h. inl h;
    held = λ q h. h;
    queue = λ n. refl;
    more = [];
    emissions = sym (append-nil a.emissions);
    emits = tt;
    sum = refl;
  }

  module _ (a b c : Draft) (one : Extends reads seq G a b) (two : Extends reads seq G b c) where
    not_listed : (q : StateKey) (l : Bool) → is_listed q b.written ≡ l → is_listed q c.written ≡ false →
        is_listed q b.written ≡ false
    not_listed q true is h = let differ : true ≡ false = sym (two.listed q is) ∙ h in cc
    not_listed q false is h = is

    grounds_before : (q : StateKey) →
        (is_listed q b.written ≡ true) ⊎ (G q × HoldsState (get c.entries (as_key q))) →
        (is_listed q a.written ≡ true) ⊎ (G q × HoldsState (get c.entries (as_key q)))
    grounds_before q (inr later) = inr later
    grounds_before q (inl listed) =
        elim (one.grounds q listed)
        as (λ _. (is_listed q a.written ≡ true) ⊎ (G q × HoldsState (get c.entries (as_key q)))) [
          | inl h ↦ inl h
          | inr h ↦ inr (h.0, two.held q h.1)
        ]

    pub extends_further : Extends reads seq G a c
    extends_further = record {
      unlisted = λ q h. two.unlisted q h ∙ one.unlisted q (not_listed q (is_listed q b.written) refl h);
      listed = λ q h. two.listed q (one.listed q h);
      grounds = λ q h. grounds_before q (two.grounds q h);
      held = λ q h. two.held q (one.held q h);
      queue = λ n. two.queue n ∙ one.queue n;
      more = one.more ++ two.more;
      emissions = two.emissions ∙ ap (λ es. es ++ two.more) one.emissions ∙ append_assoc a.emissions one.more two.more;
      emits = each-append (Emits reads seq) one.more two.more one.emits two.emits;
      sum = two.sum ∙ one.sum;
    }

  -- a change at one State key
  module _ (a : Draft) (q : StateKey) (change : Option Entry) (holds : HoldsState change) (grounds : G q) where
    read_at : (p : StateKey) →
        get (write a.entries (as_key q) change) (as_key p)
        ≡ cond (is_key (as_key p) (as_key q)) change (get a.entries (as_key p))
    read_at p = get-write a.entries (as_key q) change (as_key p)

    held_at : (p : StateKey) (b : Bool) → HoldsState (get a.entries (as_key p)) →
        HoldsState (cond b change (get a.entries (as_key p)))
    held_at p true h = holds
    held_at p false h = h

    grounds_at : (p : StateKey) → is_key (as_key p) (as_key q) ≡ true →
        G p × HoldsState (get (write a.entries (as_key q) change) (as_key p))
    grounds_at p same = (
      subst G (sym (same_key p q same)) grounds,
      subst HoldsState (sym (read_at p ∙ ap (λ b. cond b change (get a.entries (as_key p))) same)) holds,
    )

    grounds_of : (p : StateKey) → (is_listed p a.written ≡ true) ⊎ (is_key (as_key p) (as_key q) ≡ true) →
        (is_listed p a.written ≡ true) ⊎ (G p × HoldsState (get (write a.entries (as_key q) change) (as_key p)))
    grounds_of p (inl listed) = inl listed
    grounds_of p (inr same) = inr (grounds_at p same)

    pub extends_change : Extends reads seq G a
        (record { entries = write a.entries (as_key q) change; written = noted q a.written; emissions = a.emissions })
    extends_change = record {
      unlisted = λ p h. read_at p ∙ ap (λ b. cond b change (get a.entries (as_key p)))
          (or_parts (is_listed p a.written) (is_key (as_key p) (as_key q)) (sym (listed-noted p q a.written) ∙ h)).1;
      listed = λ p h. listed-noted p q a.written ∙ or_first (is_listed p a.written) (is_key (as_key p) (as_key q)) h;
      grounds =
          λ p h.
          grounds_of p (first_or_second (is_listed p a.written) (is_key (as_key p) (as_key q))
          (sym (listed-noted p q a.written) ∙ h));
      held = λ p h. subst HoldsState (sym (read_at p)) (held_at p (is_key (as_key p) (as_key q)) h);
      queue = λ n. get-write a.entries (as_key q) change (key.Emitted n);
      more = [];
      emissions = sym (append-nil a.emissions);
      emits = tt;
      sum =
          let sums = sum-write worth a.entries (as_key q) change in
          let old = no_worth q (get a.entries (as_key q)) in
          let new = no_worth q change in omega (arith, sums, old, new);
    }

  pub extends_erased : (a : Draft) (q : StateKey) → G q → Extends reads seq G a (erased q a)
  extends_erased a q grounds = extends_change a q None tt grounds

  pub extends_state : (a : Draft) (q : StateKey) (bytes : List ℕ) → G q → Extends reads seq G a (write_state q bytes a)
  extends_state a q [] grounds = extends_erased a q grounds
  extends_state a q (b ∷ bs) grounds = extends_change a q (Some (entry.State (b ∷ bs))) tt grounds

  pub extends_emission : (a : Draft) (e : Emission) → Emits reads seq e → Extends reads seq G a (emits_too e a)
  extends_emission a e emits = record {
    unlisted = λ q h. refl;
    listed = λ q h. h;
    grounds = λ q h. inl h;
    held = λ q h. h;
    queue = λ n. refl;
    more = e ∷ [];
    emissions = refl;
    emits = (emits, tt);
    sum = refl;
  }

module _ (reads : List ℕ → Reading) (seq : ℕ) (G H : StateKey → Type 0) (weaker : (q : StateKey) → G q → H q)
    (a b : Draft) (one : Extends reads seq G a b) where
  weaker_at : (q : StateKey) → (is_listed q a.written ≡ true) ⊎ (G q × HoldsState (get b.entries (as_key q))) →
      (is_listed q a.written ≡ true) ⊎ (H q × HoldsState (get b.entries (as_key q)))
  weaker_at q (inl listed) = inl listed
  weaker_at q (inr h) = inr (weaker q h.0, h.1)

  -- weaker grounds
  pub extends_weaker : Extends reads seq H a b
  extends_weaker = record {
    unlisted = one.unlisted;
    listed = one.listed;
    grounds = λ q h. weaker_at q (one.grounds q h);
    held = one.held;
    queue = one.queue;
    more = one.more;
    emissions = one.emissions;
    emits = one.emits;
    sum = one.sum;
  }

-- what keeps all but State keys
pub others_itself : (m : Entries) → KeepsOthers m m
others_itself m q h = refl

pub others_further : (l m n : Entries) → KeepsOthers l m → KeepsOthers m n → KeepsOthers l n
others_further l m n one two q h = two q h ∙ one q h

other_key : (k : Key) (q : StateKey) → is_state k ≡ false → (b : Bool) → is_key k (as_key q) ≡ b → b ≡ false
other_key k q other false is = refl
other_key k q other true is = let differ : true ≡ false = sym (ap is_state (exact k (as_key q) is)) ∙ other in cc

pub others_change : (m : Entries) (q : StateKey) (change : Option Entry) → KeepsOthers m (write m (as_key q) change)
others_change m q change k h =
    get-write m (as_key q) change k ∙ ap (λ b. cond b change (get m k)) (other_key k q h (is_key k (as_key q)) refl)

pub others_state : (a : Draft) (q : StateKey) (bytes : List ℕ) → KeepsOthers a.entries (write_state q bytes a).entries
others_state a q [] = others_change a.entries q None
others_state a q (b ∷ bs) = others_change a.entries q (Some (entry.State (b ∷ bs)))
