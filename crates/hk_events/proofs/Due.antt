-- The numbers of emissions that pass a test, the least first.
use Rattle.std.proofs.Common.{◌≡◌, ℕ, ◌<◌, ◌==◌, ◌⊎◌, inl, inr, T, Bool, true, false, cond, ◌||◌, if◌then◌else◌, nat_lt}
use Rattle.std.proofs.Common.{List, [], ◌∷◌, ◌++◌, refl, sym, ap, subst, ◌∙◌, arith, Some}
use Rattle.std.specs.List.{list_any}
use Rattle.std.specs.declared.cmp.Ordering.TheVariants.{Less, Equal, Greater}
use Rattle.std.specs.Ordering.{nat_cmp, is_lt}
use Rattle.std.specs.FinMap.{get, find, is_sorted, entries, get-entries, entries_sorted}
use Rattle.std.proofs.lemmas.Bool.{or_cases, ltb-true, eqb-true, eq-eqb, ne_eqb}
use Rattle.std.proofs.lemmas.List.Folds.{list_any-append}
use Rattle.hk_state.specs.declared.entry.Entry.{Entry}
use Rattle.hk_state.specs.declared.key.Key.{Key}
use Rattle.hk_state.specs.declared.key.Key.TheVariants as key
use Rattle.hk_state.specs.Keys.{key_cmp, is_key, exact, itself}
use Rattle.hk_state.specs.Entries.{Entries}
use Rattle.hk_state.proofs.Leasts.{below, first, second}
use Rattle.hk_draft.specs.Lists.{Each}
use Rattle.hk_draft.proofs.Extended.{each-append}
use Rattle.hk_events.specs.Settled.{number_of, numbers, passes}

abbrev pub has : ℕ → List ℕ → Bool
has n ns = list_any (λ m. n == m) ns

-- each number is below those after it
abbrev pub Ascends : List ℕ → Type 0
Ascends [] = Unit {0}
Ascends (n ∷ ns) = Each (λ m. n < m) ns × Ascends ns

-- a number below all of a list isn't in it
pub has_none : (n : ℕ) (ns : List ℕ) → Each (λ m. n < m) ns → has n ns ≡ false
has_none n [] h = refl
has_none n (m ∷ ns) h =
    let low = h.0 in
    ap (λ b. b || has n ns) (ne_eqb n m (λ same. absurd (omega (arith, low, same)))) ∙ has_none n ns h.1

has_above : (n m : ℕ) (ms : List ℕ) → Each (λ k. m < k) ms → has n ms ≡ true → m < n
has_above n m [] above h = cc
has_above n m (k ∷ ms) above h = elim (or_cases (n == k) (has n ms) h) as (λ _. m < n) [
  | inl here ↦ let same : n ≡ k = eqb-true n k here in let low = above.0 in omega (arith, same, low)
  | inr later ↦ has_above n m ms above.1 later
]

pub has_head : (n : ℕ) (ns : List ℕ) → has n (n ∷ ns) ≡ true
has_head n ns = ap (λ b. b || has n ns) (eq-eqb n n refl)

-- the first of two ascending lists of the same numbers are one
heads : (n m : ℕ) (ns ms : List ℕ) → Ascends (n ∷ ns) → Ascends (m ∷ ms) → ((k : ℕ) → has k (n ∷ ns) ≡ has k (m ∷ ms)) →
    n ≡ m
heads n m ns ms up more same = elim (or_cases (n == m) (has n ms) (sym (same n) ∙ has_head n ns)) as (λ _. n ≡ m) [
  | inl is ↦ eqb-true n m is
  | inr later ↦
      let low = has_above n m ms more.0 later in
      elim (or_cases (m == n) (has m ns) (same m ∙ has_head m ms)) as (λ _. n ≡ m) [
        | inl is ↦ sym (eqb-true m n is)
        | inr further ↦ let high = has_above m n ns up.0 further in absurd (omega (arith, low, high))
      ]
]

rest_by : (n k : ℕ) (ns ms : List ℕ) → Each (λ m. n < m) ns → Each (λ m. n < m) ms → (b : Bool) → (k == n) ≡ b →
    (b || has k ns) ≡ (b || has k ms) → has k ns ≡ has k ms
rest_by n k ns ms up more true is same =
    let here : k ≡ n = eqb-true k n is in
    ap (λ j. has j ns) here ∙ has_none n ns up ∙ sym (ap (λ j. has j ms) here ∙ has_none n ms more)
rest_by n k ns ms up more false is same = same

-- ascending lists of the same numbers are one
pub one_list : (ns ms : List ℕ) → Ascends ns → Ascends ms → ((k : ℕ) → has k ns ≡ has k ms) → ns ≡ ms
one_list [] [] up more same = refl
one_list [] (m ∷ ms) up more same = let differ : false ≡ true = same m ∙ has_head m ms in cc
one_list (n ∷ ns) [] up more same = let differ : false ≡ true = sym (same n) ∙ has_head n ns in cc
one_list (n ∷ ns) (m ∷ ms) up more same =
    let one : n ≡ m = heads n m ns ms up more same in
    let above : Each (λ k. n < k) ms = subst (λ j. Each (λ k. j < k) ms) (sym one) more.0 in
    let alike : (k : ℕ) → has k ns ≡ has k ms =
    (λ k. rest_by n k ns ms up.0 above (k == n) refl (same k ∙ ap (λ j. (k == j) || has k ms) (sym one))) in
    ap (λ j. j ∷ ns) one ∙ ap (λ ks. m ∷ ks) (one_list ns ms up.1 more.1 alike)

lt_by : (k j : ℕ) (b c : Bool) → nat_lt k j ≡ b → T (is_lt (cond b Less (cond c Equal Greater))) → k < j
lt_by k j true c is h = ltb-true k j is
lt_by k j false true is h = absurd h
lt_by k j false false is h = absurd h

lt_cmp : (k j : ℕ) → T (is_lt (nat_cmp k j)) → k < j
lt_cmp k j h = lt_by k j (nat_lt k j) (k == j) refl h

or_no : (b : Bool) → (b || false) ≡ b
or_no true = refl
or_no false = refl

-- numbers of a map's entries
module _ (test : Entry → Bool) where
  above_if : (k j : ℕ) (b : Bool) → k < j → Each (λ m. k < m) (if b then j ∷ [] else [])
  above_if k j true low = (low, tt)
  above_if k j false low = tt

  above_one : (k : ℕ) (at : Key) (x : Entry) → T (is_lt (key_cmp (key.Emitted k) at)) →
      Each (λ m. k < m) (number_of test at x)
  above_one k (key.Emitted j) x low = above_if k j (test x) (lt_cmp k j low)
  above_one k (key.Account id) x low = tt
  above_one k (key.Install id position) x low = tt
  above_one k (key.Definition hash) x low = tt
  above_one k (key.State id namespace q) x low = tt
  above_one k (key.Other bytes) x low = tt

  all_above : (k : ℕ) (es : List (Key × Entry)) → T (below (key.Emitted k) es) → Each (λ m. k < m) (numbers test es)
  all_above k [] low = tt
  all_above k (e ∷ es) low =
      each-append (λ m. k < m) (number_of test e.0 e.1) (numbers test es)
      (above_one k e.0 e.1 (first (is_lt (key_cmp (key.Emitted k) e.0)) (below (key.Emitted k) es) low))
      (all_above k es (second (is_lt (key_cmp (key.Emitted k) e.0)) (below (key.Emitted k) es) low))

  ascends_if : (k : ℕ) (b : Bool) (ns : List ℕ) → Each (λ m. k < m) ns → Ascends ns →
      Ascends ((if b then k ∷ [] else []) ++ ns)
  ascends_if k true ns low up = (low, up)
  ascends_if k false ns low up = up

  ascends_one : (at : Key) (x : Entry) (es : List (Key × Entry)) → T (below at es) → Ascends (numbers test es) →
      Ascends (number_of test at x ++ numbers test es)
  ascends_one (key.Emitted k) x es low up = ascends_if k (test x) (numbers test es) (all_above k es low) up
  ascends_one (key.Account id) x es low up = up
  ascends_one (key.Install id position) x es low up = up
  ascends_one (key.Definition hash) x es low up = up
  ascends_one (key.State id namespace q) x es low up = up
  ascends_one (key.Other bytes) x es low up = up

  pub numbers_ascend : (es : List (Key × Entry)) → T (is_sorted key_cmp es) → Ascends (numbers test es)
  numbers_ascend [] sorted = tt
  numbers_ascend (e ∷ es) sorted =
      ascends_one e.0 e.1 es (first (below e.0 es) (is_sorted key_cmp es) sorted)
      (numbers_ascend es (second (below e.0 es) (is_sorted key_cmp es) sorted))

  -- what one entry tells of a number
  has_if : (n k : ℕ) (b : Bool) → (n == k) ≡ false → has n (if b then k ∷ [] else []) ≡ false
  has_if n k true other = ap (λ t. t || false) other
  has_if n k false other = refl

  has_it : (n : ℕ) (b : Bool) → has n (if b then n ∷ [] else []) ≡ b
  has_it n true = has_head n []
  has_it n false = refl

  one_other : (n : ℕ) (at : Key) (x : Entry) → is_key (key.Emitted n) at ≡ false → has n (number_of test at x) ≡ false
  one_other n (key.Emitted k) x other =
      has_if n k (test x) (ne_eqb n k (λ same.
      let is : true ≡ false =
      sym (itself (key.Emitted n)) ∙ ap (λ j. is_key (key.Emitted n) (key.Emitted j)) same ∙ other in
      cc))
  one_other n (key.Account id) x other = refl
  one_other n (key.Install id position) x other = refl
  one_other n (key.Definition hash) x other = refl
  one_other n (key.State id namespace q) x other = refl
  one_other n (key.Other bytes) x other = refl

  has_by : (n : ℕ) (e : Key × Entry) (es : List (Key × Entry)) → T (below e.0 es) →
      has n (numbers test es) ≡ passes test (find key_cmp (key.Emitted n) es) →
      (b : Bool) → is_key (key.Emitted n) e.0 ≡ b →
      (has n (number_of test e.0 e.1) || has n (numbers test es))
      ≡ passes test (cond b (Some e.1) (find key_cmp (key.Emitted n) es))
  has_by n e es low rest true is =
      let at : key.Emitted n ≡ e.0 = exact (key.Emitted n) e.0 is in
      let none : has n (numbers test es) ≡ false =
      has_none n (numbers test es) (all_above n es (subst (λ k. T (below k es)) (sym at) low)) in
      ap (λ k. has n (number_of test k e.1) || has n (numbers test es)) (sym at)
      ∙ ap (λ b. b || has n (numbers test es)) (has_it n (test e.1))
      ∙ ap (λ b. test e.1 || b) none
      ∙ or_no (test e.1)
  has_by n e es low rest false is =
      ap (λ b. b || has n (numbers test es)) (one_other n e.0 e.1 is) ∙ rest

  has_so : (n : ℕ) (es : List (Key × Entry)) → T (is_sorted key_cmp es) →
      has n (numbers test es) ≡ passes test (find key_cmp (key.Emitted n) es)
  has_so n [] sorted = refl
  has_so n (e ∷ es) sorted =
      list_any-append (λ m. n == m) (number_of test e.0 e.1) (numbers test es)
      ∙ has_by n e es (first (below e.0 es) (is_sorted key_cmp es) sorted)
      (has_so n es (second (below e.0 es) (is_sorted key_cmp es) sorted)) (is_key (key.Emitted n) e.0) refl

  -- a number is among them where its entry passes
  pub has_number : (n : ℕ) (m : Entries) → has n (numbers test (entries m)) ≡ passes test (get m (key.Emitted n))
  has_number n m = has_so n (entries m) (entries_sorted m) ∙ ap (passes test) (sym (get-entries m (key.Emitted n)))

  pub ascending : (m : Entries) → Ascends (numbers test (entries m))
  ascending m = numbers_ascend (entries m) (entries_sorted m)

  -- the entries without the least one
  module _ (m n : Entries) (number : ℕ) (later : List ℕ) (is : numbers test (entries m) ≡ number ∷ later)
      (gone : passes test (get n (key.Emitted number)) ≡ false)
      (same : (k : ℕ) → (k ≡ number → ⊥) →
      passes test (get n (key.Emitted k)) ≡ passes test (get m (key.Emitted k))) where
    up : Ascends (number ∷ later)
    up = subst Ascends is (ascending m)

    falls_at : (k : ℕ) (b : Bool) → (k == number) ≡ b → passes test (get n (key.Emitted k)) ≡ has k later
    falls_at k true at =
        let here : k ≡ number = eqb-true k number at in
        ap (λ j. passes test (get n (key.Emitted j))) here
        ∙ gone
        ∙ sym (ap (λ j. has j later) here ∙ has_none number later up.0)
    falls_at k false at =
        same k (λ here. let bad : true ≡ false = sym (eq-eqb k number here) ∙ at in cc)
        ∙ sym (has_number k m) ∙ ap (has k) is ∙ ap (λ b. b || has k later) at

    pub falls : numbers test (entries n) ≡ later
    falls =
        one_list (numbers test (entries n)) later (ascending n) up.1
        (λ k. has_number k n ∙ falls_at k (k == number) refl)

-- the least of a list that ascends
has_not : (ns : List ℕ) → ((n : ℕ) → has n ns ≡ true → ⊥) → ns ≡ []
has_not [] none = refl
has_not (n ∷ ns) none = absurd (none n (has_head n ns))

pub record Begins (ns : List ℕ) (number : ℕ) : Type 0 where
  pub later : List ℕ
  pub is : ns ≡ number ∷ later

begins_by : (n : ℕ) (ns : List ℕ) (number : ℕ) → Each (λ m. n < m) ns → (number ≡ n) ⊎ (n < number) → (n < number → ⊥) →
    Begins (n ∷ ns) number
begins_by n ns number rises (inl same) least = record { later = ns; is = ap (λ k. k ∷ ns) (sym same) }
begins_by n ns number rises (inr above) least = absurd (least above)

either : (n number : ℕ) (ns : List ℕ) → Each (λ m. n < m) ns → has number (n ∷ ns) ≡ true → (number ≡ n) ⊎ (n < number)
either n number ns up h = elim (or_cases (number == n) (has number ns) h) as (λ _. (number ≡ n) ⊎ (n < number)) [
  | inl here ↦ inl (eqb-true number n here)
  | inr later ↦ inr (has_above number n ns up later)
]

begins : (ns : List ℕ) (number : ℕ) → Ascends ns → has number ns ≡ true → ((n : ℕ) → n < number → has n ns ≡ true → ⊥) →
    Begins ns number
begins [] number up h least = cc
begins (n ∷ ns) number rises h least =
    begins_by n ns number rises.0 (either n number ns rises.0 h) (λ above. least n above (has_head n ns))

pub numbers_begin : (test : Entry → Bool) (m : Entries) (number : ℕ) → passes test (get m (key.Emitted number)) ≡ true →
    ((n : ℕ) → n < number → passes test (get m (key.Emitted n)) ≡ true → ⊥) → Begins (numbers test (entries m)) number
numbers_begin test m number there least =
    begins (numbers test (entries m)) number (ascending test m) (has_number test number m ∙ there)
    (λ n low h. least n low (sym (has_number test n m) ∙ h))

pub numbers_none : (test : Entry → Bool) (m : Entries) → ((n : ℕ) → passes test (get m (key.Emitted n)) ≡ true → ⊥) →
    numbers test (entries m) ≡ []
numbers_none test m none = has_not (numbers test (entries m)) (λ n h. none n (sym (has_number test n m) ∙ h))
