-- Walks over the entries of a map in the order of keys, by the least entry after each one.
use Rattle.std.proofs.Common.{◌≡◌, ◌∙◌, sym, ap, subst, refl, T, Bool, true, false, cond, if◌then◌else◌, filter, List}
use Rattle.std.proofs.Common.{[], ◌∷◌, Option, Some, None}
use Rattle.std.specs.Option.{unwrap_or, option_map}
use Rattle.std.specs.declared.cmp.Ordering.TheVariants.{Less, Equal, Greater}
use Rattle.std.specs.Ordering.{is_lt, is_le, is_eq, ordering_reverse}
use Rattle.std.specs.FinMap.{find, is_sorted, entries, get-entries, entries_sorted}
use Rattle.hk_state.specs.declared.key.Key.{Key}
use Rattle.hk_state.specs.declared.entry.Entry.{Entry}
use Rattle.hk_state.specs.Keys.{key_cmp, is_key, keys_total, itself, exact}
use Rattle.hk_state.specs.Entries.{Entries}
use Rattle.hk_state.specs.Least.{LeastOf, Least, is_from, is_after}
use Rattle.hk_state.proofs.Leasts.{none_below, first, second, below, at_less}
use Rattle.hk_state.specs.Sums.{less}

-- the entries whose keys pass
abbrev pub passing : (Key → Bool) → List (Key × Entry) → List (Key × Entry)
passing test es = filter (λ e. test e.0) es

-- an entry that was found, and those after it
abbrev pub on_from : List (Key × Entry) → Option (Key × Entry) → List (Key × Entry)
on_from es None = []
on_from es (Some found) = found ∷ passing (is_after found.0) es

-- the first entries, as long as their keys pass
abbrev pub run : (Key → Bool) → List (Key × Entry) → List (Key × Entry)
run own [] = []
run own (e ∷ es) = if own e.0 then e ∷ run own es else []

-- a test that all keys above one that passes pass
abbrev pub IsUp : (Key → Bool) → Type 0
IsUp test = (k q : Key) → test k ≡ true → key_cmp k q ≡ Less → test q ≡ true

from_up : (start : Key) → IsUp (is_from start)
from_up start k q h lt =
    elim (key_cmp start k) as (λ order. key_cmp start k ≡ order → is_le order ≡ true → is_le (key_cmp start q) ≡ true) [
      | Less ↦ λ is le. ap is_le (keys_total.trans start k q is lt)
      | Equal ↦ λ is le. ap (λ x. is_le (key_cmp x q)) (exact start k (ap is_eq is)) ∙ ap is_le lt
      | Greater ↦ λ is le. cc
    ] refl h

after_up : (start : Key) → IsUp (is_after start)
after_up start k q h lt = ap is_lt (keys_total.trans start k q (at_less (key_cmp start k) h) lt)

-- all entries above a key that passes
all_above : (test : Key → Bool) (k : Key) (es : List (Key × Entry)) →
    ((q : Key) → key_cmp k q ≡ Less → test q ≡ true) → T (below k es) → passing test es ≡ es
all_above test k [] up h = refl
all_above test k (e ∷ es) up h =
    (λ i. if up e.0 (less (key_cmp k e.0) (first _ _ h)) i then e ∷ passing test es else passing test es)
    ∙ ap (λ fs. e ∷ fs) (all_above test k es up (second (is_lt (key_cmp k e.0)) _ h))

not_itself : (k : Key) → is_after k k ≡ false
not_itself k =
    elim (key_cmp k k) as (λ order. is_eq order ≡ true → is_lt order ≡ false) [
      | Less ↦ λ bad. cc
      | Equal ↦ λ is. refl
      | Greater ↦ λ bad. cc
    ] (itself k)

module _ (test : Key → Bool) (up : IsUp test) where
  found_here : (x : Key × Entry) (xs : List (Key × Entry)) (found : Option (Key × Entry)) → T (below x.0 xs) →
      test x.0 ≡ true → LeastOf (λ q. find key_cmp q (x ∷ xs)) test found → found ≡ Some x
  found_here x xs None low is least =
      let there : find key_cmp x.0 (x ∷ xs) ≡ Some x.1 =
      ap (λ b. cond b (Some x.1) (find key_cmp x.0 xs)) (itself x.0) in
      let none = least x.0 is in let differ : Some x.1 ≡ None = sym there ∙ none in cc
  found_here x xs (Some f) low is least =
      let there : find key_cmp x.0 (x ∷ xs) ≡ Some x.1 =
      ap (λ b. cond b (Some x.1) (find key_cmp x.0 xs)) (itself x.0) in
      elim (key_cmp f.0 x.0) as (λ order. key_cmp f.0 x.0 ≡ order → Some f ≡ Some x) [
        | Less ↦
            λ lt.
            let none : find key_cmp f.0 (x ∷ xs) ≡ None =
            ap (λ order. cond (is_eq order) (Some x.1) (find key_cmp f.0 xs)) lt ∙ none_below f.0 x.0 xs lt low in
            let differ : Some f.1 ≡ None = sym least.there ∙ none in
            cc
        | Equal ↦ λ tie.
            let same = exact f.0 x.0 (ap is_eq tie) in
            let value : Some f.1 ≡ Some x.1 =
            sym least.there ∙ ap (λ order. cond (is_eq order) (Some x.1) (find key_cmp f.0 xs)) tie in
            λ i. Some (same i, unwrap_or (value i) x.1)
        | Greater ↦ λ gt.
            let before : key_cmp x.0 f.0 ≡ Less = keys_total.antisymm x.0 f.0 ∙ ap ordering_reverse gt in
            let differ : Some x.1 ≡ None = sym there ∙ least.none_before x.0 is before in cc
      ] refl

  differs : (q k : Key) → test q ≡ true → test k ≡ false → is_key q k ≡ false
  differs q k is fails =
      elim (is_key q k) as (λ b. is_key q k ≡ b → b ≡ false) [
        | true ↦ λ same. let differ : true ≡ false = sym is ∙ ap test (exact q k same) ∙ fails in cc
        | false ↦ λ other. refl
      ] refl

  later : (x : Key × Entry) (xs : List (Key × Entry)) (found : Option (Key × Entry)) → test x.0 ≡ false →
      LeastOf (λ q. find key_cmp q (x ∷ xs)) test found → LeastOf (λ q. find key_cmp q xs) test found
  later x xs None fails least =
      λ q is. sym (ap (λ b. cond b (Some x.1) (find key_cmp q xs)) (differs q x.0 is fails)) ∙ least q is
  later x xs (Some f) fails least = record {
    there = sym (ap (λ b. cond b (Some x.1) (find key_cmp f.0 xs)) (differs f.0 x.0 least.passes fails)) ∙ least.there;
    passes = least.passes;
    none_before =
        λ q is lt.
        sym (ap (λ b. cond b (Some x.1) (find key_cmp q xs)) (differs q x.0 is fails)) ∙ least.none_before q is lt;
  }

  passed_by : (x : Key × Entry) (xs : List (Key × Entry)) (found : Option (Key × Entry)) → test x.0 ≡ false →
      LeastOf (λ q. find key_cmp q (x ∷ xs)) test found → on_from (x ∷ xs) found ≡ on_from xs found
  passed_by x xs None fails least = refl
  passed_by x xs (Some f) fails least =
      elim (is_after f.0 x.0) as (λ b.
      is_after f.0 x.0 ≡ b →
      f ∷ (if b then x ∷ passing (is_after f.0) xs else passing (is_after f.0) xs) ≡ f ∷ passing (is_after f.0) xs) [
        | true ↦
            λ above.
            let differ : true ≡ false = sym (up f.0 x.0 least.passes (at_less (key_cmp f.0 x.0) above)) ∙ fails in cc
        | false ↦ λ not. refl
      ] refl

  heads : (es : List (Key × Entry)) (found : Option (Key × Entry)) → T (is_sorted key_cmp es) →
      LeastOf (λ q. find key_cmp q es) test found → passing test es ≡ on_from es found
  heads [] None sorted least = refl
  heads [] (Some f) sorted least = let there = least.there in cc
  heads (x ∷ xs) found sorted least =
      elim (test x.0)
      as (λ b. test x.0 ≡ b → (if b then x ∷ passing test xs else passing test xs) ≡ on_from (x ∷ xs) found) [
        | true ↦ λ is.
            let low = first (below x.0 xs) (is_sorted key_cmp xs) sorted in
            ap (λ fs. x ∷ fs) (all_above test x.0 xs (λ q. up x.0 q is) low
            ∙ sym (all_above (is_after x.0) x.0 xs (λ q lt. ap is_lt lt) low)
            ∙ sym (ap (λ b. if b then x ∷ passing (is_after x.0) xs else passing (is_after x.0) xs) (not_itself x.0)))
            ∙ ap (on_from (x ∷ xs)) (sym (found_here x xs found low is least))
        | false ↦
            λ fails.
            heads xs found (second (below x.0 xs) (is_sorted key_cmp xs) sorted) (later x xs found fails least)
            ∙ sym (passed_by x xs found fails least)
      ] refl

  -- the entries that pass, in order, are the least one and those after it
  pub head : (m : Entries) (found : Option (Key × Entry)) → Least m test found →
      passing test (entries m) ≡ on_from (entries m) found
  head m found least =
      heads (entries m) found (entries_sorted m)
      (subst (λ look. LeastOf look test found) (λ i q. get-entries m q i) least)

pub head_from : (m : Entries) (start : Key) (found : Option (Key × Entry)) → Least m (is_from start) found →
    passing (is_from start) (entries m) ≡ on_from (entries m) found
head_from m start = head (is_from start) (from_up start) m

pub head_after : (m : Entries) (start : Key) (found : Option (Key × Entry)) → Least m (is_after start) found →
    passing (is_after start) (entries m) ≡ on_from (entries m) found
head_after m start = head (is_after start) (after_up start) m

-- keys that stand together, from a first one on
module _ (own test : Key → Bool) (inside : (k : Key) → own k ≡ true → test k ≡ true)
    (together : (k q : Key) → test k ≡ true → own k ≡ false → key_cmp k q ≡ Less → own q ≡ false) where
  none_own : (k : Key) (es : List (Key × Entry)) → test k ≡ true → own k ≡ false → T (below k es) →
      passing own es ≡ []
  none_own k [] is fails low = refl
  none_own k (e ∷ es) is fails low =
      ap (λ b. if b then e ∷ passing own es else passing own es)
      (together k e.0 is fails (less (key_cmp k e.0) (first _ _ low)))
      ∙ none_own k es is fails (second (is_lt (key_cmp k e.0)) _ low)

  own_first : (es : List (Key × Entry)) → T (is_sorted key_cmp es) → passing own es ≡ run own (passing test es)
  own_first [] sorted = refl
  own_first (x ∷ xs) sorted =
      let rest = own_first xs (second (below x.0 xs) (is_sorted key_cmp xs) sorted) in
      elim (own x.0)
      as (λ a. own x.0 ≡ a → (if a then x ∷ passing own xs else passing own xs) ≡ run own (passing test (x ∷ xs))) [
        | true ↦ λ is. ap (λ fs. x ∷ fs) rest
            ∙ sym
            (ap (λ b. run own (if b then x ∷ passing test xs else passing test xs)) (inside x.0 is)
            ∙ ap (λ b. if b then x ∷ run own (passing test xs) else []) is)
        | false ↦
            λ fails.
            elim (test x.0)
            as (λ b. test x.0 ≡ b → passing own xs ≡ run own (if b then x ∷ passing test xs else passing test xs)) [
              | true ↦
                  λ passes.
                  none_own x.0 xs passes fails (first (below x.0 xs) (is_sorted key_cmp xs) sorted)
                  ∙ sym (ap (λ b. if b then x ∷ run own (passing test xs) else []) fails)
              | false ↦ λ fails. rest
            ] refl
      ] refl

  pub own_in : (m : Entries) → passing own (entries m) ≡ run own (passing test (entries m))
  own_in m = own_first (entries m) (entries_sorted m)

-- the entries from one on that was found, and what is found after it
pub on_from-next : {A : Type 0} (m : Entries) (shows : A → Key × Entry) (next : Option A) (x : A)
    (later : Option (Key × Entry)) →
    next ≡ Some x → Least m (is_after (shows x).0) later →
    on_from (entries m) (option_map shows next) ≡ shows x ∷ on_from (entries m) later
on_from-next m shows next x later is least =
    ap (λ n. on_from (entries m) (option_map shows n)) is
    ∙ ap (λ es. shows x ∷ es) (head_after m (shows x).0 later least)

all_pass : (es : List (Key × Entry)) → passing (λ k. true) es ≡ es
all_pass [] = refl
all_pass (e ∷ es) = ap (λ fs. e ∷ fs) (all_pass es)

-- all entries are the least and those after it
pub head_first : (m : Entries) (found : Option (Key × Entry)) → Least m (λ k. true) found →
    entries m ≡ on_from (entries m) found
head_first m found least = sym (all_pass (entries m)) ∙ head (λ k. true) (λ k q h lt. refl) m found least
