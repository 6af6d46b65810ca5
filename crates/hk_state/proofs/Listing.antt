-- The list of written keys, as writes come and move.
use Rattle.std.proofs.Common.{◌≡◌, ◌∙◌, ℕ, suc, zero, ◌+◌, ◌<◌, ◌≤◌, sym, ap, subst, refl, arith, List, [], ◌∷◌, ◌++◌}
use Rattle.std.proofs.Common.{length, drop, insert, remove, slice_get, Bool, true, false, cond, ◌||◌, Some, None}
use Rattle.std.proofs.Common.{MatchOption, if◌then◌else◌, append_assoc}
use Rattle.std.specs.List.{list_any, AllByRecursion, IsDistinct}
use Rattle.std.specs.Option.{option_map, option_map_or}
use Rattle.std.specs.FinMap.{find}
use Rattle.std.specs.Map.{keys_of, lookup, lookup_key}
use Rattle.std.proofs.lemmas.List.{drop-append-le}
use Rattle.std.proofs.lemmas.Map.Keys.{IsDistinct-head, IsDistinct-tail}
use Rattle.std.proofs.lemmas.Option.{slice_get-map}
use Rattle.indexmap.specs.IndexMap.{move_index, insert_entry}
use Rattle.hk_state.specs.declared.key.Key.{Key}
use Rattle.hk_state.specs.Keys.{key_cmp, is_key, exact, itself}
use Rattle.hk_state.specs.Writes.{note}
use Rattle.hk_state.proofs.Kept.{flipped}

module _ {X : Type 0} where
  -- a list around one of its items
  pub record Split (xs : List X) (at : ℕ) (x : X) : Type 0 where
    pub before : List X
    pub after : List X
    pub whole : xs ≡ before ++ x ∷ after
    pub long : length before ≡ at

  pub split : (xs : List X) (at : ℕ) (x : X) → slice_get xs at ≡ Some x → Split xs at x
  split [] at x h = cc
  split (y ∷ ys) zero x h = record {
    before = [];
    after = ys;
    whole = (let same : y ≡ x = cc in ap (λ z. z ∷ ys) same);
    long = refl;
  }
  split (y ∷ ys) (suc at) x h =
      let rest = split ys at x h in
      record {
        before = y ∷ rest.before;
        after = rest.after;
        whole = ap (λ zs. y ∷ zs) rest.whole;
        long = ap suc rest.long;
      }

  -- without the item between
  removed : (before : List X) (x : X) (after : List X) →
      remove (before ++ x ∷ after) (length before) ≡ before ++ after
  removed [] x after = refl
  removed (y ∷ ys) x after = ap (λ zs. y ∷ zs) (removed ys x after)

  inserted_last : (xs : List X) (x : X) (n : ℕ) → n ≡ length xs → insert xs n x ≡ xs ++ x ∷ []
  inserted_last [] x zero h = refl
  inserted_last [] x (suc n) h = absurd (omega (arith, h))
  inserted_last (y ∷ ys) x zero h = absurd (omega (arith, h))
  inserted_last (y ∷ ys) x (suc n) h = ap (λ zs. y ∷ zs) (inserted_last ys x n (omega (arith, h)))

  got : (before : List X) (x : X) (after : List X) → slice_get (before ++ x ∷ after) (length before) ≡ Some x
  got [] x after = refl
  got (y ∷ ys) x after = got ys x after

  joined : (before after : List X) → length (before ++ after) ≡ length before + length after
  joined [] after = omega arith
  joined (y ∷ ys) after = let rest = joined ys after in omega (arith, rest)

  -- an item that is moved to the end
  pub moved_last : (before : List X) (x : X) (after : List X) (to : ℕ) → to ≡ length before + length after →
      move_index (before ++ x ∷ after) (length before) to ≡ (before ++ after) ++ x ∷ []
  moved_last before x after to h =
      ap (λ o. option_map_or (λ y. insert (remove (before ++ x ∷ after) (length before)) to y) o (before ++ x ∷ after))
      (got before x after)
      ∙ ap (λ xs. insert xs to x) (removed before x after)
      ∙ inserted_last (before ++ after) x to (h ∙ sym (joined before after))

  -- what is left of a list behind an item that goes
  pub behind : (before : List X) (x : X) (after : List X) (n : ℕ) → length before ≤ n →
      drop (suc n) (before ++ x ∷ after) ≡ drop n (before ++ after)
  behind [] x after n h = refl
  behind (y ∷ ys) x after zero h = absurd (omega (arith, h))
  behind (y ∷ ys) x after (suc n) h = behind ys x after n (omega (arith, h))

-- a pair, where its type isn't known from what stands around it
abbrev pub pair : {X : Type 0} → Key → X → Key × X
pair k x = (k, x)

keys_joined : {X : Type 0} (es fs : List (Key × X)) → keys_of (es ++ fs) ≡ keys_of es ++ keys_of fs
keys_joined [] fs = refl
keys_joined (e ∷ es) fs = ap (λ ks. e.0 ∷ ks) (keys_joined es fs)

keys_many : {X : Type 0} (es : List (Key × X)) → length (keys_of es) ≡ length es
keys_many [] = refl
keys_many (e ∷ es) = ap suc (keys_many es)

any_dropped : (key : Key) (ks : List Key) (n : ℕ) → list_any (is_key key) ks ≡ false →
    list_any (is_key key) (drop n ks) ≡ false
any_dropped key ks zero h = h
any_dropped key [] (suc n) h = refl
any_dropped key (k ∷ ks) (suc n) h = any_dropped key ks n (second (is_key key k) (list_any (is_key key) ks) h)
  where
    second : (a b : Bool) → (a || b) ≡ false → b ≡ false
    second true b e = cc
    second false b e = e

-- a key that is listed
pub listed_at : (key k : Key) (ks : List Key) (n at : ℕ) → slice_get ks at ≡ Some k → is_key key k ≡ true → n ≤ at →
    list_any (is_key key) (drop n ks) ≡ true
listed_at key k [] n at h is le = cc
listed_at key k (x ∷ xs) zero zero h is le =
    let same : x ≡ k = cc in
    ap (λ y. is_key key y || list_any (is_key key) xs) same ∙ ap (λ b. b || list_any (is_key key) xs) is
listed_at key k (x ∷ xs) zero (suc at) h is le =
    or_true (is_key key x) (list_any (is_key key) xs) (listed_at key k xs zero at h is (omega arith))
  where
    or_true : (a b : Bool) → b ≡ true → (a || b) ≡ true
    or_true true b e = refl
    or_true false b e = e
listed_at key k (x ∷ xs) (suc n) zero h is le = absurd (omega (arith, le))
listed_at key k (x ∷ xs) (suc n) (suc at) h is le = listed_at key k xs n at h is (omega (arith, le))

pub noted_there : {X : Type 0} (key k : Key) (x : X) (es : List (Key × X)) (n at : ℕ) →
    slice_get es at ≡ Some (pair k x) → is_key key k ≡ true → n ≤ at →
    drop n (keys_of es) ≡ note key (drop n (keys_of es))
noted_there key k x es n at h is le =
    sym (ap (λ b. cond b (drop n (keys_of es)) (drop n (keys_of es) ++ key ∷ []))
    (listed_at key k (keys_of es) n at (slice_get-map (λ e. e.0) es at ∙ ap (option_map (λ e. e.0)) h) is le))

module _ (test : Key → Key → Bool) (agrees : (a b : Key) → test a b ≡ is_key a b) where
  last_of : (x k : Key) (ks : List Key) → AllByRecursion (λ y. test x y ≡ false) (ks ++ k ∷ []) → test x k ≡ false
  last_of x k [] h = h.0
  last_of x k (y ∷ ys) h = last_of x k ys h.1

  -- the last of distinct keys isn't among those before
  apart : (ks : List Key) (k : Key) → IsDistinct test (ks ++ k ∷ []) → list_any (is_key k) ks ≡ false
  apart [] k h = refl
  apart (x ∷ xs) k h =
      let first : is_key k x ≡ false =
      flipped k x ∙ sym (agrees x k) ∙ last_of x k xs (IsDistinct-head test x (xs ++ k ∷ []) h) in
      ap (λ b. b || list_any (is_key k) xs) first ∙ apart xs k (IsDistinct-tail test x (xs ++ k ∷ []) h)

  -- distinct keys of which the last is listed now
  pub noted_last : (ks : List Key) (k : Key) (n : ℕ) → n ≤ length ks → IsDistinct test (ks ++ k ∷ []) →
      drop n (ks ++ k ∷ []) ≡ note k (drop n ks)
  noted_last ks k n le h =
      drop-append-le n ks (k ∷ []) le
      ∙ sym (ap (λ b. cond b (drop n ks) (drop n ks ++ k ∷ [])) (any_dropped k ks n (apart ks k h)))

  -- a write from before the list moves behind all others
  pub noted_moved : {X : Type 0} (es : List (Key × X)) (key k : Key) (x : X) (at n to : ℕ) →
      slice_get es at ≡ Some (pair k x) → is_key key k ≡ true → at ≤ n → to + 1 ≡ length es → n < length es →
      IsDistinct test (keys_of (move_index es at to)) →
      drop n (keys_of (move_index es at to)) ≡ note key (drop (n + 1) (keys_of es))
  noted_moved es key k x at n to h is le last within distinct =
      let s = split es at (k, x) h in
      let before = keys_of s.before in
      let after = keys_of s.after in
      let whole : keys_of es ≡ before ++ k ∷ after = ap keys_of s.whole ∙ keys_joined s.before ((k, x) ∷ s.after) in
      let size : length es ≡ length s.before + suc (length s.after) =
      ap length s.whole ∙ joined s.before ((k, x) ∷ s.after) in
      let place = s.long in
      let many = keys_many s.before in
      let rest = keys_many s.after in
      let moved : keys_of (move_index es at to) ≡ (before ++ after) ++ k ∷ [] =
      ap keys_of
      ((λ i. move_index (s.whole i) (sym s.long i) to)
      ∙ moved_last s.before (k, x) s.after to (omega (arith, last, size)))
      ∙ keys_joined (s.before ++ s.after) ((k, x) ∷ []) ∙ ap (λ ks. ks ++ k ∷ []) (keys_joined s.before s.after) in
      let sum = joined before after in
      ap (drop n) moved
      ∙ noted_last (before ++ after) k n (omega (arith, size, sum, within, many, rest))
      (subst (IsDistinct test) moved distinct)
      ∙ (λ i. note (sym (exact key k is) i) (drop n (before ++ after)))
      ∙ ap (note key) (sym (ap (λ i. drop i (keys_of es)) (let more : n + 1 ≡ suc n = omega arith in more)
      ∙ ap (drop (suc n)) whole
      ∙ behind before k after n (omega (arith, place, le, many))))

  -- a key that an index map finds is the one that is asked for
  pub found_key : {X : Type 0} (key k : Key) (es : List (Key × X)) → lookup_key (test key) es ≡ Some k →
      is_key key k ≡ true
  found_key key k [] h = cc
  found_key key k (e ∷ es) h =
      elim (test key e.0)
      as (λ b. test key e.0 ≡ b → cond b (Some e.0) (lookup_key (test key) es) ≡ Some k → is_key key k ≡ true) [
        | true ↦ λ is here. let same : e.0 ≡ k = cc in ap (is_key key) (sym same) ∙ sym (agrees key e.0) ∙ is
        | false ↦ λ is later. found_key key k es later
      ] refl h

  -- a new key goes last, and a known one keeps its place
  inserted_new : {X : Type 0} (es : List (Key × X)) (k : Key) (x : X) → lookup (test k) es ≡ None →
      insert_entry test es k x ≡ es ++ (k, x) ∷ []
  inserted_new [] k x h = refl
  inserted_new (e ∷ es) k x h =
      elim (test k e.0) as (λ b.
      cond b (Some e.1) (lookup (test k) es) ≡ None →
      (if b then (e.0, x) ∷ es else e ∷ insert_entry test es k x) ≡ e ∷ (es ++ (k, x) ∷ [])) [
        | true ↦ λ bad. cc
        | false ↦ λ none. ap (λ fs. e ∷ fs) (inserted_new es k x none)
      ] h

  inserted_known : {X : Type 0} (es : List (Key × X)) (k : Key) (x old : X) → lookup (test k) es ≡ Some old →
      keys_of (insert_entry test es k x) ≡ keys_of es
  inserted_known [] k x old h = cc
  inserted_known (e ∷ es) k x old h =
      elim (test k e.0) as (λ b.
      cond b (Some e.1) (lookup (test k) es) ≡ Some old →
      keys_of (if b then (e.0, x) ∷ es else e ∷ insert_entry test es k x) ≡ e.0 ∷ keys_of es) [
        | true ↦ λ is. refl
        | false ↦ λ later. ap (λ ks. e.0 ∷ ks) (inserted_known es k x old later)
      ] h

  -- a key that isn't found isn't listed
  none_listed : {X : Type 0} (es : List (Key × X)) (k : Key) → lookup (test k) es ≡ None →
      list_any (is_key k) (keys_of es) ≡ false
  none_listed [] k h = refl
  none_listed (e ∷ es) k h =
      elim (test k e.0) as (λ b.
      test k e.0 ≡ b → cond b (Some e.1) (lookup (test k) es) ≡ None →
      (is_key k e.0 || list_any (is_key k) (keys_of es)) ≡ false) [
        | true ↦ λ is bad. cc
        | false ↦
            λ is none. ap (λ b. b || list_any (is_key k) (keys_of es)) (sym (agrees k e.0) ∙ is) ∙ none_listed es k none
      ] refl h

  pub unlisted : {X : Type 0} (es fs : List (Key × X)) (k : Key) (n : ℕ) →
      ((q : Key) → lookup (test q) fs ≡ lookup (test q) es) → lookup (test k) fs ≡ None →
      list_any (is_key k) (drop n (keys_of es)) ≡ false
  unlisted es fs k n same none = any_dropped k (keys_of es) n (none_listed es k (sym (same k) ∙ none))

  -- where a write goes, once an older one to its key was moved behind the others
  pub noted : {X : Type 0} (es fs gs : List (Key × X)) (k : Key) (x : X) (from now : ℕ) →
      ((q : Key) → lookup (test q) fs ≡ lookup (test q) es) →
      MatchOption (lookup (test k) es) ((now ≡ from) × (fs ≡ es))
      (λ _. drop now (keys_of fs) ≡ note k (drop from (keys_of es))) →
      gs ≡ insert_entry test fs k x → now ≤ length fs → IsDistinct test (keys_of gs) →
      drop now (keys_of gs) ≡ note k (drop from (keys_of es))
  noted es fs gs k x from now same listed done within distinct =
      elim (lookup (test k) es) as (λ found.
      lookup (test k) es ≡ found →
      MatchOption found ((now ≡ from) × (fs ≡ es)) (λ _. drop now (keys_of fs) ≡ note k (drop from (keys_of es))) →
      drop now (keys_of gs) ≡ note k (drop from (keys_of es))) [
        | None ↦ λ none is.
            let new : keys_of gs ≡ keys_of fs ++ k ∷ [] =
            ap keys_of (done ∙ inserted_new fs k x (same k ∙ none)) ∙ keys_joined fs ((k, x) ∷ []) in
            let many = keys_many fs in
            ap (drop now) new
            ∙ noted_last (keys_of fs) k now (omega (arith, within, many)) (subst (IsDistinct test) new distinct)
            ∙ (λ i. note k (drop (is.0 i) (keys_of (is.1 i))))
        | Some old ↦ λ some is. ap (drop now) (ap keys_of done ∙ inserted_known fs k x old (same k ∙ some)) ∙ is
      ] refl listed

  -- the end of a list of distinct keys
  pub record IsEnd {X : Type 0} (rest es : List (Key × X)) : Type 0 where
    pub done : List (Key × X)
    pub whole : es ≡ done ++ rest

  pub all_end : {X : Type 0} (rest es : List (Key × X)) → rest ≡ es → IsEnd rest es
  all_end rest es same = record { done = []; whole = sym same }

  pub less_end : {X : Type 0} (rest more es : List (Key × X)) (e : Key × X) → rest ≡ e ∷ more → IsEnd rest es →
      IsEnd more es
  less_end rest more es e left end = record {
    done = end.done ++ e ∷ [];
    whole = end.whole ∙ ap (λ fs. end.done ++ fs) left ∙ sym (append_assoc end.done (e ∷ []) more);
  }

  first_of : (x k : Key) (ks ls : List Key) → AllByRecursion (λ y. test x y ≡ false) (ks ++ k ∷ ls) → test x k ≡ false
  first_of x k [] ls h = h.0
  first_of x k (y ∷ ys) ls h = first_of x k ys ls h.1

  found_in : {X : Type 0} (done more : List (Key × X)) (k : Key) (x : X) →
      IsDistinct test (keys_of (done ++ (k, x) ∷ more)) → find key_cmp k (done ++ (k, x) ∷ more) ≡ Some x
  found_in [] more k x h = ap (λ b. cond b (Some x) (find key_cmp k more)) (itself k)
  found_in (e ∷ es) more k x h =
      let apart =
      first_of e.0 k (keys_of es) (keys_of more) (subst (AllByRecursion (λ y. test e.0 y ≡ false))
      (keys_joined es ((k, x) ∷ more)) (IsDistinct-head test e.0 (keys_of (es ++ (k, x) ∷ more)) h)) in
      ap (λ b. cond b (Some e.1) (find key_cmp k (es ++ (k, x) ∷ more))) (flipped k e.0 ∙ sym (agrees e.0 k) ∙ apart)
      ∙ found_in es more k x (IsDistinct-tail test e.0 (keys_of (es ++ (k, x) ∷ more)) h)

  -- the first of the end is what its key has
  pub found_end : {X : Type 0} (rest more es : List (Key × X)) (k : Key) (x : X) → rest ≡ (k, x) ∷ more →
      IsDistinct test (keys_of es) → IsEnd rest es → find key_cmp k es ≡ Some x
  found_end rest more es k x left distinct end =
      let whole = end.whole ∙ ap (λ fs. end.done ++ fs) left in
      ap (find key_cmp k) whole ∙ found_in end.done more k x (subst (λ fs. IsDistinct test (keys_of fs)) whole distinct)

  dropped_get : (ks : List Key) (n at : ℕ) → slice_get (drop n ks) at ≡ slice_get ks (n + at)
  dropped_get ks zero at = ap (slice_get ks) (let same : at ≡ 0 + at = omega arith in same)
  dropped_get [] (suc n) at = refl
  dropped_get (k ∷ ks) (suc n) at =
      dropped_get ks n at ∙ ap (slice_get (k ∷ ks)) (let same : suc (n + at) ≡ suc n + at = omega arith in same)

  -- the key at a place of the list
  pub at_place : {X : Type 0} (es : List (Key × X)) (n at : ℕ) (k : Key) (x : X) →
      Some (pair k x) ≡ slice_get es (n + at) → slice_get (drop n (keys_of es)) at ≡ Some k
  at_place es n at k x is =
      dropped_get (keys_of es) n at ∙ slice_get-map (λ e. e.0) es (n + at) ∙ ap (option_map (λ e. e.0)) (sym is)

  none_in_front : {X : Type 0} (done more : List (Key × X)) (k : Key) (x : X) →
      IsDistinct test (keys_of (done ++ (k, x) ∷ more)) → lookup (test k) done ≡ None
  none_in_front [] more k x h = refl
  none_in_front (e ∷ es) more k x h =
      let apart =
      first_of e.0 k (keys_of es) (keys_of more) (subst (AllByRecursion (λ y. test e.0 y ≡ false))
      (keys_joined es ((k, x) ∷ more)) (IsDistinct-head test e.0 (keys_of (es ++ (k, x) ∷ more)) h)) in
      ap (λ b. cond b (Some e.1) (lookup (test k) es)) (agrees k e.0 ∙ flipped k e.0 ∙ sym (agrees e.0 k) ∙ apart)
      ∙ none_in_front es more k x (IsDistinct-tail test e.0 (keys_of (es ++ (k, x) ∷ more)) h)

  -- a copy of what stands before the rest, and one entry more
  pub one_copied : {X : Type 0} (es done now rest more : List (Key × X)) (k : Key) (x y : X) → rest ≡ (k, x) ∷ more →
      y ≡ x → now ≡ insert_entry test done k y → IsDistinct test (keys_of es) → done ++ rest ≡ es → now ++ more ≡ es
  one_copied es done now rest more k x y left same put distinct whole =
      let all : es ≡ done ++ (k, x) ∷ more = sym whole ∙ ap (λ fs. done ++ fs) left in
      let none = none_in_front done more k x (subst (λ fs. IsDistinct test (keys_of fs)) all distinct) in
      ap (λ fs. fs ++ more) (put ∙ inserted_new done k y none ∙ ap (λ z. done ++ (k, z) ∷ []) same)
      ∙ append_assoc done ((k, x) ∷ []) more ∙ sym all
