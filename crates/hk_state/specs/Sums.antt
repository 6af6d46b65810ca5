-- Sums over the entries of a map, of a number that a key and its entry give. This project's own.
use Rattle.std.specs.Prelude.{◌≡◌, ℕ, zero, suc, ◌+◌, ◌-◌, ◌≤◌, Bool, true, false, cond, ◌&&◌, T, List, [], ◌∷◌, length}
use Rattle.std.specs.Prelude.{Option, Some, None, is_some, refl}
use Rattle.std.proofs.Common.{◌∙◌, ap, sym, arith}
use Rattle.std.specs.declared.cmp.Ordering.{Ordering}
use Rattle.std.specs.declared.cmp.Ordering.TheVariants.{Less, Equal, Greater}
use Rattle.std.specs.Ordering.{is_lt}
use Rattle.std.specs.Cmp.{IsTotalOrder}
use Rattle.std.specs.FinMap.{IsAntisymmetric, get, insert, remove, find, put, is_sorted, entries, get-entries}
use Rattle.std.specs.FinMap.{get-insert, get-remove, entries-insert, entries_sorted, same_map, empty, len, len-entries}
use Rattle.std.specs.FinMap.{len-empty, len-remove, contains_key}
use Rattle.hk_state.specs.declared.key.Key.{Key}
use Rattle.hk_state.specs.declared.entry.Entry.{Entry}
use Rattle.hk_state.specs.Keys.{key_cmp, is_key, keys_total, exact_keys, itself, exact}
use Rattle.hk_state.specs.Entries.{Entries, write}

-- the sum of f over a list
abbrev pub total : {K X : Type 0} → (K → X → ℕ) → List (K × X) → ℕ
total f [] = 0
total f (e ∷ es) = f e.0 e.1 + total f es

unfoldable pub sum : (Key → Entry → ℕ) → Entries → ℕ
sum f m = total f (entries m)

pub sum-total : (f : Key → Entry → ℕ) (m : Entries) → sum f m ≡ total f (entries m)
unfolding sum
sum-total f m = refl

-- what f gives at a key, 0 where there is no entry
abbrev pub part : {K X : Type 0} → (K → X → ℕ) → K → Option X → ℕ
part f k None = 0
part f k (Some x) = f k x

-- every key is above x
abbrev below : {K X : Type 0} → (K → K → Ordering) → K → List (K × X) → Bool
below R x [] = true
below R x (e ∷ es) = is_lt (R x e.0) && below R x es

first : (a b : Bool) → T (a && b) → T a
first true b h = tt
first false b h = absurd h

second : (a b : Bool) → T (a && b) → T b
second true b h = h
second false b h = absurd h

pub less : (order : Ordering) → T (is_lt order) → order ≡ Less
less Less h = refl
less Equal h = absurd h
less Greater h = absurd h

module _ {K X : Type 0} (R : K → K → Ordering) (o : IsTotalOrder R) (one : IsAntisymmetric R) (f : K → X → ℕ) where
  none_below : (k x : K) (es : List (K × X)) → R k x ≡ Less → T (below R x es) → find R k es ≡ None
  none_below k x [] p h = refl
  none_below k x (e ∷ es) p h =
      let q : R k e.0 ≡ Less = o.trans k x e.0 p (less (R x e.0) (first _ _ h)) in
      rw q (none_below k x es p (second (is_lt (R x e.0)) _ h))

  sum_put : (k : K) (v : X) (es : List (K × X)) → T (is_sorted R es) →
      total f (put R k v es) + part f k (find R k es) ≡ total f es + f k v
  sum_put k v [] h = omega arith
  sum_put k v (e ∷ es) h =
      elim (R k e.0)
      as (λ r. R k e.0 ≡ r → total f (put R k v (e ∷ es)) + part f k (find R k (e ∷ es)) ≡ total f (e ∷ es) + f k v) [
        | Less ↦ λ p. rw p (rw (none_below k e.0 es p (first _ _ h)) (omega arith))
        | Equal ↦
            λ p.
            let old = ap (λ x. f x e.1) (one k e.0 p) in
            let new = ap (λ x. f x v) (one k e.0 p) in
            rw p (omega (arith, old, new))
        | Greater ↦ λ p. rw p (let more = sum_put k v es (second (below R e.0 es) _ h) in omega (arith, more))
      ] refl

module _ (f : Key → Entry → ℕ) where
  inserted : (m : Entries) (key : Key) (e : Entry) →
      total f (put key_cmp key e (entries m)) + part f key (find key_cmp key (entries m))
      ≡ total f (entries m) + f key e
  inserted m key e = sum_put key_cmp keys_total exact_keys f key e (entries m) (entries_sorted m)

  -- what is added at a key, less what was there
  pub sum-insert : (m : Entries) (key : Key) (e : Entry) →
      sum f (insert m key e) + part f key (get m key) ≡ sum f m + f key e
  unfolding sum
  sum-insert m key e =
      ap (λ es. total f es + part f key (get m key)) (entries-insert keys_total m key e)
      ∙ ap (λ found. total f (put key_cmp key e (entries m)) + part f key found) (get-entries m key)
      ∙ inserted m key e

  taken : (m : Entries) (key : Key) → get (remove m key) key ≡ None
  taken m key = get-remove keys_total m key key ∙ ap (λ b. cond b None (get m key)) (itself key)

  -- an entry that is taken out and put back
  put_back : (m : Entries) (key : Key) (e : Entry) → get m key ≡ Some e → insert (remove m key) key e ≡ m
  put_back m key e at = same_map keys_total exact_keys _ _ (λ q.
      get-insert keys_total (remove m key) key e q
      ∙ elim (is_key q key) as (λ b. is_key q key ≡ b → cond b (Some e) (get (remove m key) q) ≡ get m q) [
        | true ↦ λ h. sym (ap (get m) (exact q key h) ∙ at)
        | false ↦ λ h. get-remove keys_total m key q ∙ ap (λ b. cond b None (get m q)) h
      ] refl)

  -- nothing is taken out
  untouched : (m : Entries) (key : Key) → get m key ≡ None → remove m key ≡ m
  untouched m key at = same_map keys_total exact_keys _ _ (λ q.
      get-remove keys_total m key q
      ∙ elim (is_key q key) as (λ b. is_key q key ≡ b → cond b None (get m q) ≡ get m q) [
        | true ↦ λ h. sym (ap (get m) (exact q key h) ∙ at)
        | false ↦ λ h. refl
      ] refl)

  pub sum-remove : (m : Entries) (key : Key) → sum f (remove m key) + part f key (get m key) ≡ sum f m
  sum-remove m key =
      elim (get m key) as (λ found. get m key ≡ found → sum f (remove m key) + part f key found ≡ sum f m) [
        | None ↦ λ at. let same = ap (sum f) (untouched m key at) in omega (arith, same)
        | Some e ↦ λ at.
            let more = sum-insert (remove m key) key e in
            let same = ap (sum f) (put_back m key e at) in
            let none = ap (part f key) (taken m key) in
            omega (arith, more, same, none)
      ] refl

  -- a change at a key, less what was there
  pub sum-write : (m : Entries) (key : Key) (change : Option Entry) →
      sum f (write m key change) + part f key (get m key) ≡ sum f m + part f key change
  sum-write m key None = let less = sum-remove m key in omega (arith, less)
  sum-write m key (Some e) = sum-insert m key e

  -- one part is no more than the sum
  pub one_part : (m : Entries) (key : Key) → part f key (get m key) ≤ sum f m
  one_part m key = let rest = sum-remove m key in omega (arith, rest)

  no_entries : (es : List (Key × Entry)) → length es ≡ 0 → total f es ≡ 0
  no_entries [] h = refl
  no_entries (e ∷ es) h = absurd (omega (arith, h))

  pub sum-empty : sum f empty ≡ 0
  unfolding sum
  sum-empty = no_entries (entries empty) (sym (len-entries empty) ∙ len-empty key_cmp Entry)

-- f in one map and g in the other give the same at each key
abbrev pub AreAlike : (Key → Entry → ℕ) → (Key → Entry → ℕ) → Entries → Entries → Type 0
AreAlike f g m n = (q : Key) → part f q (get m q) ≡ part g q (get n q)

module _ (f g : Key → Entry → ℕ) where
  alike_removed : (m n : Entries) (k : Key) → AreAlike f g m n → AreAlike f g (remove m k) (remove n k)
  alike_removed m n k alike q =
      ap (part f q) (get-remove keys_total m k q)
      ∙ elim (is_key q k) as (λ b. part f q (cond b None (get m q)) ≡ part g q (cond b None (get n q))) [
        | true ↦ refl
        | false ↦ alike q
      ]
      ∙ sym (ap (part g q) (get-remove keys_total n k q))

  -- without a key in both, the sums stay alike
  without : (m n : Entries) (k : Key) → AreAlike f g m n → sum f (remove m k) ≡ sum g (remove n k) → sum f m ≡ sum g n
  without m n k alike rest =
      let here = alike k in
      let one = sum-remove f m k in
      let other = sum-remove g n k in
      omega (arith, here, one, other, rest)

  fewer : (m : Entries) (k : Key) → len (remove m k) ≤ len m
  fewer m k =
      elim (contains_key m k) as (λ b. len (remove m k) ≡ cond b (len m - 1) (len m) → len (remove m k) ≤ len m) [
        | true ↦ λ is. omega (arith, is)
        | false ↦ λ is. omega (arith, is)
      ] (len-remove keys_total m k)

  one_fewer : (m : Entries) (k : Key) (e : Entry) (es : List (Key × Entry)) → entries m ≡ (k, e) ∷ es →
      len (remove m k) + 1 ≡ len m
  one_fewer m k e es is =
      let there : get m k ≡ Some e =
      get-entries m k ∙ ap (find key_cmp k) is ∙ ap (λ b. cond b (Some e) (find key_cmp k es)) (itself k) in
      let size : len m ≡ suc (length es) = len-entries m ∙ ap length is in
      let less : len (remove m k) ≡ len m - 1 =
      len-remove keys_total m k ∙ ap (λ b. cond b (len m - 1) (len m)) (ap is_some there) in
      omega (arith, size, less)

  none_there : (h : Key → Entry → ℕ) (m : Entries) → entries m ≡ [] → sum h m ≡ 0
  unfolding sum
  none_there h m is = ap (total h) is

  too_few : (m : Entries) (e : Key × Entry) (es : List (Key × Entry)) → entries m ≡ e ∷ es → len m ≡ 0 → ⊥
  too_few m e es is none =
      let size : len m ≡ suc (length es) = len-entries m ∙ ap length is in absurd (omega (arith, size, none))

  sums_by : (most : ℕ) (m n : Entries) (es fs : List (Key × Entry)) → entries m ≡ es → entries n ≡ fs →
      len m + len n ≤ most → AreAlike f g m n → sum f m ≡ sum g n
  sums_by most m n [] [] a b few alike = none_there f m a ∙ sym (none_there g n b)
  sums_by zero m n (e ∷ es) fs a b few alike = absurd (too_few m e es a (omega (arith, few)))
  sums_by zero m n [] (e ∷ es) a b few alike = absurd (too_few n e es b (omega (arith, few)))
  sums_by (suc most) m n (e ∷ es) fs a b few alike =
      let less = one_fewer m e.0 e.1 es a in
      let also = fewer n e.0 in
      without m n e.0 alike (sums_by most (remove m e.0) (remove n e.0) (entries (remove m e.0))
      (entries (remove n e.0)) refl refl (omega (arith, few, less, also)) (alike_removed m n e.0 alike))
  sums_by (suc most) m n [] (e ∷ es) a b few alike =
      let less = one_fewer n e.0 e.1 es b in
      let also = fewer m e.0 in
      without m n e.0 alike (sums_by most (remove m e.0) (remove n e.0) (entries (remove m e.0))
      (entries (remove n e.0)) refl refl (omega (arith, few, less, also)) (alike_removed m n e.0 alike))

  -- sums are alike where all parts are
  pub sum-alike : (m n : Entries) → AreAlike f g m n → sum f m ≡ sum g n
  sum-alike m n alike = sums_by (len m + len n) m n (entries m) (entries n) refl refl (omega arith) alike
