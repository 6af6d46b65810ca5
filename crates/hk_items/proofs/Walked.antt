-- The entries of a namespace, by a walk over them that removes each.
use Rattle.std.proofs.Common.{◌≡◌, ◌∙◌, ap, sym, subst, refl, arith, ℕ, suc, ◌<◌, Bool, true, false, ◌&&◌}
use Rattle.std.proofs.Common.{if◌then◌else◌, cond, List, [], ◌∷◌, replicate, length, Option, Some, None}
use Rattle.std.specs.List.{filter_map, cons_option}
use Rattle.std.specs.declared.cmp.Ordering.{Ordering}
use Rattle.std.specs.declared.cmp.Ordering.TheVariants.{Less, Equal, Greater}
use Rattle.std.specs.Ordering.{is_lt, is_le, is_eq, ordering_reverse, ordering_then}
use Rattle.std.specs.Str.{bytes_eq}
use Rattle.std.specs.FinMap.{get, entries}
use Rattle.std.proofs.lemmas.Bool.{and_parts}
use Rattle.std.proofs.lemmas.Map.Text.{is_eq-slice_cmp}
use Rattle.wa_ops.specs.Typing.{and_then}
use Rattle.hk_base.specs.declared.ids.AccountId.{AccountId}
use Rattle.hk_base.specs.declared.ids.Hash256.{Hash256}
use Rattle.hk_emit.specs.declared.emission.Emission.{Emission}
use Rattle.hk_state.specs.declared.entry.Entry.{Entry}
use Rattle.hk_state.specs.declared.key.Key.{Key}
use Rattle.hk_state.specs.declared.key.Key.TheVariants.{Account, Install, Definition, State, Emitted, Other}
use Rattle.hk_state.specs.declared.key.StateKey.{StateKey}
use Rattle.hk_state.specs.Entries.{Entries, get-write}
use Rattle.hk_state.specs.Keys.{key_cmp, bytes_cmp, is_key, as_key, keys_total, order_at, exact}
use Rattle.hk_state.specs.Least.{Least, is_from, is_after}
use Rattle.hk_state.specs.Rules.{as_state_key}
use Rattle.hk_state.specs.Writes.{Writes, with_writes, written, with_written}
use Rattle.hk_state.proofs.Leasts.{at_less}
use Rattle.hk_state.proofs.Walks.{passing, on_from, head_from, head_after}
use Rattle.hk_draft.specs.Drafted.{draft_of}
use Rattle.hk_draft.proofs.Drafting.{write_draft}
use Rattle.hk_events.specs.Items.{first_in, is_in, key_in, keys_in, all_erased, emptied}

-- what is at most one way and below the other way is a tie, and its next parts are so
between : (order other x y : Ordering) → other ≡ ordering_reverse order → is_le (ordering_then order x) ≡ true →
    is_lt (ordering_then other y) ≡ true → (order ≡ Equal) × ((is_le x ≡ true) × (is_lt y ≡ true))
between Less other x y turned le lt =
    let differ : false ≡ true = ap (λ o. is_lt (ordering_then o y)) (sym turned) ∙ lt in absurd (cc)
between Equal other x y turned le lt = (refl, (le, ap (λ o. is_lt (ordering_then o y)) (sym turned) ∙ lt))
between Greater other x y turned le lt = absurd (cc)

turned_bytes : (a b : List ℕ) → bytes_cmp a b ≡ ordering_reverse (bytes_cmp b a)
turned_bytes a b = keys_total.antisymm (Other a) (Other b)

turned : (a d b : List ℕ) → bytes_cmp a b ≡ Equal → bytes_cmp d b ≡ ordering_reverse (bytes_cmp a d)
turned a d b tie = turned_bytes d b ∙ ap ordering_reverse (sym (keys_total.congr (Other a) (Other b) (Other d) tie))

tied : (a b : List ℕ) → bytes_eq a b ≡ true → bytes_cmp a b ≡ Equal
tied a b same = order_at (bytes_cmp a b) (is_eq-slice_cmp a b ∙ same)

same_bytes : (a b : List ℕ) → bytes_cmp a b ≡ Equal → bytes_eq a b ≡ true
same_bytes a b tie = sym (is_eq-slice_cmp a b) ∙ ap is_eq tie

up : (start k q : Key) → is_from start k ≡ true → is_after k q ≡ true → is_from start q ≡ true
up start k q begins after =
    elim (key_cmp start k) as (λ order. key_cmp start k ≡ order → is_le order ≡ true → is_le (key_cmp start q) ≡ true) [
      | Less ↦ λ is le. ap is_le (keys_total.trans start k q is (at_less (key_cmp k q) after))
      | Equal ↦ λ is le. ap (λ x. is_le (key_cmp x q)) (exact start k (ap is_eq is))
          ∙ ap is_le (at_less (key_cmp k q) after)
      | Greater ↦ λ is le. cc
    ] refl begins

apart : (k q : Key) → is_after k q ≡ true → is_key q k ≡ false
apart k q after = ap is_eq (keys_total.antisymm q k ∙ ap ordering_reverse (at_less (key_cmp k q) after))

-- the State keys of entries that are in the namespace
abbrev pub in_entries : AccountId → Hash256 → List (Key × Entry) → List StateKey
in_entries owner namespace es = filter_map (λ e. key_in owner namespace e.0) es

-- from the next one on
abbrev pub rest : AccountId → Hash256 → List (Key × Entry) → Option StateKey → List StateKey
rest owner namespace es None = []
rest owner namespace es (Some q) = q ∷ in_entries owner namespace (passing (is_after (as_key q)) es)

-- an entry that was found isn't before the namespace
abbrev IsFrom : AccountId → Hash256 → Option (Key × Entry) → Type 0
IsFrom owner namespace None = Unit {0}
IsFrom owner namespace (Some f) = is_from (first_in owner namespace) f.0 ≡ true

-- behind an entry that was found n is as m
abbrev Behind : Entries → Entries → Option (Key × Entry) → Type 0
Behind m n None = Unit {0}
Behind m n (Some f) = (k : Key) → is_after f.0 k ≡ true → get n k ≡ get m k

-- the next key isn't before the namespace, and behind it n is as m
abbrev pub Ahead : AccountId → Hash256 → Entries → Entries → Option StateKey → Type 0
Ahead owner namespace m n None = Unit {0}
Ahead owner namespace m n (Some q) =
    (is_from (first_in owner namespace) (as_key q) ≡ true) × ((k : Key) → is_after (as_key q) k ≡ true →
    get n k ≡ get m k)

-- the overlay w comes from start by removals, and those from the next key on are left
pub record Walking (owner : AccountId) (namespace : Hash256) (base : Entries) (start w : Writes)
    (next : Option StateKey) : Type 0 where
  pub left : (es : List Emission) →
      all_erased (rest owner namespace (entries (with_writes base start)) next)
      (draft_of base w es) ≡ emptied owner namespace (draft_of base start es)
  pub ahead : Ahead owner namespace (with_writes base start) (with_writes base w) next

module _ (owner : AccountId) (namespace : Hash256) where
  -- between two keys of the namespace is no other
  inside : (d p r s t : List ℕ) (id space : List ℕ) → bytes_eq owner.0 id ≡ true → bytes_eq space namespace.0 ≡ true →
      is_le (ordering_then (bytes_cmp owner.0 d) (ordering_then (bytes_cmp namespace.0 p) (bytes_cmp r s))) ≡ true →
      is_lt (ordering_then (bytes_cmp d id) (ordering_then (bytes_cmp p space) (bytes_cmp s t))) ≡ true →
      (bytes_eq owner.0 d && bytes_eq p namespace.0) ≡ true
  inside d p r s t id space one other le lt =
      let outer =
      between (bytes_cmp owner.0 d) (bytes_cmp d id) (ordering_then (bytes_cmp namespace.0 p) (bytes_cmp r s))
      (ordering_then (bytes_cmp p space) (bytes_cmp s t)) (turned owner.0 d id (tied owner.0 id one)) le lt in
      let tie : bytes_cmp namespace.0 space ≡ Equal = turned_bytes namespace.0 space
      ∙ ap ordering_reverse (tied space namespace.0 other) in
      let inner =
      between (bytes_cmp namespace.0 p) (bytes_cmp p space) (bytes_cmp r s) (bytes_cmp s t)
      (turned namespace.0 p space tie) outer.1.0 outer.1.1 in
      (λ i. same_bytes owner.0 d outer.0 i && bytes_eq p namespace.0)
      ∙ same_bytes p namespace.0 (turned_bytes p namespace.0 ∙ ap ordering_reverse inner.0)

  not_both : (a b c : Bool) → a ≡ true → ((a && b) && c) ≡ false → (b && c) ≡ true → ⊥
  not_both true true c is fails both = let differ : true ≡ false = sym both ∙ fails in cc
  not_both true false c is fails both = cc
  not_both false b c is fails both = cc

  no_later : (k : Key) (id : AccountId) (space at : Hash256) → is_from (first_in owner namespace) k ≡ true →
      is_in owner namespace k ≡ false → is_after k (State id space at) ≡ true →
      is_in owner namespace (State id space at) ≡ true → ⊥
  no_later (Account d) id space at begins not after is = cc
  no_later (Install d position) id space at begins not after is = cc
  no_later (Definition hash) id space at begins not after is = cc
  no_later (State d p s) id space at begins not after is =
      let both =
      and_parts (is_from (first_in owner namespace) (State id space at) && bytes_eq owner.0 id.0)
      (bytes_eq space.0 namespace.0) is in
      let parts = and_parts (is_from (first_in owner namespace) (State id space at)) (bytes_eq owner.0 id.0) both.0 in
      not_both (is_from (first_in owner namespace) (State d p s)) (bytes_eq owner.0 d.0)
      (bytes_eq p.0 namespace.0) begins not
      (inside d.0 p.0 (replicate 32 0) s.0 at.0 id.0 space.0 parts.1 both.1 begins after)
  no_later (Emitted number) id space at begins not after is = cc
  no_later (Other bytes) id space at begins not after is = cc

  together : (k q : Key) → is_from (first_in owner namespace) k ≡ true → is_in owner namespace k ≡ false →
      is_after k q ≡ true → is_in owner namespace q ≡ false
  together k (State id space at) begins not after =
      elim (is_in owner namespace (State id space at)) as (λ b. is_in owner namespace (State id space at) ≡ b →
      b ≡ false) [
        | true ↦ λ is. absurd (no_later k id space at begins not after is)
        | false ↦ λ fails. refl
      ] refl
  together k (Account id) begins not after = refl
  together k (Install id position) begins not after = refl
  together k (Definition hash) begins not after = refl
  together k (Emitted number) begins not after = refl
  together k (Other bytes) begins not after = refl

  no_key_before : (k : Key) → is_from (first_in owner namespace) k ≡ false → key_in owner namespace k ≡ None
  no_key_before (State id space at) fails =
      ap (λ b. if (b && bytes_eq owner.0 id.0) && bytes_eq space.0 namespace.0 then as_state_key
      (State id space at) else None) fails
  no_key_before (Account id) fails = refl
  no_key_before (Install id position) fails = refl
  no_key_before (Definition hash) fails = refl
  no_key_before (Emitted number) fails = refl
  no_key_before (Other bytes) fails = refl

  from_first : (es : List (Key × Entry)) →
      in_entries owner namespace es ≡ in_entries owner namespace (passing (is_from (first_in owner namespace)) es)
  from_first [] = refl
  from_first (e ∷ es) =
      elim (is_from (first_in owner namespace) e.0) as (λ b. is_from (first_in owner namespace) e.0 ≡ b →
      in_entries owner namespace (e ∷ es) ≡ in_entries owner namespace
      (if b then e ∷ passing (is_from (first_in owner namespace)) es else passing
      (is_from (first_in owner namespace)) es)) [
        | true ↦ λ is. ap (cons_option (key_in owner namespace e.0)) (from_first es)
        | false ↦
            λ fails. ap (λ o. cons_option o (in_entries owner namespace es)) (no_key_before e.0 fails) ∙ from_first es
      ] refl

  none_after : (k : Key) → is_from (first_in owner namespace) k ≡ true → is_in owner namespace k ≡ false →
      (es : List (Key × Entry)) → in_entries owner namespace (passing (is_after k) es) ≡ []
  none_after k begins not [] = refl
  none_after k begins not (e ∷ es) =
      elim (is_after k e.0) as (λ b. is_after k e.0 ≡ b →
      in_entries owner namespace (if b then e ∷ passing (is_after k) es else passing (is_after k) es) ≡ []) [
        | true ↦ λ after. ap (λ b. cons_option (if b then as_state_key e.0 else None)
            (in_entries owner namespace (passing (is_after k) es))) (together k e.0 begins not after)
            ∙ none_after k begins not es
        | false ↦ λ fails. none_after k begins not es
      ] refl

  one_found : (k : Key) (e : Entry) (es : List (Key × Entry)) → is_from (first_in owner namespace) k ≡ true →
      in_entries owner namespace ((k, e) ∷ passing (is_after k) es) ≡ rest owner namespace es (key_in owner namespace k)
  one_found (State id space at) e es begins =
      elim (is_in owner namespace (State id space at)) as (λ b. is_in owner namespace (State id space at) ≡ b →
      cons_option (if b then as_state_key (State id space at) else None)
      (in_entries owner namespace (passing (is_after (State id space at)) es)) ≡ rest owner namespace es
      (if b then as_state_key (State id space at) else None)) [
        | true ↦ λ is. refl
        | false ↦ λ fails. none_after (State id space at) begins fails es
      ] refl
  one_found (Account id) e es begins = none_after (Account id) begins refl es
  one_found (Install id position) e es begins = none_after (Install id position) begins refl es
  one_found (Definition hash) e es begins = none_after (Definition hash) begins refl es
  one_found (Emitted number) e es begins = none_after (Emitted number) begins refl es
  one_found (Other bytes) e es begins = none_after (Other bytes) begins refl es

  found_so : (es : List (Key × Entry)) (found : Option (Key × Entry)) → IsFrom owner namespace found →
      in_entries owner namespace (on_from es found) ≡ rest owner namespace es
      (and_then found (λ e. key_in owner namespace e.0))
  found_so es None begins = refl
  found_so es (Some f) begins = one_found f.0 f.1 es begins

  first_from : (m : Entries) (found : Option (Key × Entry)) → Least m (is_from (first_in owner namespace)) found →
      IsFrom owner namespace found
  first_from m None least = tt
  first_from m (Some f) least = least.passes

  next_from : (m : Entries) (k : Key) (found : Option (Key × Entry)) → is_from (first_in owner namespace) k ≡ true →
      Least m (is_after k) found → IsFrom owner namespace found
  next_from m k None begins least = tt
  next_from m k (Some f) begins least = up (first_in owner namespace) k f.0 begins least.passes

  moved : (m n : Entries) (test : Key → Bool) (found : Option (Key × Entry)) →
      ((k : Key) → test k ≡ true → get n k ≡ get m k) →
      Least n test found → Least m test found
  moved m n test None same least = λ k is. sym (same k is) ∙ least k is
  moved m n test (Some f) same least = record {
    there = sym (same f.0 least.passes) ∙ least.there;
    passes = least.passes;
    none_before = λ k is lt. sym (same k is) ∙ least.none_before k is lt;
  }

  ahead_at : (m n : Entries) (k : Key) → is_from (first_in owner namespace) k ≡ true →
      ((q : Key) → is_after k q ≡ true → get n q ≡ get m q) → Ahead owner namespace m n (key_in owner namespace k)
  ahead_at m n (State id space at) begins same =
      elim (is_in owner namespace (State id space at)) as
      (λ b. Ahead owner namespace m n (if b then as_state_key (State id space at) else None))
      [ true ↦ (begins, same) | false ↦ tt ]
  ahead_at m n (Account id) begins same = tt
  ahead_at m n (Install id position) begins same = tt
  ahead_at m n (Definition hash) begins same = tt
  ahead_at m n (Emitted number) begins same = tt
  ahead_at m n (Other bytes) begins same = tt

  ahead_so : (m n : Entries) (found : Option (Key × Entry)) → IsFrom owner namespace found → Behind m n found →
      Ahead owner namespace m n (and_then found (λ e. key_in owner namespace e.0))
  ahead_so m n None begins same = tt
  ahead_so m n (Some f) begins same = ahead_at m n f.0 begins same

  all_same : (m : Entries) (found : Option (Key × Entry)) → Behind m m found
  all_same m None = tt
  all_same m (Some f) = λ k is. refl

  further : (m n : Entries) (k : Key) (found : Option (Key × Entry)) →
      ((q : Key) → is_after k q ≡ true → get n q ≡ get m q) →
      Least m (is_after k) found → Behind m n found
  further m n k None same least = tt
  further m n k (Some f) same least =
      λ q is. same q (ap is_lt (keys_total.trans k f.0 q (at_less (key_cmp k f.0) least.passes)
      (at_less (key_cmp f.0 q) is)))

  cut_same : (base : Entries) (w : Writes) (m : Entries) (k : Key) →
      ((q : Key) → is_after k q ≡ true → get (with_writes base w) q ≡ get m q) →
      (q : Key) → is_after k q ≡ true → get (with_writes base (written w k None)) q ≡ get m q
  cut_same base w m k same q is =
      ap (λ n. get n q) (with_written base w k None) ∙ get-write (with_writes base w) k None q
      ∙ ap (λ b. cond b None (get (with_writes base w) q)) (apart k q is) ∙ same q is

  pub begun : (base : Entries) (start : Writes) (found : Option (Key × Entry)) →
      Least (with_writes base start) (is_from (first_in owner namespace)) found →
      Walking owner namespace base start start (and_then found (λ e. key_in owner namespace e.0))
  begun base start found least = record {
    left = λ es. ap (λ qs. all_erased qs (draft_of base start es))
        (sym (from_first (entries (with_writes base start))
        ∙ ap (in_entries owner namespace) (head_from (with_writes base start) (first_in owner namespace) found least)
        ∙ found_so (entries (with_writes base start)) found (first_from (with_writes base start) found least)));
    ahead =
        ahead_so (with_writes base start) (with_writes base start) found
        (first_from (with_writes base start) found least) (all_same (with_writes base start) found);
  }

  module _ (base : Entries) (start w : Writes) (q : StateKey)
      (walking : Walking owner namespace base start w (Some q)) (found : Option (Key × Entry))
      (least : Least (with_writes base (written w (as_key q) None)) (is_after (as_key q)) found) where
    same : (k : Key) → is_after (as_key q) k ≡ true →
        get (with_writes base (written w (as_key q) None)) k ≡ get (with_writes base start) k
    same = cut_same base w (with_writes base start) (as_key q) walking.ahead.1

    still : Least (with_writes base start) (is_after (as_key q)) found
    still =
        moved (with_writes base start) (with_writes base (written w (as_key q) None))
        (is_after (as_key q)) found same least

    begins : IsFrom owner namespace found
    begins = next_from (with_writes base start) (as_key q) found walking.ahead.0 still

    pub on : rest owner namespace (entries (with_writes base start)) (Some q) ≡ q ∷ rest owner namespace
        (entries (with_writes base start)) (and_then found (λ e. key_in owner namespace e.0))
    on =
        ap (λ qs. q ∷ qs) (ap (in_entries owner namespace)
        (head_after (with_writes base start) (as_key q) found still)
        ∙ found_so (entries (with_writes base start)) found begins)

    pub walked : Walking owner namespace base start (written w (as_key q) None)
        (and_then found (λ e. key_in owner namespace e.0))
    walked = record {
      left =
          λ es. ap (all_erased (rest owner namespace (entries (with_writes base start))
          (and_then found (λ e. key_in owner namespace e.0)))) (write_draft base w es q [])
          ∙ sym (ap (λ qs. all_erased qs (draft_of base w es)) on) ∙ walking.left es;
      ahead =
          ahead_so (with_writes base start) (with_writes base (written w (as_key q) None)) found begins
          (further (with_writes base start) (with_writes base (written w (as_key q) None)) (as_key q) found same still);
    }

  -- one turn of the walk
  module _ (base : Entries) (start w after : Writes) (next later : Option StateKey) (q : StateKey) (key : Key)
      (found : Option (Key × Entry)) (is : next ≡ Some q) (named : key ≡ as_key q) (made : after ≡ written w key None)
      (least : Least (with_writes base after) (is_after key) found)
      (told : later ≡ and_then found (λ e. key_in owner namespace e.0))
      (walking : Walking owner namespace base start w next) where
    here : Walking owner namespace base start w (Some q)
    here = subst (Walking owner namespace base start w) is walking

    done : after ≡ written w (as_key q) None
    done = made ∙ ap (λ k. written w k None) named

    least_next : Least (with_writes base (written w (as_key q) None)) (is_after (as_key q)) found
    least_next =
        subst (λ x. Least (with_writes base x) (is_after (as_key q)) found) done
        (subst (λ k. Least (with_writes base after) (is_after k) found) named least)

    pub turned_once : Walking owner namespace base start after later
    turned_once =
        subst (λ x. Walking owner namespace base start x later) (sym done)
        (subst (Walking owner namespace base start (written w (as_key q) None)) (sym told)
        (walked base start w q here found least_next))

    pub one_fewer : length (rest owner namespace (entries (with_writes base start)) later) < length
        (rest owner namespace (entries (with_writes base start)) next)
    one_fewer =
        let fewer : length (rest owner namespace (entries (with_writes base start)) next) ≡ suc
        (length (rest owner namespace (entries (with_writes base start)) later)) =
        ap (λ n. length (rest owner namespace (entries (with_writes base start)) n)) is
        ∙ ap length (on base start w q here found least_next)
        ∙ ap (λ n. suc (length (rest owner namespace (entries (with_writes base start)) n))) (sym told) in
        omega (arith, fewer)

  pub all_walked : (base : Entries) (start w : Writes) (next : Option StateKey) → next ≡ None →
      Walking owner namespace base start w next →
      (es : List Emission) → draft_of base w es ≡ emptied owner namespace (draft_of base start es)
  all_walked base start w next none walking es = (subst (Walking owner namespace base start w) none walking).left es
