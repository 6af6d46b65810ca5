-- All writes are made, or none.
use Rattle.std.proofs.Common.{◌≡◌, ◌∙◌, sym, ap, subst, refl, List, [], ◌∷◌, ◌++◌, Bool, true, false, cond, ◌||◌}
use Rattle.std.proofs.Common.{Option, Some, None, IsSome, is_some, MatchOption}
use Rattle.std.proofs.lemmas.Bool.{or_from as neither_of}
use Rattle.std.proofs.lemmas.Bool.{or_parts as neither}
use Rattle.std.proofs.lemmas.Bool.{or_right as last_way}
use Rattle.std.proofs.lemmas.Bool.{or_left as either_way}
use Rattle.std.specs.List.{list_any}
use Rattle.std.specs.FinMap.{get, remove, find, from_entries, entries, get-remove, get-entries, get-from_entries}
use Rattle.std.specs.FinMap.{same_map}
use Rattle.hk_state.specs.declared.key.Key.{Key}
use Rattle.hk_state.specs.declared.entry.Entry.{Entry}
use Rattle.hk_state.specs.Keys.{key_cmp, is_key, keys_total, exact_keys, itself, exact}
use Rattle.hk_state.specs.Entries.{Entries, write, with_all, change_or, get-write, get-with_all}
use Rattle.hk_state.specs.Room.{Adds, IsReady, AddsOne, is_put, is_entry}
use Rattle.hk_state.specs.Writes.{with_writes, AddsKey}

any_last : (q k : Key) (ks : List Key) → list_any (is_key q) (ks ++ k ∷ []) ≡ (list_any (is_key q) ks || is_key q k)
any_last q k [] = or_none (is_key q k)
  where
    or_none : (b : Bool) → (b || false) ≡ b
    or_none true = refl
    or_none false = refl
any_last q k (x ∷ xs) =
    ap (λ b. is_key q x || b) (any_last q k xs) ∙ regroup (is_key q x) (list_any (is_key q) xs) (is_key q k)
  where
    regroup : (a b c : Bool) → (a || (b || c)) ≡ ((a || b) || c)
    regroup true b c = refl
    regroup false b c = refl

apart : (q k : Key) (ks : List Key) → list_any (is_key q) (ks ++ k ∷ []) ≡ false →
    (list_any (is_key q) ks ≡ false) × (is_key q k ≡ false)
apart q k ks h = neither (list_any (is_key q) ks) (is_key q k) (sym (any_last q k ks) ∙ h)

-- a key of a list is one of the first ones or the last one
module _ (P : Type 0) (q k : Key) (ks : List Key) (first : list_any (is_key q) ks ≡ true → P) (last : q ≡ k → P) where
  one_of : list_any (is_key q) (ks ++ k ∷ []) ≡ true → P
  one_of h =
      elim (list_any (is_key q) ks) as (λ b. list_any (is_key q) ks ≡ b → P) [
        | true ↦ first
        | false ↦ λ none. last (exact q k (sym (ap (λ b. b || is_key q k) none) ∙ sym (any_last q k ks) ∙ h))
      ] refl

pub adds_none : (base : Entries) (puts : Key → Bool) → Adds base puts base []
adds_none base puts = record { kept = λ q h. refl; fresh = λ q h. cc; among = λ q h. cc }

pub adds_more : (base m n : Entries) (puts : Key → Bool) (ks : List Key) (k : Key) → puts k ≡ true → get m k ≡ None →
    ((q : Key) → is_key q k ≡ false → get n q ≡ get m q) → Adds base puts m ks → Adds base puts n (ks ++ k ∷ [])
adds_more base m n puts ks k put absent others adds =
    let new : get base k ≡ None =
    elim (list_any (is_key k) ks) as (λ b. list_any (is_key k) ks ≡ b → get base k ≡ None) [
      | true ↦ adds.fresh k
      | false ↦ λ none. sym (adds.kept k none) ∙ absent
    ] refl in
    record {
      kept = λ q h. let a = apart q k ks h in others q a.1 ∙ adds.kept q a.0;
      fresh = λ q h. one_of (get base q ≡ None) q k ks (adds.fresh q) (λ same. ap (get base) same ∙ new) h;
      among = λ q h. one_of (puts q ≡ true) q k ks (adds.among q) (λ same. ap puts same ∙ put) h;
    }

-- the last key is taken out
pub adds_less : (base m : Entries) (puts : Key → Bool) (ks : List Key) (k : Key) → Adds base puts m (ks ++ k ∷ []) →
    Adds base puts (remove m k) ks
adds_less base m puts ks k adds =
    let more =
    λ (q : Key) (h : list_any (is_key q) ks ≡ true).
    any_last q k ks ∙ either_way (list_any (is_key q) ks) (is_key q k) h in
    record {
      kept =
          λ q h.
          get-remove keys_total m k q
          ∙ elim (is_key q k) as (λ b. is_key q k ≡ b → cond b None (get m q) ≡ get base q) [
            | true ↦ λ is. sym (adds.fresh q (any_last q k ks ∙ last_way (list_any (is_key q) ks) (is_key q k) is))
            | false ↦ λ is. adds.kept q (any_last q k ks ∙ neither_of (list_any (is_key q) ks) (is_key q k) h is)
          ] refl;
      fresh = λ q h. adds.fresh q (more q h);
      among = λ q h. adds.among q (more q h);
    }

pub adds_nothing : (base m : Entries) (puts : Key → Bool) → Adds base puts m [] → m ≡ base
adds_nothing base m puts adds = same_map keys_total exact_keys m base (λ q. adds.kept q refl)

both_entries : (found : Option (Option Entry)) (a b : Option Entry) → is_entry found ≡ true →
    change_or found a ≡ change_or found b
both_entries None a b h = cc
both_entries (Some None) a b h = cc
both_entries (Some (Some e)) a b h = refl

-- the placeholders don't show once all writes are made
pub readied : (base m : Entries) (added : List Key) (ws : List (Key × Option Entry)) → Adds base (is_put ws) m added →
    with_all m ws ≡ with_all base ws
readied base m added ws adds = same_map keys_total exact_keys _ _ (λ q.
    get-with_all m ws q
    ∙ elim (list_any (is_key q) added) as (λ b.
    list_any (is_key q) added ≡ b →
    change_or (find key_cmp q ws) (get m q) ≡ change_or (find key_cmp q ws) (get base q)) [
      | true ↦ λ is. both_entries (find key_cmp q ws) (get m q) (get base q) (adds.among q is)
      | false ↦ λ none. ap (change_or (find key_cmp q ws)) (adds.kept q none)
    ] refl
    ∙ sym (get-with_all base ws q))

-- what a walk over the writes has made ready, but for those that are left
pub record IsReadyBut (m : Entries) (ws rest : List (Key × Option Entry)) : Type 0 where
  pub given : (q : Key) → is_put ws q ≡ true → list_any (λ w. is_key q w.0) rest ≡ false → IsSome (get m q)

none_found : (q : Key) (ws : List (Key × Option Entry)) → list_any (λ w. is_key q w.0) ws ≡ false →
    is_put ws q ≡ false
none_found q [] h = refl
none_found q (w ∷ ws) h =
    let none = neither (is_key q w.0) (list_any (λ x. is_key q x.0) ws) h in
    ap (λ b. is_entry (cond b (Some w.1) (find key_cmp q ws))) none.0 ∙ none_found q ws none.1

pub all_left : (m : Entries) (ws rest : List (Key × Option Entry)) → rest ≡ ws → IsReadyBut m ws rest
all_left m ws rest same = record {
  given = λ q put none. let fails = none_found q ws (ap (list_any (λ w. is_key q w.0)) (sym same) ∙ none) in cc;
}

pub none_left : (m : Entries) (ws rest : List (Key × Option Entry)) → rest ≡ [] → IsReadyBut m ws rest → IsReady m ws
none_left m ws rest none ready q put = ready.given q put (ap (list_any (λ w. is_key q w.0)) none)

pub one_readied : (m n : Entries) (ws rest more : List (Key × Option Entry)) (k : Key) (c : Option Entry) →
    rest ≡ (k, c) ∷ more → (is_put ws k ≡ true → IsSome (get n k)) →
    ((q : Key) → IsSome (get m q) → IsSome (get n q)) → IsReadyBut m ws rest → IsReadyBut n ws more
one_readied m n ws rest more k c left there stays ready = record {
  given = λ q put none.
      elim (is_key q k) as (λ b. is_key q k ≡ b → IsSome (get n q)) [
        | true ↦
            λ is.
            let same = exact q k is in
            subst (λ p. IsSome (get n p)) (sym same) (there (ap (is_put ws) (sym same) ∙ put))
        | false ↦
            λ fails.
            stays q (ready.given q put
            (ap (list_any (λ w. is_key q w.0)) left
            ∙ neither_of (is_key q k) (list_any (λ w. is_key q w.0) more) fails none))
      ] refl;
}

-- the last change of a list is made first
pub all_last : (m : Entries) (ws : List (Key × Option Entry)) (w : Key × Option Entry) →
    with_all m (ws ++ w ∷ []) ≡ with_all (write m w.0 w.1) ws
all_last m [] w = refl
all_last m (v ∷ ws) w = ap (λ n. write n v.0 v.1) (all_last m ws w)

found_first : (q : Key) (ws : List (Key × Option Entry)) (w : Key × Option Entry) → is_put ws q ≡ true →
    is_put (ws ++ w ∷ []) q ≡ true
found_first q [] w h = cc
found_first q (v ∷ ws) w h =
    elim (is_key q v.0) as (λ b.
    is_entry (cond b (Some v.1) (find key_cmp q ws)) ≡ true →
    is_entry (cond b (Some v.1) (find key_cmp q (ws ++ w ∷ []))) ≡ true) [
      | true ↦ λ is. is
      | false ↦ λ later. found_first q ws w later
    ] h

found_last : (k : Key) (ws : List (Key × Option Entry)) (e : Entry) → find key_cmp k ws ≡ None →
    is_put (ws ++ (k, Some e) ∷ []) k ≡ true
found_last k [] e h = ap (λ b. is_entry (cond b (Some (Some e)) None)) (itself k)
found_last k (v ∷ ws) e h =
    elim (is_key k v.0) as (λ b.
    cond b (Some v.1) (find key_cmp k ws) ≡ None →
    is_entry (cond b (Some v.1) (find key_cmp k (ws ++ (k, Some e) ∷ []))) ≡ true) [
      | true ↦ λ bad. cc
      | false ↦ λ none. found_last k ws e none
    ] h

-- the last of distinct writes can be made
pub ready_one : (m : Entries) (ws all : List (Key × Option Entry)) (k : Key) (c : Option Entry) →
    all ≡ ws ++ (k, c) ∷ [] → find key_cmp k ws ≡ None → IsReady m all →
    MatchOption c (Unit {0}) (λ _. IsSome (get m k))
ready_one m ws all k None whole none ready = tt
ready_one m ws all k (Some e) whole none ready = ready k (ap (λ xs. is_put xs k) whole ∙ found_last k ws e none)

-- and then the others
pub ready_rest : (m n : Entries) (ws all : List (Key × Option Entry)) (k : Key) (c : Option Entry) →
    all ≡ ws ++ (k, c) ∷ [] → find key_cmp k ws ≡ None → n ≡ write m k c → IsReady m all → IsReady n ws
ready_rest m n ws all k c whole none made ready q put =
    subst (λ p. IsSome (get p q)) (sym made)
    (subst IsSome (sym (get-write m k c q))
    (elim (is_key q k) as (λ b. is_key q k ≡ b → IsSome (cond b c (get m q))) [
      | true ↦ λ is. let fails : is_put ws q ≡ false = ap (is_put ws) (exact q k is) ∙ ap is_entry none in cc
      | false ↦ λ fails. ready q (ap (λ xs. is_put xs q) whole ∙ found_first q ws (k, c) put)
    ] refl))

pub one_made : (m n : Entries) (ws all : List (Key × Option Entry)) (k : Key) (c : Option Entry) →
    all ≡ ws ++ (k, c) ∷ [] → n ≡ write m k c → with_all n ws ≡ with_all m all
one_made m n ws all k c whole made =
    ap (λ p. with_all p ws) made ∙ sym (all_last m ws (k, c)) ∙ ap (with_all m) (sym whole)

-- a list of writes and the map that it makes
pub as_writes : (m : Entries) (ws : List (Key × Option Entry)) (listed : List Key) →
    with_all m ws ≡ with_writes m (record { changes = from_entries ws; listed = listed })
as_writes m ws listed = same_map keys_total exact_keys _ _ (λ q.
    get-with_all m ws q
    ∙ ap (λ found. change_or found (get m q))
    (sym (get-from_entries keys_total ws q) ∙ get-entries (from_entries {R = key_cmp} ws) q)
    ∙ sym (get-with_all m (entries (from_entries {R = key_cmp} ws)) q))

entry_of : (found : Option (Option Entry)) → is_entry found ≡ true → (e : Entry) × (found ≡ Some (Some e))
entry_of None h = cc
entry_of (Some None) h = cc
entry_of (Some (Some e)) h = (e, refl)

pub as_cause : (m : Entries) (ws : List (Key × Option Entry)) (listed : List Key) → AddsOne m ws →
    AddsKey m (record { changes = from_entries ws; listed = listed })
as_cause m ws listed adds =
    let put = entry_of (find key_cmp adds.key ws) adds.put in
    record {
      key = adds.key;
      entry = put.0;
      put = get-from_entries keys_total ws adds.key ∙ put.1;
      absent = adds.absent;
    }

-- a key that isn't there now was not there before
pub absent_before : (base m : Entries) (puts : Key → Bool) (added : List Key) (k : Key) → Adds base puts m added →
    get m k ≡ None → get base k ≡ None
absent_before base m puts added k adds absent =
    elim (list_any (is_key k) added) as (λ b. list_any (is_key k) added ≡ b → get base k ≡ None) [
      | true ↦ adds.fresh k
      | false ↦ λ none. sym (adds.kept k none) ∙ absent
    ] refl

-- whether the change that a key has is an entry
pub is_written : (ws : List (Key × Option Entry)) (k : Key) (c : Option Entry) → find key_cmp k ws ≡ Some c →
    is_some c ≡ true → is_put ws k ≡ true
is_written ws k None found some = cc
is_written ws k (Some e) found some = ap is_entry found

pub not_written : (ws : List (Key × Option Entry)) (k : Key) (c : Option Entry) → find key_cmp k ws ≡ Some c →
    is_some c ≡ false → is_put ws k ≡ false
not_written ws k None found none = ap is_entry found
not_written ws k (Some e) found none = cc

pub never : {P : Type 0} (b : Bool) → b ≡ false → b ≡ true → P
never b fails holds = let differ : false ≡ true = sym fails ∙ holds in cc
