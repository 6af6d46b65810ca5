-- What the test that asks for a grant lets through.
use Rattle.std.proofs.Common.{◌≡◌, ℕ, ◌⊎◌, inl, inr, T, Bool, true, false, cond, ◌&&◌, List, [], ◌∷◌, refl, sym, ap}
use Rattle.std.proofs.Common.{◌∙◌, Option, Some, None}
use Rattle.std.specs.List.{list_any}
use Rattle.std.specs.Str.{bytes_eq}
use Rattle.std.specs.Ordering.{is_lt, is_eq}
use Rattle.std.specs.FinMap.{get, find, is_sorted, entries, get-entries, entries_sorted}
use Rattle.std.proofs.lemmas.Bool.{and_parts, or_cases}
use Rattle.std.proofs.lemmas.Slice.Eq.{bytes_eq-Decides}
use Rattle.hk_base.specs.declared.ids.AccountId.{AccountId}
use Rattle.hk_base.specs.declared.ids.Hash256.{Hash256}
use Rattle.xo_object.specs.declared.transaction.Grant.{Grant}
use Rattle.hk_state.specs.declared.entry.Entry.{Entry}
use Rattle.hk_state.specs.declared.entry.Entry.TheVariants as entry
use Rattle.hk_state.specs.declared.key.Key.{Key}
use Rattle.hk_state.specs.declared.key.Key.TheVariants as key
use Rattle.hk_state.specs.Keys.{key_cmp, is_key, itself, exact}
use Rattle.hk_state.specs.Entries.{Entries}
use Rattle.hk_state.specs.Grants.{is_for, is_granted, has_grant, may_write}
use Rattle.hk_state.specs.Reserves.{first_install, is_own, are_beside}
use Rattle.hk_state.specs.Least.{is_from}
use Rattle.hk_state.specs.Sums.{less}
use Rattle.hk_state.proofs.Leasts.{below, first, second}
use Rattle.hk_draft.specs.Lists.{SomeOf}
use Rattle.hk_draft.specs.Writers.{Grants, IsGranted, MayWrite}

pub same_account : (a b : AccountId) → bytes_eq a.0 b.0 ≡ true → a ≡ b
same_account a b h = ap (λ bytes. record { 0 = bytes }) ((bytes_eq-Decides a.0 b.0).0 h)

same_hash : (a b : Hash256) → bytes_eq a.0 b.0 ≡ true → a ≡ b
same_hash a b h = ap (λ bytes. record { 0 = bytes }) ((bytes_eq-Decides a.0 b.0).0 h)

for_means : (actor : AccountId) (account : Option AccountId) → is_for actor account ≡ true →
    (account ≡ None) ⊎ (account ≡ Some actor)
for_means actor None h = inl refl
for_means actor (Some account) h = inr (ap (λ id. Some id) (same_account account actor h))

grant_means : (hash : Hash256) (actor : AccountId) (grants : List Grant) →
    list_any (is_granted hash actor) grants ≡ true → SomeOf (Grants hash actor) grants
grant_means hash actor [] h = cc
grant_means hash actor (grant ∷ grants) h =
    elim (or_cases (is_granted hash actor grant) (list_any (is_granted hash actor) grants) h)
    as (λ _. SomeOf (Grants hash actor) (grant ∷ grants)) [
      | inl here ↦
          let parts = and_parts (bytes_eq grant.hash.0 hash.0) (is_for actor grant.account) here in
          inl (record { hash_is = same_hash grant.hash hash parts.0; account = for_means actor grant.account parts.1 })
      | inr later ↦ inr (grant_means hash actor grants later)
    ]

-- an entry that passes a test
record Passes (test : Key × Entry → Bool) (es : List (Key × Entry)) : Type 0 where
  at : Key
  e : Entry
  there : find key_cmp at es ≡ Some e
  passes : test (at, e) ≡ true

absent : (k : Key) (es : List (Key × Entry)) → T (below k es) → find key_cmp k es ≡ None
absent k [] h = refl
absent k (x ∷ xs) h =
    ap (λ order. cond (is_eq order) (Some x.1) (find key_cmp k xs)) (less (key_cmp k x.0) (first _ _ h))
    ∙ absent k xs (second (is_lt (key_cmp k x.0)) _ h)

is_other : (x : Key × Entry) (xs : List (Key × Entry)) (k : Key) (e : Entry) → T (below x.0 xs) →
    find key_cmp k xs ≡ Some e → (b : Bool) → is_key k x.0 ≡ b → b ≡ false
is_other x xs k e low there false is = refl
is_other x xs k e low there true is =
    let differ : None ≡ Some e = sym (absent x.0 xs low) ∙ ap (λ q. find key_cmp q xs) (sym (exact k x.0 is)) ∙ there in
    cc

passing : (test : Key × Entry → Bool) (es : List (Key × Entry)) → T (is_sorted key_cmp es) → list_any test es ≡ true →
    Passes test es
passing test [] sorted h = cc
passing test (x ∷ xs) sorted h =
    elim (or_cases (test x) (list_any test xs) h) as (λ _. Passes test (x ∷ xs)) [
      | inl here ↦ record {
        at = x.0;
        e = x.1;
        there = ap (λ b. cond b (Some x.1) (find key_cmp x.0 xs)) (itself x.0);
        passes = here;
      }
      | inr later ↦
          let p = passing test xs (second (below x.0 xs) (is_sorted key_cmp xs) sorted) later in
          record {
            at = p.at;
            e = p.e;
            there =
                ap (λ b. cond b (Some x.1) (find key_cmp p.at xs)) (is_other x xs p.at p.e
                (first (below x.0 xs) (is_sorted key_cmp xs) sorted) p.there (is_key p.at x.0) refl)
                ∙ p.there;
            passes = p.passes;
          }
    ]

module _ (m : Entries) (hash : Hash256) (actor owner : AccountId) (namespace : Hash256) where
  granted_at : (k : Key) (e : Entry) → get m k ≡ Some e → are_beside (first_install owner) k ≡ true →
      has_grant hash actor namespace e ≡ true → IsGranted m hash actor owner namespace
  granted_at (key.Install id position) (entry.Install code on space parameters grants) there beside has =
      let parts = and_parts (bytes_eq space.0 namespace.0) (list_any (is_granted hash actor) grants) has in
      record {
        position = position;
        code = code;
        on = on;
        parameters = parameters;
        grants = grants;
        there =
            ap (λ a. get m (key.Install a position)) (same_account owner id beside) ∙ there
            ∙ ap (λ s. Some (entry.Install code on s parameters grants)) (same_hash space namespace parts.0);
        granted = grant_means hash actor grants parts.1;
      }
  granted_at (key.Install id position) e there beside has = cc
  granted_at k e there beside has = cc

  granted : Passes (λ e. is_own (first_install owner) e.0 && has_grant hash actor namespace e.1) (entries m) →
      IsGranted m hash actor owner namespace
  granted p =
      let parts = and_parts (is_own (first_install owner) p.at) (has_grant hash actor namespace p.e) p.passes in
      let own = and_parts (is_from (first_install owner) p.at) (are_beside (first_install owner) p.at) parts.0 in
      granted_at p.at p.e (get-entries m p.at ∙ p.there) own.1 parts.1

  pub may_write_means : may_write m hash actor owner namespace ≡ true → MayWrite m hash actor owner namespace
  may_write_means h =
      elim (or_cases (bytes_eq owner.0 actor.0)
      (list_any (λ e. is_own (first_install owner) e.0 && has_grant hash actor namespace e.1) (entries m)) h)
      as (λ _. MayWrite m hash actor owner namespace) [
        | inl own ↦ inl (same_account owner actor own)
        | inr some ↦ inr (granted (passing _ (entries m) (entries_sorted m) some))
      ]

-- a grant in one map is one in another with the same Installs
pub may_write_on : (m n : Entries) (hash : Hash256) (actor owner : AccountId) (namespace : Hash256) →
    ((id : AccountId) (position : ℕ) → get n (key.Install id position) ≡ get m (key.Install id position)) →
    MayWrite m hash actor owner namespace → MayWrite n hash actor owner namespace
may_write_on m n hash actor owner namespace same (inl own) = inl own
may_write_on m n hash actor owner namespace same (inr g) = inr (record {
  position = g.position;
  code = g.code;
  on = g.on;
  parameters = g.parameters;
  grants = g.grants;
  there = same owner g.position ∙ g.there;
  granted = g.granted;
})
