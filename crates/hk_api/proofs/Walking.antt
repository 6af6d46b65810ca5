-- Walks over the entries of one kind, and over those of one account.
use Rattle.std.proofs.Common.{◌≡◌, ◌∙◌, ℕ, ◌+◌, ◌-◌, ◌^◌, ◌<◌, min, sym, ap, refl, arith, Bool, true, false}
use Rattle.std.proofs.Common.{if◌then◌else◌, List, [], ◌∷◌, length, Option}
use Rattle.std.specs.declared.cmp.Ordering.TheVariants.{Less}
use Rattle.std.specs.List.{find}
use Rattle.std.proofs.lemmas.Bool.{and_parts}
use Rattle.std.specs.FinMap.{entries}
use Rattle.hk_state.specs.declared.key.Key.{Key}
use Rattle.hk_state.specs.declared.key.Key.TheVariants.{Account, Install, Definition, State, Emitted, Other}
use Rattle.hk_state.specs.declared.entry.Entry.{Entry}
use Rattle.hk_state.specs.Keys.{key_cmp}
use Rattle.hk_state.specs.Entries.{Entries}
use Rattle.hk_state.specs.Least.{Least, is_from}
use Rattle.hk_state.specs.Reserves.{is_own}
use Rattle.hk_state.proofs.Owned.{inside, and_last, but_last, together}
use Rattle.hk_state.proofs.Walks.{run, on_from, head_from, own_in}
use Rattle.hk_api.specs.Keylets.{are_alike, is_of, has_index, listed, entry_at}

alike_later : (start k q : Key) → is_from start k ≡ true → are_alike start k ≡ false → key_cmp k q ≡ Less →
    are_alike start q ≡ false
alike_later (Account a) (Account d) (Account b) le not lt = cc
alike_later (Account a) (Install d n) (Account b) le not lt = cc
alike_later (Account a) (Definition h) (Account b) le not lt = cc
alike_later (Account a) (State d p r) (Account b) le not lt = cc
alike_later (Account a) (Emitted n) (Account b) le not lt = cc
alike_later (Account a) (Other bytes) (Account b) le not lt = cc
alike_later (State a i j) (Account d) (State b s t) le not lt = cc
alike_later (State a i j) (Install d n) (State b s t) le not lt = cc
alike_later (State a i j) (Definition h) (State b s t) le not lt = cc
alike_later (State a i j) (State d p r) (State b s t) le not lt = cc
alike_later (State a i j) (Emitted n) (State b s t) le not lt = cc
alike_later (State a i j) (Other bytes) (State b s t) le not lt = cc
alike_later start k q le not lt = refl

together_of : (start k q : Key) → is_from start k ≡ true → is_of start k ≡ false → key_cmp k q ≡ Less →
    is_of start q ≡ false
together_of start k q le not lt =
    and_last (is_from start q) (are_alike start q)
    (alike_later start k q le (but_last (is_from start k) (are_alike start k) not le) lt)

-- an entry that passes, and those after it; and one that doesn't
pub run_one : (own : Key → Bool) (k : Key) (e : Entry) (es : List (Key × Entry)) → own k ≡ true →
    run own ((k, e) ∷ es) ≡ (k, e) ∷ run own es
run_one own k e es is = ap (λ b. if b then (k, e) ∷ run own es else []) is

pub run_none : (own : Key → Bool) (k : Key) (e : Entry) (es : List (Key × Entry)) → own k ≡ false →
    run own ((k, e) ∷ es) ≡ []
run_none own k e es not = ap (λ b. if b then (k, e) ∷ run own es else []) not

module _ (m : Entries) (start : Key) (found : Option (Key × Entry)) (least : Least m (is_from start) found) where
  pub owned_from : listed (is_own start) m ≡ run (is_own start) (on_from (entries m) found)
  owned_from =
      own_in (is_own start) (is_from start) (inside start) (together start) m
      ∙ ap (run (is_own start)) (head_from m start found least)

  listed_from : listed (is_of start) m ≡ run (is_of start) (on_from (entries m) found)
  listed_from =
      own_in (is_of start) (is_from start) (λ k h. (and_parts (is_from start k) (are_alike start k) h).0)
      (together_of start) m
      ∙ ap (run (is_of start)) (head_from m start found least)

  pub found_from : (index : List ℕ) →
      find (λ e. has_index index e.0) (run (is_of start) (on_from (entries m) found)) ≡ entry_at m start index
  unfolding entry_at
  found_from index = ap (find (λ e. has_index index e.0)) (sym listed_from)

-- a count that has come to its end
pub counted_end : (count all : ℕ) (rest : List (Key × Entry)) → count < 2 ^ 32 → rest ≡ [] →
    min (count + length rest) (2 ^ 32 - 1) ≡ min all (2 ^ 32 - 1) → count ≡ min all (2 ^ 32 - 1)
counted_end count all rest fits none is = let empty = ap length none in omega (arith, fits, empty, is)
