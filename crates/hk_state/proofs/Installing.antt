-- Where an account's next hook stands.
use Rattle.std.proofs.Common.{◌≡◌, ◌≢◌, ◌∙◌, ℕ, ◌+◌, ◌≤◌, ◌<◌, arith, refl, sym, ap, ap₂, subst, true, false, ◌&&◌}
use Rattle.std.proofs.Common.{List, Option, Some, None}
use Rattle.std.specs.declared.cmp.Ordering.{Ordering}
use Rattle.std.specs.declared.cmp.Ordering.TheVariants.{Less, Equal, Greater}
use Rattle.std.specs.Ordering.{nat_cmp, is_eq, is_le, ordering_reverse, ordering_then, MatchOrdering}
use Rattle.std.specs.Cmp.{ranks, nat_cmp_is}
use Rattle.std.specs.Cmp.Lexicographic.{same_text}
use Rattle.std.specs.Str.{bytes_eq}
use Rattle.std.specs.FinMap.{get}
use Rattle.std.proofs.lemmas.Bool.{and_parts}
use Rattle.std.proofs.lemmas.Cmp.{tied_itself}
use Rattle.std.proofs.lemmas.Map.Keys.{le_from_is_le}
use Rattle.std.proofs.lemmas.Map.Text.{is_eq-slice_cmp}
use Rattle.hk_base.specs.declared.ids.AccountId.{AccountId}
use Rattle.hk_state.specs.declared.key.Key.{Key}
use Rattle.hk_state.specs.declared.key.Key.TheVariants.{Install, Other}
use Rattle.hk_state.specs.declared.entry.Entry.{Entry}
use Rattle.hk_state.specs.Keys.{key_cmp, keys_total, exact}
use Rattle.hk_state.specs.Entries.{Entries}
use Rattle.hk_state.specs.Installs.{IsFirst, IsNext}
use Rattle.hk_state.specs.Least.{Least, is_from}
use Rattle.hk_state.specs.Reserves.{is_own}
use Rattle.hk_state.proofs.Owned.{together}

-- the converse of std's `le_from_is_le`
pub is_le_from_le : (m n : ℕ) → m ≤ n → is_le (nat_cmp m n) ≡ true
is_le_from_le m n le = at (nat_cmp m n) (ranks m n)
  where
    at : (order : Ordering) → MatchOrdering order (m < n) (m ≡ n) (n < m) → is_le order ≡ true
    at Less rank = refl
    at Equal rank = refl
    at Greater rank = absurd (omega (arith, rank, le))

-- two Installs of one account compare by their positions
by_positions : (id : AccountId) (m n : ℕ) → key_cmp (Install id m) (Install id n) ≡ nat_cmp m n
by_positions id m n = ap (λ order. ordering_then order (nat_cmp m n)) (tied_itself keys_total (Other id.0))

pub from_position : (id : AccountId) (m n : ℕ) → m ≤ n → is_from (Install id m) (Install id n) ≡ true
from_position id m n le = ap is_le (by_positions id m n) ∙ is_le_from_le m n le

below_position : (id : AccountId) (m n : ℕ) → m < n → key_cmp (Install id m) (Install id n) ≡ Less
below_position id m n lt = by_positions id m n ∙ sym (nat_cmp_is m n Less lt)

same_bytes : (a : List ℕ) → bytes_eq a a ≡ true
same_bytes a = sym (is_eq-slice_cmp a a) ∙ ap is_eq (tied_itself keys_total (Other a))

own_position : (id : AccountId) (m n : ℕ) → m ≤ n → is_own (Install id m) (Install id n) ≡ true
own_position id m n le = ap₂ (λ a b. a && b) (from_position id m n le) (same_bytes id.0)

module _ (m : Entries) (id : AccountId) (from : ℕ) where
  -- no entry is from the first key on
  pub none_at_all : Least m (is_from (Install id from)) None → IsNext m id from None
  none_at_all least = λ p le. least (Install id p) (from_position id from p le)

  -- the entry that was found isn't of the account's Installs
  pub none_own : (k : Key) (e : Entry) → Least m (is_from (Install id from)) (Some (k, e)) →
      is_own (Install id from) k ≡ false → IsNext m id from None
  none_own k e least not = λ p le. at p le (key_cmp k (Install id p)) refl
    where
      own : (p : ℕ) → from ≤ p → is_own (Install id from) (Install id p) ≡ false → ⊥
      own p le not_own = let differ : true ≡ false = sym (own_position id from p le) ∙ not_own in cc

      at : (p : ℕ) → from ≤ p → (order : Ordering) → key_cmp k (Install id p) ≡ order → get m (Install id p) ≡ None
      at p le Less lt = absurd (own p le (together (Install id from) k (Install id p) least.passes not lt))
      at p le Equal tie =
          absurd (own p le (ap (is_own (Install id from)) (sym (exact k (Install id p) (ap is_eq tie))) ∙ not))
      at p le Greater gt =
          least.none_before (Install id p) (from_position id from p le)
          (keys_total.antisymm (Install id p) k ∙ ap ordering_reverse gt)

  -- it is one of them
  pub found_own : (owner : AccountId) (position : ℕ) (e : Entry) →
      Least m (is_from (Install id from)) (Some (Install owner position, e)) →
      is_own (Install id from) (Install owner position) ≡ true → IsNext m id from (Some position)
  found_own owner position e least own =
      let same : id ≡ owner = (λ i. record { 0 = same_text id.0 owner.0 (sym (last own)) i }) in
      first (subst (λ o. Least m (is_from (Install id from)) (Some (Install o position, e))) (sym same) least)
    where
      last : is_own (Install id from) (Install owner position) ≡ true → bytes_eq id.0 owner.0 ≡ true
      last h = (and_parts (is_from (Install id from) (Install owner position)) (bytes_eq id.0 owner.0) h).1

      first : Least m (is_from (Install id from)) (Some (Install id position, e)) → IsFirst m id from position
      first least = record {
        from_there = le_from_is_le from position (sym (ap is_le (by_positions id from position)) ∙ least.passes);
        there = λ none. let differ : Some e ≡ None = sym least.there ∙ none in cc;
        none_before = λ p le lt. least.none_before (Install id p) (from_position id from p le)
            (below_position id p position lt);
      }

-- nothing is there up to the next one
module _ (m : Entries) (id : AccountId) (from : ℕ) where
  none_first : (position : ℕ) → IsFirst m id from position → from < position →
      (get m (Install id from) ≡ None) × IsNext m id (from + 1) (Some position)
  none_first position first lt = (
    first.none_before from (omega arith) lt,
    record {
      from_there = omega (arith, lt);
      there = first.there;
      none_before = λ p le below. first.none_before p (omega (arith, le)) below;
    },
  )

  pub none_yet : (next : Option ℕ) → IsNext m id from next → next ≢ Some from →
      (get m (Install id from) ≡ None) × IsNext m id (from + 1) next
  none_yet None none other = (none from (omega arith), λ p le. none p (omega (arith, le)))
  none_yet (Some position) first other = either (nat_cmp from position) (ranks from position)
    where
      either : (order : Ordering) → MatchOrdering order (from < position) (from ≡ position) (position < from) →
          (get m (Install id from) ≡ None) × IsNext m id (from + 1) (Some position)
      either Less rank = none_first position first rank
      either Equal rank = absurd (other (ap Some (sym rank)))
      either Greater rank = let there = first.from_there in absurd (omega (arith, rank, there))
