-- The walk over the numbers of the queue.
use Rattle.std.proofs.Common.{◌≡◌, ◌∙◌, ℕ, ◌+◌, ◌≤◌, ◌<◌, true, false, arith, refl, sym, ap, Option, Some, None}
use Rattle.std.specs.declared.cmp.Ordering.{Ordering}
use Rattle.std.specs.declared.cmp.Ordering.TheVariants.{Less, Equal, Greater}
use Rattle.std.specs.Ordering.{nat_cmp, MatchOrdering}
use Rattle.std.specs.Cmp.{ranks, nat_cmp_is}
use Rattle.std.specs.FinMap.{get}
use Rattle.std.proofs.lemmas.Map.Keys.{le_from_is_le}
use Rattle.hk_state.specs.declared.entry.Entry.{Entry}
use Rattle.hk_state.specs.declared.key.Key.{Key}
use Rattle.hk_state.specs.declared.key.Key.TheVariants as key
use Rattle.hk_state.specs.Keys.{key_cmp}
use Rattle.hk_state.specs.Least.{Least, LeastOf, IsLeast, is_from}
use Rattle.hk_state.specs.Ledger.{LedgerValue}
use Rattle.hk_state.proofs.Installing.{is_le_from_le}
use Rattle.hk_events.specs.Laws.{DueAt}
use Rattle.hk_events.specs.Settled.{is_due, passes}
use Rattle.hk_settle.specs.Due.{IsNext, NoneFrom}

from_number : (next n : ℕ) → next ≤ n → is_from (key.Emitted next) (key.Emitted n) ≡ true
from_number = is_le_from_le

number_from : (next n : ℕ) → is_from (key.Emitted next) (key.Emitted n) ≡ true → next ≤ n
number_from = le_from_is_le

number_less : (n number : ℕ) → n < number → key_cmp (key.Emitted n) (key.Emitted number) ≡ Less
number_less n number h = sym (nat_cmp_is n number Less h)

-- none is due from the first number up to this one
pub record Ahead (ledger : LedgerValue) (from next : ℕ) : Type 0 where
  pub behind : from ≤ next
  pub none : (n : ℕ) → from ≤ n → n < next → DueAt ledger n → ⊥

pub ahead_first : (ledger : LedgerValue) (from : ℕ) → Ahead ledger from from
ahead_first ledger from = record { behind = omega arith; none = λ n low high due. absurd (omega (arith, low, high)) }

module _ (ledger : LedgerValue) (from next : ℕ) (ahead : Ahead ledger from next) where
  abbrev IsFound : Key → Entry → Type 0
  IsFound k x = IsLeast (get ledger.entries) (is_from (key.Emitted next)) k x

  nothing_due : (n : ℕ) → get ledger.entries (key.Emitted n) ≡ None → DueAt ledger n → ⊥
  nothing_due n none due =
      let bad : false ≡ true = sym (ap (passes (is_due ledger.header.seq)) none) ∙ due in cc

  pub found_behind : (number : ℕ) (x : Entry) → IsFound (key.Emitted number) x → from ≤ number
  found_behind number x found =
      let one = ahead.behind in let two = number_from next number found.passes in omega (arith, one, two)

  below : (number : ℕ) (x : Entry) → IsFound (key.Emitted number) x → (n : ℕ) → from ≤ n → n < number →
      DueAt ledger n → ⊥
  below number x found n low high =
      let early : n < next → DueAt ledger n → ⊥ = ahead.none n low in
      let late : next ≤ n → DueAt ledger n → ⊥ =
      (λ h. nothing_due n (found.none_before (key.Emitted n) (from_number next n h) (number_less n number high))) in
      by_order n (n < next) early late
    where
      by_order : (n : ℕ) (P : Type 0) → (n < next → DueAt ledger n → ⊥) → (next ≤ n → DueAt ledger n → ⊥) →
          DueAt ledger n → ⊥
      by_order n P early late due = either (nat_cmp n next) (ranks n next)
        where
          either : (o : Ordering) → MatchOrdering o (n < next) (n ≡ next) (next < n) → ⊥
          either Less r = early r due
          either Equal r = late (omega (arith, r)) due
          either Greater r = late (omega (arith, r)) due

  pub next_found : (number : ℕ) (x : Entry) → IsFound (key.Emitted number) x → is_due ledger.header.seq x ≡ true →
      IsNext ledger from number
  next_found number x found due = record {
    behind = found_behind number x found;
    due = ap (passes (is_due ledger.header.seq)) found.there ∙ due;
    least = below number x found;
  }

  pub ahead_more : (number : ℕ) (x : Entry) → IsFound (key.Emitted number) x → is_due ledger.header.seq x ≡ false →
      Ahead ledger from (number + 1)
  ahead_more number x found not = record {
    behind = let low = found_behind number x found in omega (arith, low);
    none = λ n low high. at_most n low high (nat_cmp n number) (ranks n number);
  }
    where
      at_most : (n : ℕ) → from ≤ n → n < number + 1 → (o : Ordering) →
          MatchOrdering o (n < number) (n ≡ number) (number < n) → DueAt ledger n → ⊥
      at_most n low high Less r due = below number x found n low r due
      at_most n low high Equal r due =
          let here : passes (is_due ledger.header.seq) (get ledger.entries (key.Emitted number)) ≡ false =
          ap (passes (is_due ledger.header.seq)) found.there ∙ not in
          let bad : false ≡ true =
          sym here
          ∙ ap (λ m. passes (is_due ledger.header.seq) (get ledger.entries (key.Emitted m))) (sym r)
          ∙ due in cc
      at_most n low high Greater r due = absurd (omega (arith, r, high))

  -- no number stands from here on
  none_behind : ((n : ℕ) → next ≤ n → get ledger.entries (key.Emitted n) ≡ None) → NoneFrom ledger from
  none_behind none n low due = either (nat_cmp n next) (ranks n next)
    where
      either : (o : Ordering) → MatchOrdering o (n < next) (n ≡ next) (next < n) → ⊥
      either Less r = ahead.none n low r due
      either Equal r = nothing_due n (none n (omega (arith, r))) due
      either Greater r = nothing_due n (none n (omega (arith, r))) due

  -- what is found is of no other kind, or of one behind all numbers
  other_behind : (k : Key) (x : Entry) → IsFound k x → ((number : ℕ) → k ≡ key.Emitted number → ⊥) →
      NoneFrom ledger from
  other_behind (key.Other bytes) x found not =
      none_behind (λ n h. found.none_before (key.Emitted n) (from_number next n h) refl)
  other_behind (key.Emitted number) x found not = absurd (not number refl)
  other_behind (key.Account id) x found not = let bad = found.passes in cc
  other_behind (key.Install owner position) x found not = let bad = found.passes in cc
  other_behind (key.Definition hash) x found not = let bad = found.passes in cc
  other_behind (key.State owner namespace k) x found not = let bad = found.passes in cc

  pub none_found : (found : Option (Key × Entry)) → Least ledger.entries (is_from (key.Emitted next)) found →
      ((number : ℕ) (x : Entry) → found ≡ Some (key.Emitted number, x) → ⊥) → NoneFrom ledger from
  none_found None least not = none_behind (λ n h. least (key.Emitted n) (from_number next n h))
  none_found (Some (k, x)) least not =
      other_behind k x least (λ number is. not number x (ap (λ q. Some (q, x)) is))
