-- A write at a State key and an emission keep the limits of ledgers.
use Rattle.std.proofs.Common.{◌≡◌, ◌∙◌, sym, subst, refl, arith, ℕ, ◌+◌, ◌-◌, ◌*◌, ◌≤◌, ◌<◌, inl, inr, Bool, true}
use Rattle.std.proofs.Common.{false, cond, nat_lt, List, [], ◌∷◌, length, Option, Some, None}
use Rattle.std.specs.Option.{option_map_or}
use Rattle.std.specs.FinMap.{get}
use Rattle.std.proofs.lemmas.Bool.{and_cases, cases_order, ltb-false}
use Rattle.std.proofs.lemmas.List.{length-append}
use Rattle.std.proofs.lemmas.Option.{same_Some}
use Rattle.hk_base.specs.declared.ids.AccountId.{AccountId}
use Rattle.hk_emit.specs.declared.emission.Emission.{Emission}
use Rattle.hk_state.specs.declared.entry.Entry.{Entry}
use Rattle.hk_state.specs.declared.entry.Entry.TheVariants as entry
use Rattle.hk_state.specs.declared.entry.Holding.{Holding}
use Rattle.hk_state.specs.declared.key.StateKey.{StateKey}
use Rattle.hk_state.specs.Keys.{is_key, as_key}
use Rattle.hk_state.specs.Balances.{balances, held_most}
use Rattle.hk_state.specs.Entries.{Entries, write, get-write}
use Rattle.hk_state.specs.Holdings.{holding_at}
use Rattle.hk_state.specs.Reserves.{reserve, unit_reserve, units_in, units_of, first_state, is_own}
use Rattle.hk_state.specs.Sums.{sum, sum-write}
use Rattle.hk_draft.specs.Draft.{Draft, change_to, write_state, emits_too}
use Rattle.hk_draft.specs.Reads.{reads_emitted}
use Rattle.hk_draft.proofs.Extended.{extends_state}
use Rattle.hk_api.specs.States.{added_units, balance_at, lacks_reserve}
use Rattle.hk_api.proofs.Reserving.{counted, own_account, part_is}
use Rattle.hk_events.specs.Complete.{IsSized, AreSized, most_bytes}
use Rattle.hk_events.specs.Limits.{AreWithin, most_number}
use Rattle.hk_engine.specs.Kept.{KeepsLimits}

-- ---- sizes

-- what is put, if anything, is sized
abbrev SizedIfAny : Option Entry → Type 0
SizedIfAny change = (x : Entry) → change ≡ Some x → IsSized x

module _ (m : Entries) (q : StateKey) (change : Option Entry) (new : SizedIfAny change) (old : AreSized m) where
  sized_at : (p : StateKey) (x : Entry) (same : Bool) → cond same change (get m (as_key p)) ≡ Some x → IsSized x
  sized_at p x true is = new x is
  sized_at p x false is = old p x is

  write_sized : AreSized (write m (as_key q) change)
  write_sized p x at =
      sized_at p x (is_key (as_key p) (as_key q)) (sym (get-write m (as_key q) change (as_key p)) ∙ at)

bytes_sized : (bytes : List ℕ) → length bytes ≤ most_bytes → SizedIfAny (change_to bytes)
bytes_sized [] short x is = absurd (cc is)
bytes_sized (b ∷ bs) short x is = subst IsSized (same_Some (entry.State (b ∷ bs)) x is) (omega arith, short)

-- ---- reserves

-- a balance is no more than all of them
balance_most : (m : Entries) (id : AccountId) (found : Option Holding) → holding_at m id ≡ found →
    option_map_or (λ h. h.balance) found 0 ≤ balances m
balance_most m id None at = omega arith
balance_most m id (Some h) at = held_most m id h at

-- where the owner's balance reaches for the units that come, so do all drops
covered : (m : Entries) (owner : AccountId) (added most : ℕ) → lacks_reserve m owner added ≡ false →
    balances m ≤ most → 1 ≤ added → reserve m owner + unit_reserve * added ≤ most
unfolding lacks_reserve
covered m owner added most reaches sum some =
    elim (and_cases (nat_lt 0 added) (nat_lt (balance_at m owner) (reserve m owner + unit_reserve * added)) reaches)
    as (λ _. reserve m owner + unit_reserve * added ≤ most) [
      | inl none ↦ let few = ltb-false 0 added none in absurd (omega (arith, few, some))
      | inr enough ↦
          let has = ltb-false (balance_at m owner) (reserve m owner + unit_reserve * added) enough in
          let held = balance_most m owner (holding_at m owner) refl in
          omega (arith, has, held, sum)
    ]

-- from what an account owns before and after, and from what comes and goes at the key
reserve_after : (new old after now most : ℕ) → after + old ≡ now + new → 10000000 + 2000000 * now ≤ most →
    (1 ≤ new - old → 10000000 + 2000000 * now + 2000000 * (new - old) ≤ most) → 10000000 + 2000000 * after ≤ most
reserve_after new old after now most all before more =
    elim (cases_order old new) as (λ _. 10000000 + 2000000 * after ≤ most) [
      | inl same ↦ omega (arith, all, before, same)
      | inr (inl less) ↦ let top = more (omega (arith, less)) in omega (arith, all, top, less)
      | inr (inr above) ↦ omega (arith, all, before, above)
    ]

module _ (m : Entries) (q : StateKey) (change : Option Entry) (most : ℕ) (sums : balances m ≤ most)
    (reaches : lacks_reserve m q.owner
    (option_map_or units_in change 0 - option_map_or units_in (get m (as_key q)) 0) ≡ false)
    (within : AreWithin reserve most m) where
  abbrev added : ℕ
  added = option_map_or units_in change 0 - option_map_or units_in (get m (as_key q)) 0

  written_units : (id : AccountId) → sum (units_of id) (write m (as_key q) change)
      + counted (is_own (first_state id) (as_key q)) (get m (as_key q))
      ≡ sum (units_of id) m + counted (is_own (first_state id) (as_key q)) change
  written_units id =
      let all = sum-write (units_of id) m (as_key q) change in
      let old = part_is id q (get m (as_key q)) in
      let new = part_is id q change in
      omega (arith, all, old, new)

  within_at : (id : AccountId) (own : Bool) → is_own (first_state id) (as_key q) ≡ own →
      sum (units_of id) (write m (as_key q) change) + counted own (get m (as_key q))
      ≡ sum (units_of id) m + counted own change → reserve (write m (as_key q) change) id ≤ most
  within_at id false is all = let before = within id in omega (arith, all, before)
  within_at id true is all =
      let more = subst (λ owner. 1 ≤ added → reserve m owner + unit_reserve * added ≤ most)
      (sym (own_account id q is)) (covered m q.owner added most reaches sums) in
      reserve_after (option_map_or units_in change 0) (option_map_or units_in (get m (as_key q)) 0)
      (sum (units_of id) (write m (as_key q) change)) (sum (units_of id) m) most all (within id) more

  write_within : AreWithin reserve most (write m (as_key q) change)
  write_within id = within_at id (is_own (first_state id) (as_key q)) refl (written_units id)

-- ---- steps

pub limits_itself : (next : ℕ) (a : Draft) → KeepsLimits next a a
limits_itself next a =
    record { sizes = λ sized. sized; sum = refl; reserves = λ most sum within. within; room = λ room. room }

pub limits_further : (next : ℕ) (a b c : Draft) → KeepsLimits next a b → KeepsLimits next b c → KeepsLimits next a c
limits_further next a b c one two = record {
  sizes = λ sized. two.sizes (one.sizes sized);
  sum = two.sum ∙ one.sum;
  reserves = λ most sum within.
      two.reserves most (let same = one.sum in omega (arith, same, sum)) (one.reserves most sum within);
  room = λ room. two.room (one.room room);
}

-- bytes that a State entry may have, where the owner's balance reaches for them
pub state_limits : (next : ℕ) (d : Draft) (q : StateKey) (bytes : List ℕ) → length bytes ≤ most_bytes →
    lacks_reserve d.entries q.owner (added_units (get d.entries (as_key q)) bytes) ≡ false →
    KeepsLimits next d (write_state q bytes d)
state_limits next d q [] short reaches = record {
  sizes = write_sized d.entries q None (bytes_sized [] short);
  sum = (extends_state reads_emitted 0 (λ _. Unit {0}) d q [] tt).sum;
  reserves = λ most sum within. write_within d.entries q None most sum reaches within;
  room = λ room. room;
}
state_limits next d q (b ∷ bs) short reaches = record {
  sizes = write_sized d.entries q (Some (entry.State (b ∷ bs))) (bytes_sized (b ∷ bs) short);
  sum = (extends_state reads_emitted 0 (λ _. Unit {0}) d q (b ∷ bs) tt).sum;
  reserves = λ most sum within.
      write_within d.entries q (Some (entry.State (b ∷ bs))) most sum reaches within;
  room = λ room. room;
}

-- one emission more, where a number is left for it
pub emission_limits : (next : ℕ) (d : Draft) (e : Emission) → next + length d.emissions < most_number →
    KeepsLimits next d (emits_too e d)
emission_limits next d e left = record {
  sizes = λ sized. sized;
  sum = refl;
  reserves = λ most sum within. within;
  room = λ room. let one_more = length-append d.emissions (e ∷ []) in omega (arith, one_more, left);
}
