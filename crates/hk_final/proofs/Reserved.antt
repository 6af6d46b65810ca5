-- What an account's line counts, in its reserve.
use Rattle.std.proofs.Common.{◌≡◌, ◌+◌, ◌≤◌, arith, true, false, List, [], ◌∷◌, Some}
use Rattle.std.proofs.Common.{if◌then◌else◌, filter, length, refl}
use Rattle.std.proofs.lemmas.Bool.{and_parts}
use Rattle.std.specs.List.{AllByRecursion}
use Rattle.std.specs.FinMap.{get, entries}
use Rattle.hk_base.specs.declared.ids.AccountId.{AccountId}
use Rattle.hk_state.specs.declared.entry.Entry.{Entry}
use Rattle.hk_state.specs.declared.key.Key.{Key}
use Rattle.hk_state.specs.declared.key.Key.TheVariants.{Install, State}
use Rattle.hk_state.specs.Entries.{Entries}
use Rattle.hk_state.specs.Least.{is_from}
use Rattle.hk_state.specs.Reserves.{first_install, first_state, are_beside, is_own, own_units, units_in}
use Rattle.hk_state.specs.Sums.{sum, total, sum-total}
use Rattle.hk_state.proofs.Owned.{sum_of_both}
use Rattle.hk_final.specs.Final.{number_of}
use Rattle.hk_final.specs.Reserved.{AreUnits, PaysForAll, FewByReserves}
use Rattle.hk_final.proofs.There.{each_entry}

-- each own entry is a unit, or more
few_units : (first : Key) (es : List (Key × Entry)) →
    AllByRecursion (λ e. is_own first e.0 ≡ true → 1 ≤ units_in e.1) es →
    length (filter (λ e. is_own first e.0) es) ≤ total (own_units first) es
few_units first [] each = omega arith
few_units first (e ∷ es) each =
    let rest = few_units first es each.1 in
    elim (is_own first e.0) as (λ b. is_own first e.0 ≡ b →
    length (if b then e ∷ filter (λ x. is_own first x.0) es else filter (λ x. is_own first x.0) es)
    ≤ (if b then units_in e.1 else 0) + total (own_units first) es) [
      | true ↦ λ own. let one = each.0 own in omega (arith, rest, one)
      | false ↦ λ not. omega (arith, rest)
    ] refl

number_in_units : (m : Entries) (first : Key) →
    ((k : Key) (e : Entry) → get m k ≡ Some e → are_beside first k ≡ true → 1 ≤ units_in e) →
    number_of first m ≤ sum (own_units first) m
number_in_units m first each =
    let own = each_entry (λ k e. is_own first k ≡ true → 1 ≤ units_in e) m
    (λ k e at is. each k e at (and_parts (is_from first k) (are_beside first k) is).1) in
    let few = few_units first (entries m) own in
    let all = sum-total (own_units first) m in
    omega (arith, few, all)

one_install : (m : Entries) (id : AccountId) → AreUnits m → (k : Key) (e : Entry) → get m k ≡ Some e →
    are_beside (first_install id) k ≡ true → 1 ≤ units_in e
one_install m id are (Install owner position) e at own = are.installs owner position e at
one_install m id are k e at own = cc

one_state : (m : Entries) (id : AccountId) → AreUnits m → (k : Key) (e : Entry) → get m k ≡ Some e →
    are_beside (first_state id) k ≡ true → 1 ≤ units_in e
one_state m id are (State owner namespace q) e at own = are.states owner namespace q e at
one_state m id are k e at own = cc

pub pays : PaysForAll
pays m id are =
    let hooks = number_in_units m (first_install id) (one_install m id are) in
    let states = number_in_units m (first_state id) (one_state m id are) in
    let both = sum_of_both (own_units (first_install id)) (own_units (first_state id)) m in
    omega (arith, hooks, states, both)

pub few : FewByReserves
few m are fits = record {
  hooks = λ id. let reserved = pays m id are in let fit = fits id in omega (arith, reserved, fit);
  states = λ id. let reserved = pays m id are in let fit = fits id in omega (arith, reserved, fit);
}
