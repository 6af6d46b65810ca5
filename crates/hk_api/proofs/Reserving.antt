-- Reserves still fit after a write that the owner's balance reaches for.
use Rattle.std.proofs.Common.{◌≡◌, ℕ, ◌+◌, ◌-◌, ◌*◌, ◌<◌, ◌≤◌, ◌^◌, inl, inr, Bool, true, false, List, [], ◌∷◌, length}
use Rattle.std.proofs.Common.{refl, sym, subst, arith, Option, Some, None, if◌then◌else◌}
use Rattle.std.specs.Option.{option_map_or}
use Rattle.std.specs.FinMap.{get}
use Rattle.std.proofs.lemmas.Bool.{and_parts, cases_order}
use Rattle.hk_base.specs.declared.ids.AccountId.{AccountId}
use Rattle.hk_state.specs.declared.entry.Entry.{Entry}
use Rattle.hk_state.specs.declared.key.StateKey.{StateKey}
use Rattle.hk_state.specs.Keys.{as_key}
use Rattle.hk_state.specs.Entries.{Entries, write}
use Rattle.hk_state.specs.Least.{is_from}
use Rattle.hk_state.specs.Reserves.{reserve, unit_reserve, units, units_in, units_of, first_state, is_own, are_beside}
use Rattle.hk_state.specs.Sums.{sum, part, sum-write}
use Rattle.hk_draft.specs.Draft.{Draft, change_to, write_state}
use Rattle.hk_draft.proofs.Granted.{same_account}
use Rattle.hk_api.specs.Fits.{ReservesFit}
use Rattle.hk_api.specs.States.{added_units}

-- the units of what stands at a key, of an account's own keys
abbrev pub counted : Bool → Option Entry → ℕ
counted own found = if own then option_map_or units_in found 0 else 0

nothing_more : (n : ℕ) → 0 + n ≡ n
nothing_more n = omega arith

pub part_is : (id : AccountId) (q : StateKey) (found : Option Entry) →
    part (units_of id) (as_key q) found ≡ counted (is_own (first_state id) (as_key q)) found
part_is id q None = nothing (is_own (first_state id) (as_key q))
  where
    nothing : (own : Bool) → 0 ≡ counted own None
    nothing true = refl
    nothing false = refl
part_is id q (Some e) = nothing_more (counted (is_own (first_state id) (as_key q)) (Some e))

pub own_account : (id : AccountId) (q : StateKey) → is_own (first_state id) (as_key q) ≡ true → id ≡ q.owner
own_account id q own =
    same_account id q.owner
    (and_parts (is_from (first_state id) (as_key q)) (are_beside (first_state id) (as_key q)) own).1

module _ (m : Entries) (q : StateKey) (change : Option Entry) (fit : ReservesFit m)
    (room : 1 ≤ option_map_or units_in change 0 - option_map_or units_in (get m (as_key q)) 0 →
    reserve m q.owner + unit_reserve * (option_map_or units_in change 0 - option_map_or units_in (get m (as_key q)) 0)
    < 2 ^ 64) where
  sums : (id : AccountId) →
      sum (units_of id) (write m (as_key q) change) + counted (is_own (first_state id) (as_key q)) (get m (as_key q))
      ≡ sum (units_of id) m + counted (is_own (first_state id) (as_key q)) change
  sums id =
      let all = sum-write (units_of id) m (as_key q) change in
      let old = part_is id q (get m (as_key q)) in
      let new = part_is id q change in
      omega (arith, all, old, new)

  still_fits : (id : AccountId) (own : Bool) → is_own (first_state id) (as_key q) ≡ own →
      sum (units_of id) (write m (as_key q) change) + counted own (get m (as_key q))
      ≡ sum (units_of id) m + counted own change →
      reserve (write m (as_key q) change) id < 2 ^ 64
  still_fits id false is all = let before = fit id in omega (arith, all, before)
  still_fits id true is all =
      let same : id ≡ q.owner = own_account id q is in
      let before = fit id in
      let more =
      subst (λ x.
      1 ≤ option_map_or units_in change 0 - option_map_or units_in (get m (as_key q)) 0 →
      reserve m x + unit_reserve * (option_map_or units_in change 0 - option_map_or units_in (get m (as_key q)) 0)
      < 2 ^ 64) (sym same) room in
      grown _ _ _ _ all before more
    where
      grown : (new old after now : ℕ) → after + old ≡ now + new → 10000000 + 2000000 * now < 2 ^ 64 →
          (1 ≤ new - old → 10000000 + 2000000 * now + 2000000 * (new - old) < 2 ^ 64) →
          10000000 + 2000000 * after < 2 ^ 64
      grown new old after now all before more =
          elim (cases_order old new) as (λ _. 10000000 + 2000000 * after < 2 ^ 64) [
            | inl same ↦ omega (arith, all, before, same)
            | inr (inl less) ↦ let top = more (omega (arith, less)) in omega (arith, all, top, less)
            | inr (inr above) ↦ omega (arith, all, before, above)
          ]

  pub changed_fits : ReservesFit (write m (as_key q) change)
  changed_fits id = still_fits id (is_own (first_state id) (as_key q)) refl (sums id)

units_change : (bytes : List ℕ) → option_map_or units_in (change_to bytes) 0 ≡ units (length bytes)
units_change [] = refl
units_change (b ∷ bs) = refl

entries_so : (d : Draft) (q : StateKey) (bytes : List ℕ) →
    write d.entries (as_key q) (change_to bytes) ≡ (write_state q bytes d).entries
entries_so d q [] = refl
entries_so d q (b ∷ bs) = refl

pub stored_fits : (d : Draft) (q : StateKey) (bytes : List ℕ) → ReservesFit d.entries →
    (1 ≤ added_units (get d.entries (as_key q)) bytes →
    reserve d.entries q.owner + unit_reserve * added_units (get d.entries (as_key q)) bytes < 2 ^ 64) →
    ReservesFit (write_state q bytes d).entries
stored_fits d q bytes fit room =
    subst ReservesFit (entries_so d q bytes)
    (changed_fits d.entries q (change_to bytes) fit
    (subst (λ n.
    1 ≤ n - option_map_or units_in (get d.entries (as_key q)) 0 →
    reserve d.entries q.owner + unit_reserve * (n - option_map_or units_in (get d.entries (as_key q)) 0) < 2 ^ 64)
    (sym (units_change bytes)) room))
