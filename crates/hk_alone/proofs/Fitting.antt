-- What the host rests on holds of the ledger of a hook that is run alone.
use Rattle.std.proofs.Common.{◌≡◌, ◌∙◌, ap, sym, subst, refl, arith, ℕ, zero, suc, ◌+◌, ◌*◌, ◌≤◌, ◌<◌, ◌^◌, ◌==◌, Bool}
use Rattle.std.proofs.Common.{true, false, cond, if◌then◌else◌, List, [], length, Option, Some, None}
use Rattle.std.specs.FinMap.{get, insert, empty, get-insert, get-empty}
use Rattle.hk_base.specs.declared.ids.AccountId.{AccountId}
use Rattle.hk_base.specs.declared.ids.Hash256.{Hash256}
use Rattle.hk_state.specs.declared.key.Key.{Key}
use Rattle.hk_state.specs.declared.key.Key.TheVariants as key
use Rattle.hk_state.specs.declared.entry.Entry.{Entry}
use Rattle.hk_state.specs.declared.entry.Entry.TheVariants as entry
use Rattle.hk_state.specs.Keys.{key_cmp, is_key, keys_total}
use Rattle.hk_state.specs.Entries.{Entries}
use Rattle.hk_state.specs.Fees.{bound_of, fired_bound, bounds_below, chain_fee}
use Rattle.hk_state.specs.Firing.{fires}
use Rattle.hk_state.specs.Reserves.{reserve, units_in, units_of, own_units, is_own, first_install, first_state}
use Rattle.hk_state.specs.Sums.{sum, sum-insert, sum-empty}
use Rattle.hk_api.specs.Fits.{ReservesFit, FeesFit}
use Rattle.xo_list.specs.Value.{HasFields}
use Rattle.hk_bound.specs.Checks.{Held, IsHeld, most}
use Rattle.hk_reading.specs.Laws.{ReadsSo}
use Rattle.hk_state.specs.Ledger.{LedgerValue}
use Rattle.hk_api.specs.Fits.{IsFit}
use Rattle.hk_api_parts.specs.declared.setting.Setting.{Setting}
use Rattle.hk_alone.proofs.Blob.{blob_is, has_fields, short_blob, small_burden}
use Rattle.hk_alone.specs.Context.{account, entries, entries_of, ledger, setting, zeros}

-- ---- fees

-- an account's fees are small where each bound is
module _ (m : Entries) (small : (hash : Hash256) → bound_of (get m (key.Definition hash)) ≤ 262143) where
  fired_if : (b : Bool) (hash : Hash256) → (if b then bound_of (get m (key.Definition hash)) else 0) ≤ 262143
  fired_if true hash = small hash
  fired_if false hash = omega arith

  fired : (kind : ℕ) (found : Option Entry) → fired_bound m kind found ≤ 262143
  fired kind (Some (entry.Install hash on namespace parameters grants)) = fired_if (fires on kind) hash
  fired kind (Some (entry.Account balance sequence)) = omega arith
  fired kind (Some (entry.Definition code version hook cbak)) = omega arith
  fired kind (Some (entry.State bytes)) = omega arith
  fired kind (Some (entry.Emitted blob hash first last callback)) = omega arith
  fired kind (Some (entry.Other bytes)) = omega arith
  fired kind None = omega arith

  below : (kind : ℕ) (id : AccountId) (n : ℕ) → bounds_below m kind id n ≤ n * 262143
  below kind id zero = omega arith
  below kind id (suc n) =
      let more = below kind id n in
      let one = fired kind (get m (key.Install id n)) in
      omega (arith, more, one)

  small_fees : FeesFit m
  small_fees kind id = let all = below kind id 10 in omega (arith, all)

-- ---- reserves

own_if : (b : Bool) (e : Entry) → (if b then units_in e else 0) ≤ units_in e
own_if true e = omega arith
own_if false e = omega arith

few_units : (id : AccountId) (k : Key) (e : Entry) → units_of id k e ≤ units_in e + units_in e
few_units id k e =
    let installs = own_if (is_own (first_install id) k) e in
    let states = own_if (is_own (first_state id) k) e in
    omega (arith, installs, states)

-- an entry more adds no more than its own units
one_more : (id : AccountId) (m : Entries) (k : Key) (e : Entry) →
    sum (units_of id) (insert m k e) ≤ sum (units_of id) m + (units_in e + units_in e)
one_more id m k e =
    let sums = sum-insert (units_of id) m k e in
    let few = few_units id k e in
    omega (arith, sums, few)

module _ (owner : AccountId) (hash : Hash256) (code : List ℕ) (version bound_hook : ℕ) (bound_cbak : Option ℕ) where
  abbrev one : Entries
  one = insert empty (key.Account owner) (entry.Account 100000000000 2)

  abbrev two : Entries
  two = insert one (key.Install owner 0) (entry.Install hash zeros zeros [] [])

  abbrev definition : Entry
  definition = entry.Definition code version bound_hook bound_cbak

  abbrev three : Entries
  three = insert two (key.Definition hash) definition

  pub few_here : ReservesFit three
  few_here id =
      let none = sum-empty (units_of id) in
      let first = one_more id empty (key.Account owner) (entry.Account 100000000000 2) in
      let second = one_more id one (key.Install owner 0) (entry.Install hash zeros zeros [] []) in
      let third = one_more id two (key.Definition hash) definition in
      omega (arith, none, first, second, third)

  small_if : (b : Bool) → bound_hook ≤ 262143 → bound_of (cond b (Some definition) None) ≤ 262143
  small_if true small = small
  small_if false small = omega arith

  none_before : (other : Hash256) → get two (key.Definition other) ≡ None
  none_before other =
      get-insert keys_total one (key.Install owner 0) (entry.Install hash zeros zeros [] []) (key.Definition other)
      ∙ get-insert keys_total empty (key.Account owner) (entry.Account 100000000000 2) (key.Definition other)
      ∙ get-empty key_cmp (key.Definition other)

  found : (other : Hash256) → get three (key.Definition other)
      ≡ cond (is_key (key.Definition other) (key.Definition hash)) (Some definition) None
  found other =
      get-insert keys_total two (key.Definition hash) definition (key.Definition other)
      ∙ ap (cond (is_key (key.Definition other) (key.Definition hash)) (Some definition)) (none_before other)

  fees_here : bound_hook ≤ 262143 → FeesFit three
  fees_here small =
      small_fees three (λ other.
      subst (λ there. bound_of there ≤ 262143) (sym (found other))
      (small_if (is_key (key.Definition other) (key.Definition hash)) small))

module _ (hash : Hash256) (code : List ℕ) (version bound_hook : ℕ) (bound_cbak : Option ℕ) where
  pub few_reserves : ReservesFit (entries code version hash bound_hook bound_cbak)
  unfolding entries
  few_reserves = few_here account hash code version bound_hook bound_cbak

  pub fees_fit : bound_hook ≤ 262143 → FeesFit (entries code version hash bound_hook bound_cbak)
  unfolding entries
  fees_fit small = fees_here account hash code version bound_hook bound_cbak small

-- ---- a bound is small

most_if : (b : Bool) → (if b then 65535 else 262143) ≤ 262143
most_if true = omega arith
most_if false = omega arith

pub small_bound : (held : Held) → IsHeld held → held.bound_hook ≤ 262143
small_bound held h =
    let within = h.holds.hook.hook held.bound_hook h.holds.bound_hook in
    let limit = most_if (held.version == 0) in
    omega (arith, within, limit)

-- ---- all that the host asks

fits_here : ReadsSo → (code : List ℕ) (held : Held) → held.bound_hook ≤ 262143 →
    IsFit setting (entries_of code held) (entries_of code held)
fits_here so code held small = record {
  reserves = few_reserves held.hash code held.version held.bound_hook held.bound_cbak;
  fees = fees_fit held.hash code held.version held.bound_hook held.bound_cbak small;
  object = subst HasFields (sym blob_is) (has_fields so);
  short = subst (λ bytes. length bytes < 2 ^ 32) (sym blob_is) short_blob;
  burden = small_burden;
}

pub all_fits : ReadsSo → (code : List ℕ) (held : Held) → held.bound_hook ≤ 262143 → (s : Setting) (l : LedgerValue) →
    s ≡ setting → l ≡ ledger code held → IsFit s l.entries l.entries
all_fits so code held small s l one other =
    subst (λ t. IsFit t l.entries l.entries) (sym one)
    (subst (λ k. IsFit setting k.entries k.entries) (sym other) (fits_here so code held small))
