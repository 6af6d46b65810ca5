-- A complete ledger stores the bounds of its hooks, and then its fees are small.
use Rattle.std.proofs.Common.{◌≡◌, ◌∙◌, ap, arith, refl, ℕ, zero, suc, ◌+◌, ◌*◌, ◌^◌, ◌≤◌, ◌<◌, ◌==◌, Bool, true}
use Rattle.std.proofs.Common.{false, if◌then◌else◌, Option, Some, None, List}
use Rattle.std.specs.Option.{option_map}
use Rattle.std.specs.Str.{bytes_eq}
use Rattle.std.specs.FinMap.{get}
use Rattle.std.proofs.lemmas.Option.{same_Some}
use Rattle.hk_base.specs.declared.ids.AccountId.{AccountId}
use Rattle.hk_base.specs.declared.ids.Hash256.{Hash256}
use Rattle.wa_ops.specs.declared.modules.Module.{Module}
use Rattle.wa_ops.specs.HookRules.{is_hook, is_cbak}
use Rattle.wa_ops.specs.Typing.{and_then}
use Rattle.hk_bound.specs.Acceptance.{accepted, AcceptedIsHook}
use Rattle.hk_bound.specs.Bounds.{export_bound}
use Rattle.hk_bound.specs.Checks.{IsHook, hash_of}
use Rattle.xo_object.specs.declared.transaction.Transaction.{Transaction}
use Rattle.hk_state.specs.declared.entry.Entry.{Entry}
use Rattle.hk_state.specs.declared.entry.Entry.TheVariants as entry
use Rattle.hk_state.specs.declared.key.Key.TheVariants as key
use Rattle.hk_state.specs.Entries.{Entries}
use Rattle.hk_state.specs.Fees.{bound_of, fired_bound, bounds_below, chain_fee, destination_fee, code_fee, needed_fee}
use Rattle.hk_state.specs.Firing.{fires}
use Rattle.hk_chain.specs.Programs.{IsStored, AreStored}
use Rattle.hk_items.specs.Checks.{checked, bounded, checked_in}
use Rattle.hk_items.specs.Needs.{CodesFit}
use Rattle.hk_engine.specs.Laws.{CompleteStores, StoredFees, NeededFees}

-- ---- what the check of a code finds is stored

module _ (law : AcceptedIsHook) (version : ℕ) (code : List ℕ) (known : version ≤ 1) (hash : Hash256) (bound_hook : ℕ)
    (bound_cbak : Option ℕ) where
  hook_stored : (wasm : Module) → IsHook version code wasm → (bound : Option ℕ) →
      export_bound version is_hook wasm ≡ bound →
      option_map (λ b. checked (hash_of version code) b (export_bound version is_cbak wasm)) bound
      ≡ Some (checked hash bound_hook bound_cbak) → IsStored code version bound_hook bound_cbak
  hook_stored wasm hook None at is = absurd (cc is)
  hook_stored wasm hook (Some b) at is =
      let same = same_Some (checked (hash_of version code) b (export_bound version is_cbak wasm))
      (checked hash bound_hook bound_cbak) is in
      record {
        known = known;
        wasm = wasm;
        hook = hook;
        bound_is = at ∙ ap (λ c. Some c.bound_hook) same;
        cbak_is = ap (λ c. c.bound_cbak) same;
      }

  accepted_stored : (found : Option Module) → accepted version code ≡ found →
      and_then found (bounded version code) ≡ Some (checked hash bound_hook bound_cbak) →
      IsStored code version bound_hook bound_cbak
  accepted_stored None at is = absurd (cc is)
  accepted_stored (Some wasm) at is =
      hook_stored wasm ((law version code wasm).0 at) (export_bound version is_hook wasm) refl is

  checked_stored : checked_in version code ≡ Some (checked hash bound_hook bound_cbak) →
      IsStored code version bound_hook bound_cbak
  unfolding checked_in
  checked_stored is = accepted_stored (accepted version code) refl is

pub complete_stores : AcceptedIsHook → CompleteStores
complete_stores law m complete hash code version bound_hook bound_cbak there =
    let found = complete.definitions hash (entry.Definition code version bound_hook bound_cbak) there in
    checked_stored law version code found.0 hash bound_hook bound_cbak found.1

-- ---- fees

most_if : (b : Bool) → (if b then 65535 else 262143) ≤ 262143
most_if true = omega arith
most_if false = omega arith

module _ (m : Entries) (stored : AreStored m) where
  bound_at : (hash : Hash256) (found : Option Entry) → get m (key.Definition hash) ≡ found → bound_of found ≤ 262143
  bound_at hash (Some (entry.Definition code version bound_hook bound_cbak)) there =
      let is = stored hash code version bound_hook bound_cbak there in
      let within = is.hook.hook bound_hook is.bound_is in
      let limit = most_if (version == 0) in
      omega (arith, within, limit)
  bound_at hash other there = omega arith

  bound_if : (b : Bool) (hash : Hash256) → (if b then bound_of (get m (key.Definition hash)) else 0) ≤ 262143
  bound_if true hash = bound_at hash (get m (key.Definition hash)) refl
  bound_if false hash = omega arith

  fired_small : (kind : ℕ) (found : Option Entry) → fired_bound m kind found ≤ 262143
  fired_small kind (Some (entry.Install hash on namespace parameters grants)) = bound_if (fires on kind) hash
  fired_small kind other = omega arith

  bounds_small : (kind : ℕ) (id : AccountId) (count : ℕ) → bounds_below m kind id count ≤ count * 262143
  bounds_small kind id zero = omega arith
  bounds_small kind id (suc count) =
      let below = bounds_small kind id count in
      let one = fired_small kind (get m (key.Install id count)) in
      omega (arith, below, one)

  -- ten positions
  chain_small : (kind : ℕ) (id : AccountId) → chain_fee m kind id ≤ 2621430
  chain_small kind id = bounds_small kind id 10

  unless_same : (b : Bool) (kind : ℕ) (to : AccountId) → (if b then 0 else chain_fee m kind to) ≤ 2621430
  unless_same true kind to = omega arith
  unless_same false kind to = chain_small kind to

  destination_small : (t : Transaction) (to : Option AccountId) → destination_fee m t to ≤ 2621430
  destination_small t None = omega arith
  destination_small t (Some to) = unless_same (bytes_eq to.0 t.account.0) t.kind to

  four_small : (own other code : ℕ) → own ≤ 2621430 → other ≤ 2621430 → code ≤ 100000000 →
      10 + own + other + code < 2 ^ 63
  four_small own other code a b c = omega (arith, a, b, c)

  -- where the fee of new code is small, so is the needed fee
  pub needed_small : (t : Transaction) → code_fee t.hooks ≤ 100000000 → needed_fee m t < 2 ^ 63
  needed_small t small =
      four_small (chain_fee m t.kind t.account) (destination_fee m t t.destination) (code_fee t.hooks)
      (chain_small t.kind t.account) (destination_small t t.destination) small

less_than : (n : ℕ) → n ≤ 2621430 → n < 2 ^ 62
less_than n few = omega (arith, few)

pub stored_fees : StoredFees
stored_fees m stored kind id = less_than (chain_fee m kind id) (chain_small m stored kind id)

pub needed_fees : CodesFit → NeededFees
needed_fees codes m fields emitted t stored object is short =
    needed_small m stored t (let few = codes fields t.blob emitted t object is in omega (arith, few, short))
