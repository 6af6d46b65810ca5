-- What a map of entries holds for an account. This project's own.
use Rattle.std.specs.Prelude.{◌≡◌, ℕ, true, false, cond, Option, Some, None, IsSome, refl}
use Rattle.std.proofs.Common.{◌∙◌, ap, sym, subst}
use Rattle.std.specs.FinMap.{FinMap, get, insert, get-insert}
use Rattle.hk_base.specs.declared.ids.AccountId.{AccountId}
use Rattle.hk_state.specs.declared.key.Key.{Key}
use Rattle.hk_state.specs.declared.key.Key.TheVariants as key
use Rattle.hk_state.specs.declared.entry.Entry.{Entry}
use Rattle.hk_state.specs.declared.entry.Entry.TheVariants as entry
use Rattle.hk_state.specs.declared.entry.Holding.{Holding}
use Rattle.hk_state.specs.Keys.{key_cmp, is_key, keys_total}

-- an Account entry's balance and sequence
abbrev pub as_holding : Option Entry → Option Holding
as_holding (Some (entry.Account balance sequence)) = Some (record { balance = balance; sequence = sequence })
as_holding other = None

-- the balance and sequence of the Account entry of this id, if there is one
abbrev pub holding_at : FinMap key_cmp Entry → AccountId → Option Holding
holding_at m id = as_holding (get m (key.Account id))

-- the map with this balance and sequence for the account
abbrev pub with_holding : FinMap key_cmp Entry → AccountId → ℕ → ℕ → FinMap key_cmp Entry
with_holding m id balance sequence = insert m (key.Account id) (entry.Account balance sequence)

-- another account's entry stays
pub get-with_holding : (m : FinMap key_cmp Entry) (id : AccountId) (balance sequence : ℕ) (q : Key) →
    is_key q (key.Account id) ≡ false → get (with_holding m id balance sequence) q ≡ get m q
get-with_holding m id balance sequence q apart =
    get-insert keys_total m (key.Account id) (entry.Account balance sequence) q
    ∙ ap (λ b. cond b (Some (entry.Account balance sequence)) (get m q)) apart

-- an account that is there stays
pub stays : (m : FinMap key_cmp Entry) (id : AccountId) (balance sequence : ℕ) (other : AccountId) →
    IsSome (holding_at m other) → IsSome (holding_at (with_holding m id balance sequence) other)
stays m id balance sequence other is =
    subst (λ found. IsSome (as_holding found))
    (sym (get-insert keys_total m (key.Account id) (entry.Account balance sequence) (key.Account other)))
    (elim (is_key (key.Account other) (key.Account id))
    as (λ b. IsSome (as_holding (cond b (Some (entry.Account balance sequence)) (get m (key.Account other))))) [
      | true ↦ refl
      | false ↦ is
    ])
