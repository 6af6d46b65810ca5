-- The sum of all balances. This project's own.
use Rattle.std.specs.Prelude.{◌≡◌, ℕ, ◌+◌, ◌≤◌, Option, Some, None, refl}
use Rattle.std.proofs.Common.{ap, arith}
use Rattle.std.specs.Option.{unwrap_or}
use Rattle.std.specs.FinMap.{get, empty}
use Rattle.hk_base.specs.declared.ids.AccountId.{AccountId}
use Rattle.hk_state.specs.declared.key.Key.{Key}
use Rattle.hk_state.specs.declared.key.Key.TheVariants as key
use Rattle.hk_state.specs.declared.entry.Entry.{Entry}
use Rattle.hk_state.specs.declared.entry.Entry.TheVariants as entry
use Rattle.hk_state.specs.declared.entry.Holding.{Holding}
use Rattle.hk_state.specs.Entries.{Entries}
use Rattle.hk_state.specs.Holdings.{as_holding, holding_at, with_holding}
use Rattle.hk_state.specs.Sums.{sum, part, sum-insert, sum-empty, one_part}

-- an account's balance, and 0 of another kind of entry
abbrev pub worth : Key → Entry → ℕ
worth (key.Account id) (entry.Account balance sequence) = balance
worth key e = 0

abbrev pub balances : Entries → ℕ
balances m = sum worth m

pub balances-empty : balances empty ≡ 0
balances-empty = sum-empty worth

pub held : (id : AccountId) (found : Option Entry) (h : Holding) → as_holding found ≡ Some h →
    part worth (key.Account id) found ≡ h.balance
held id None h e = cc
held id (Some (entry.Account balance sequence)) h e = ap (λ o. (unwrap_or o h).balance) e
held id (Some other) h e = cc

pub not_held : (id : AccountId) (found : Option Entry) → as_holding found ≡ None →
    part worth (key.Account id) found ≡ 0
not_held id None e = refl
not_held id (Some (entry.Account balance sequence)) e = cc
not_held id (Some other) e = refl

-- a balance is at most the sum
pub held_most : (m : Entries) (id : AccountId) (h : Holding) → holding_at m id ≡ Some h → h.balance ≤ balances m
held_most m id h at =
    let here = held id (get m (key.Account id)) h at in
    let most = one_part worth m (key.Account id) in
    omega (arith, here, most)

-- a new balance in place of the old one
pub sum_with : (m : Entries) (id : AccountId) (h : Holding) (balance sequence : ℕ) → holding_at m id ≡ Some h →
    balances (with_holding m id balance sequence) + h.balance ≡ balances m + balance
sum_with m id h balance sequence at =
    let here = held id (get m (key.Account id)) h at in
    let put = sum-insert worth m (key.Account id) (entry.Account balance sequence) in
    omega (arith, here, put)

pub sum_new : (m : Entries) (id : AccountId) (balance sequence : ℕ) → holding_at m id ≡ None →
    balances (with_holding m id balance sequence) ≡ balances m + balance
sum_new m id balance sequence at =
    let here = not_held id (get m (key.Account id)) at in
    let put = sum-insert worth m (key.Account id) (entry.Account balance sequence) in
    omega (arith, here, put)
