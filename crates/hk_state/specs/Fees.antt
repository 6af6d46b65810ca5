-- The fee that a transaction needs: 10 drops, the bounds of the hooks that fire on its type, of its account and of
-- another destination, and 10 drops for each
-- byte of new code. This project's own.
use Rattle.std.specs.Prelude.{ℕ, zero, suc, ◌+◌, ◌*◌, if◌then◌else◌, List, [], ◌∷◌, length, Option, Some, None}
use Rattle.std.specs.Str.{bytes_eq}
use Rattle.std.specs.FinMap.{get}
use Rattle.hk_base.specs.declared.ids.AccountId.{AccountId}
use Rattle.xo_object.specs.declared.transaction.HookItem.{HookItem}
use Rattle.xo_object.specs.declared.transaction.HookItem.TheVariants.{Create}
use Rattle.xo_object.specs.declared.transaction.Transaction.{Transaction}
use Rattle.hk_state.specs.declared.key.Key.TheVariants as key
use Rattle.hk_state.specs.declared.entry.Entry.{Entry}
use Rattle.hk_state.specs.declared.entry.Entry.TheVariants as entry
use Rattle.hk_state.specs.Entries.{Entries}
use Rattle.hk_state.specs.Firing.{fires}

-- the positions of an account's hooks, from 0
abbrev pub positions : ℕ
positions = 10

-- the bound of a Definition's `hook`
abbrev pub bound_of : Option Entry → ℕ
bound_of (Some (entry.Definition code version bound_hook bound_cbak)) = bound_hook
bound_of other = 0

-- the bound of an Install that fires on a type
abbrev pub fired_bound : Entries → ℕ → Option Entry → ℕ
fired_bound m kind (Some (entry.Install hash on namespace parameters grants)) =
    if fires on kind then bound_of (get m (key.Definition hash)) else 0
fired_bound m kind other = 0

-- the bounds at the positions below a number
abbrev pub bounds_below : Entries → ℕ → AccountId → ℕ → ℕ
bounds_below m kind id zero = 0
bounds_below m kind id (suc position) =
    bounds_below m kind id position + fired_bound m kind (get m (key.Install id position))

abbrev pub chain_fee : Entries → ℕ → AccountId → ℕ
chain_fee m kind id = bounds_below m kind id positions

-- a destination other than the account
abbrev pub destination_fee : Entries → Transaction → Option AccountId → ℕ
destination_fee m t None = 0
destination_fee m t (Some to) = if bytes_eq to.0 t.account.0 then 0 else chain_fee m t.kind to

abbrev pub item_fee : HookItem → ℕ
item_fee (Create code version on namespace parameters grants replace) = 10 * length code
item_fee item = 0

abbrev pub code_fee : List HookItem → ℕ
code_fee [] = 0
code_fee (item ∷ items) = item_fee item + code_fee items

abbrev pub needed_fee : Entries → Transaction → ℕ
needed_fee m t = 10 + chain_fee m t.kind t.account + destination_fee m t t.destination + code_fee t.hooks
