-- The limits that a ledger stays within: the reserve of each account, and the number of the next emission. This
-- project's own.
use Rattle.std.specs.Prelude.{◌≡◌, ℕ, ◌+◌, ◌≤◌, Bool, true, ◌||◌, length}
use Rattle.std.specs.FinMap.{get}
use Rattle.hk_base.specs.declared.ids.AccountId.{AccountId}
use Rattle.hk_base.specs.declared.ids.Hash256.{Hash256}
use Rattle.xo_object.specs.declared.transaction.Transaction.{Transaction}
use Rattle.hk_state.specs.declared.key.Key.{Key}
use Rattle.hk_state.specs.declared.ledger.Header.{Header}
use Rattle.hk_state.specs.Balances.{balances}
use Rattle.hk_state.specs.Entries.{Entries}
use Rattle.hk_state.specs.Ledger.{LedgerValue}
use Rattle.hk_state.specs.Reserves.{first_install, first_state, are_beside}
use Rattle.hk_draft.specs.Draft.{Draft}
use Rattle.hk_draft.specs.Ends.{ChainEnd, kept, rejected}
use Rattle.hk_events.specs.Engine.{Engine}

-- the greatest number that the next emission may have
abbrev pub most_number : ℕ
most_number = 9223372036854775807

-- the key of an Install or of a State entry of an account
abbrev pub owns : AccountId → Key → Bool
owns id k = are_beside (first_install id) k || are_beside (first_state id) k

-- a reserve rests on what the account owns
abbrev pub RestsOnOwn : (Entries → AccountId → ℕ) → Type 0
RestsOnOwn reserve = (m n : Entries) (id : AccountId) → ((k : Key) → owns id k ≡ true → get n k ≡ get m k) →
    reserve n id ≡ reserve m id

abbrev pub AreWithin : (Entries → AccountId → ℕ) → ℕ → Entries → Type 0
AreWithin reserve most m = (id : AccountId) → reserve m id ≤ most

-- reserves stay within what there is of drops
abbrev pub WithinFit : (Entries → AccountId → ℕ) → Draft → ChainEnd → Type 0
WithinFit reserve a (kept b records) = (most : ℕ) → balances a.entries ≤ most → AreWithin reserve most a.entries →
    AreWithin reserve most b.entries
WithinFit reserve a (rejected records) = Unit {0}

-- and numbers are left for all emissions
abbrev pub RoomFit : ℕ → Draft → ChainEnd → Type 0
RoomFit next a (kept b records) = next + length a.emissions ≤ most_number → next + length b.emissions ≤ most_number
RoomFit next a (rejected records) = Unit {0}

abbrev pub Fit : Engine → ℕ → Draft → ChainEnd → Type 0
Fit e next a x = WithinFit e.reserve a x × RoomFit next a x

-- the contracts of an engine's parts on these limits
pub record IsMeasured (e : Engine) : Type 0 where
  pub reserves : RestsOnOwn e.reserve
  pub chains : (header : Header) (next : ℕ) (before : Entries) (t : Transaction) (account : AccountId) (a : Draft) →
      Fit e next a (e.chain header next before t account a)
  pub callbacks : (header : Header) (next : ℕ) (before : Entries) (t : Transaction) (account : AccountId)
      (hash : Hash256) (word : ℕ) (a : Draft) →
      Fit e next a (e.callback header next before t account hash word a)

-- a ledger within these limits, for so many drops
pub record IsWithin (e : Engine) (most : ℕ) (ledger : LedgerValue) : Type 0 where
  pub sum : balances ledger.entries ≤ most
  pub reserves : AreWithin e.reserve most ledger.entries
  pub next : ledger.next ≤ most_number
