-- What a ledger and a transaction need to have. This project's own.
use Rattle.std.specs.Prelude.{◌≡◌, ℕ, ◌+◌, ◌<◌, ◌≤◌, ◌^◌, Bool, List, length, Some}
use Rattle.hk_base.specs.declared.ids.AccountId.{AccountId}
use Rattle.xo_list.specs.Item.{Item}
use Rattle.xo_list.specs.Value.{HasFields, IsObject}
use Rattle.xo_object.specs.declared.transaction.Transaction.{Transaction}
use Rattle.xo_object.specs.Transaction.{IsTransaction}
use Rattle.hk_reading.specs.Readings.{longest}
use Rattle.hk_state.specs.declared.entry.Holding.{Holding}
use Rattle.hk_state.specs.Balances.{balances}
use Rattle.hk_state.specs.Entries.{Entries}
use Rattle.hk_state.specs.Holdings.{holding_at}
use Rattle.hk_state.specs.Ledger.{LedgerValue}
use Rattle.hk_state.specs.Reserves.{reserve}
use Rattle.hk_api_parts.specs.declared.setting.Setting.{Setting}
use Rattle.hk_api.specs.Fits.{FeesFit}
use Rattle.hk_chain.specs.Programs.{AreStored}
use Rattle.hk_events.specs.Results.{Origin, handed, emitted}

-- a transaction is what its bytes read as, handed in or emitted
pub record IsOfBytes (t : Transaction) : Type 0 where
  pub emitted : Bool
  pub fields : List Item
  pub object : IsObject fields t.blob
  pub is : IsTransaction fields t.blob emitted t
  pub short : length t.blob ≤ longest
  pub burden : t.burden < 2 ^ 63
  pub sequence : t.sequence < 4294967295

-- the sum of drops and each reserve are within what there can be of drops, and the setting is of this ledger and of
-- such
-- a transaction
pub record IsReady (ledger : LedgerValue) (setting : Setting) : Type 0 where
  pub sum : balances ledger.entries + ledger.burnt ≤ 100000000000000000
  pub reserves : (id : AccountId) → reserve ledger.entries id ≤ 100000000000000000
  pub next : ledger.next ≤ 9223372036854775807
  pub header : setting.header ≡ ledger.header
  pub read : IsOfBytes setting.transaction

-- a transaction that was handed in takes a sequence, and there is a next one
abbrev pub HasNext : Origin → ℕ → Type 0
HasNext (handed verdict) sequence = sequence < 4294967295
HasNext emitted sequence = Unit {0}

-- an account has the fee, and a next sequence
pub record CanPay (m : Entries) (origin : Origin) (t : Transaction) : Type 0 where
  pub holding : Holding
  pub at : holding_at m t.account ≡ Some holding
  pub funded : t.fee ≤ holding.balance
  pub sequence : HasNext origin holding.sequence

-- each reserve and the sum of balances are within what there can be of drops
pub record AreCovered (m : Entries) : Type 0 where
  pub sum : balances m ≤ 100000000000000000
  pub reserves : (id : AccountId) → reserve m id ≤ 100000000000000000

-- what runs rest on
pub record IsSound (ledger : LedgerValue) (setting : Setting) : Type 0 where
  pub stored : AreStored ledger.entries
  pub fees : FeesFit ledger.entries
  pub header : setting.header ≡ ledger.header
  pub object : HasFields setting.transaction.blob
  pub short : length setting.transaction.blob < 2 ^ 32
  pub burden : setting.transaction.burden < 2 ^ 63
