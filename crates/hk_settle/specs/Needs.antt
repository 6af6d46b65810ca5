-- What a ledger needs to have for settlements. This project's own.
use Rattle.std.specs.Prelude.{ℕ, ◌+◌, ◌≤◌}
use Rattle.hk_base.specs.declared.ids.AccountId.{AccountId}
use Rattle.hk_state.specs.Balances.{balances}
use Rattle.hk_state.specs.Ledger.{LedgerValue}
use Rattle.hk_state.specs.Reserves.{reserve}
use Rattle.hk_draft.specs.Reads.{reads_emitted}
use Rattle.hk_events.specs.Good.{IsGood}
use Rattle.hk_events.specs.Limits.{AreWithin, most_number}

-- the sum of drops and each reserve are within what there can be of drops, numbers of emissions are left, and what is
-- queued reads as an emitted transaction
pub record IsSteady (ledger : LedgerValue) : Type 0 where
  pub sum : balances ledger.entries + ledger.burnt ≤ 100000000000000000
  pub reserves : AreWithin reserve 100000000000000000 ledger.entries
  pub next : ledger.next ≤ most_number
  pub queue : IsGood reads_emitted ledger
