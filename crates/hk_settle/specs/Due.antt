-- The next emission that is due. This project's own.
use Rattle.std.specs.Prelude.{ℕ, ◌≤◌, ◌<◌}
use Rattle.hk_state.specs.Ledger.{LedgerValue}
use Rattle.hk_events.specs.Laws.{DueAt}

-- none is due under a number from this one on
abbrev pub NoneFrom : LedgerValue → ℕ → Type 0
NoneFrom ledger from = (n : ℕ) → from ≤ n → DueAt ledger n → ⊥

-- the least number from this one on under which one is due
pub record IsNext (ledger : LedgerValue) (from number : ℕ) : Type 0 where
  pub behind : from ≤ number
  pub due : DueAt ledger number
  pub least : (n : ℕ) → from ≤ n → n < number → DueAt ledger n → ⊥
