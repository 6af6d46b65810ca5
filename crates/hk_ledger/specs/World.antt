-- A ledger and the total that it was opened with. This project's own.
use Rattle.std.specs.Prelude.{◌≡◌, ℕ, ◌+◌, ◌≤◌, None, refl}
use Rattle.std.specs.Coded.{Coded, code_by, coded×, coded_ℕ}
use Rattle.std.specs.FinMap.{get}
use Rattle.hk_base.specs.declared.ids.AccountId.{AccountId}
use Rattle.hk_state.specs.declared.key.Key.TheVariants as key
use Rattle.hk_state.specs.Balances.{balances}
use Rattle.hk_state.specs.Holdings.{with_holding}
use Rattle.hk_state.specs.Ledger.{LedgerValue, new_ledger, coded_ledger}
use Rattle.hk_state.specs.Reserves.{reserve}
use Rattle.hk_draft.specs.Reads.{reads_emitted}
use Rattle.hk_events.specs.Complete.{IsComplete}
use Rattle.hk_events.specs.Good.{IsGood}
use Rattle.hk_events.specs.Limits.{AreWithin, most_number}
use Rattle.hk_items.specs.Checks.{checked_in}

pub record WorldValue : Type 0 where
  pub ledger : LedgerValue
  pub opening : ℕ

abbrev pub coded_world : Coded WorldValue
coded_world =
    code_by (LedgerValue × ℕ) (coded× coded_ledger coded_ℕ) (λ w. (w.ledger, w.opening))
    (λ p. record { ledger = p.0; opening = p.1 }) (λ _. refl)

-- the most drops that accounts are opened with
abbrev pub most_drops : ℕ
most_drops = 100000000000000000

-- balances and burnt fees are the opening total, no reserve is more than all drops, and numbers of emissions are left;
-- what is queued reads as an emitted transaction and has a number from 1, below the next; Definitions are of accepted
-- code and have its bounds, Installs have their Definition and account, and State entries are sized and have theirs
pub record IsWhole (ledger : LedgerValue) (opening : ℕ) : Type 0 where
  pub conserved : balances ledger.entries + ledger.burnt ≡ opening
  pub most : opening ≤ most_drops
  pub reserves : AreWithin reserve most_drops ledger.entries
  pub next : ledger.next ≤ most_number
  pub first : 1 ≤ ledger.next
  pub none : get ledger.entries (key.Emitted 0) ≡ None
  pub queue : IsGood reads_emitted ledger
  pub hooks : IsComplete checked_in ledger.entries

abbrev pub new_world : WorldValue
new_world = record { ledger = new_ledger; opening = 0 }

-- the ledger with one account more
abbrev pub with_account : LedgerValue → AccountId → ℕ → ℕ → LedgerValue
with_account ledger id balance sequence = record ledger { entries = with_holding ledger.entries id balance sequence }

abbrev pub opened : WorldValue → AccountId → ℕ → ℕ → WorldValue
opened w id balance sequence =
    record { ledger = with_account w.ledger id balance sequence; opening = w.opening + balance }
