-- The ledger as contracts see it. This project's own.
use Rattle.std.specs.Prelude.{ℕ, ◌+◌, refl, replicate}
use Rattle.std.specs.Coded.{Coded, code_by, coded×, coded_ℕ}
use Rattle.std.specs.FinMap as map
use Rattle.hk_state.specs.declared.ledger.Header.{Header}
use Rattle.hk_state.specs.contracts.ledger.Header as header
use Rattle.hk_state.specs.Entries.{Entries, coded_entries}
use Rattle.hk_state.specs.Writes.{Writes, with_writes}

-- the entries by their keys, the header, the number of the next emission, and the burnt fees
pub record LedgerValue : Type 0 where
  pub entries : Entries
  pub header : Header
  pub next : ℕ
  pub burnt : ℕ

abbrev pub coded_ledger : Coded LedgerValue
coded_ledger =
    code_by (Entries × (Header × (ℕ × ℕ)))
    (coded× coded_entries (coded× header.the_row.coded (coded× coded_ℕ coded_ℕ)))
    (λ l. (l.entries, (l.header, (l.next, l.burnt))))
    (λ p. record { entries = p.0; header = p.1.0; next = p.1.1.0; burnt = p.1.1.1 })
    (λ _. refl)

-- no entries, a header of zeros, and the next number 1
abbrev pub new_ledger : LedgerValue
new_ledger = record {
  entries = map.empty;
  header = record { seq = 0; time = 0; last_hash = record { 0 = replicate 32 0 } };
  next = 1;
  burnt = 0;
}

-- the ledger with another header
abbrev pub with_header : LedgerValue → Header → LedgerValue
with_header ledger header = record ledger { header = header }

-- all writes made, and the numbers and fees added
abbrev pub committed : LedgerValue → Writes → ℕ → ℕ → LedgerValue
committed ledger w numbers burnt =
    record ledger { entries = with_writes ledger.entries w; next = ledger.next + numbers; burnt = ledger.burnt + burnt }
