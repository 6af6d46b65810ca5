-- What waits in the queue. This project's own.
use Rattle.std.specs.Prelude.{◌≡◌, ℕ, true, List, Option, Some}
use Rattle.std.specs.Option.{option_and_then}
use Rattle.std.specs.FinMap.{get}
use Rattle.xo_object.specs.declared.transaction.Transaction.{Transaction}
use Rattle.hk_reading.specs.declared.reading.Reading.TheVariants as readings
use Rattle.hk_reading.specs.Parsing.{fields_of}
use Rattle.hk_reading.specs.Transactions.{transaction_of}
use Rattle.hk_state.specs.declared.entry.Entry.TheVariants as entry
use Rattle.hk_state.specs.declared.key.Key.TheVariants as key
use Rattle.hk_state.specs.Ledger.{LedgerValue}
use Rattle.hk_draft.specs.Reads.{reads_emitted}
use Rattle.hk_events.specs.Settled as defined
use Rattle.hk_perform.specs.Needs.{IsOfBytes}
use Rattle.hk_settle.specs.declared.waiting.Waiting.{Waiting}

-- the emitted transaction that bytes of any length are
abbrev pub read_as : List ℕ → Option Transaction
read_as bytes = option_and_then (λ fields. transaction_of true fields bytes) (fields_of bytes)

-- what waits, as the settlement takes it
abbrev pub waiting_of : Waiting → defined.Waiting
waiting_of w = record {
  blob = w.setting.transaction.blob;
  hash = w.hash;
  first = w.first;
  last = w.last;
  callback = w.callback;
}

-- this emission waits under a number, and its transaction is on the open ledger
pub record Waits (ledger : LedgerValue) (number : ℕ) (w : Waiting) : Type 0 where
  pub there : get ledger.entries (key.Emitted number)
      ≡ Some (entry.Emitted w.setting.transaction.blob w.hash w.first w.last w.callback)
  pub header : w.setting.header ≡ ledger.header
  pub reads : reads_emitted w.setting.transaction.blob ≡ readings.Transaction w.setting.transaction
  pub read : IsOfBytes w.setting.transaction
