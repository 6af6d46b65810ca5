-- What a ledger keeps of its queue. This project's own.
use Rattle.std.specs.Prelude.{◌≡◌, ℕ, ◌<◌, List, Some}
use Rattle.std.specs.FinMap.{get}
use Rattle.hk_reading.specs.declared.reading.Reading.{Reading}
use Rattle.hk_state.specs.declared.entry.Entry.{Entry}
use Rattle.hk_state.specs.declared.entry.Entry.TheVariants as entry
use Rattle.hk_state.specs.declared.key.Key.TheVariants as key
use Rattle.hk_state.specs.Entries.{Entries}
use Rattle.hk_state.specs.Ledger.{LedgerValue}
use Rattle.hk_draft.specs.Extends.{IsEmission}

-- an entry of the queue reads as an emitted transaction, for its ledgers
abbrev pub IsQueued : (List ℕ → Reading) → Entry → Type 0
IsQueued reads (entry.Emitted blob hash first last callback) = IsEmission reads blob first last
IsQueued reads other = ⊥

-- what is queued under a number is below the next one, and reads back
abbrev pub IsQueueGood : (List ℕ → Reading) → ℕ → Entries → Type 0
IsQueueGood reads next m =
    (n : ℕ) (x : Entry) → get m (key.Emitted n) ≡ Some x → (n < next) × IsQueued reads x

abbrev pub IsGood : (List ℕ → Reading) → LedgerValue → Type 0
IsGood reads ledger = IsQueueGood reads ledger.next ledger.entries
