-- Whole or nothing: what an event changes is what it prints. It speaks of the ledgers before and after, and of the
-- report alone. This project's own.
use Rattle.std.specs.Prelude.{◌≡◌, ◌≢◌, ℕ, ◌+◌, ◌≤◌, ◌==◌, Bool, true, false, if◌then◌else◌, List, [], ◌∷◌, Option}
use Rattle.std.specs.Prelude.{Some, None}
use Rattle.std.specs.Option.{option_map}
use Rattle.std.specs.FinMap.{get}
use Rattle.hk_base.specs.declared.ids.AccountId.{AccountId}
use Rattle.hk_lines.specs.declared.output_line.OutputLine.{OutputLine}
use Rattle.hk_lines.specs.declared.output_line.OutputLine.TheVariants as printed
use Rattle.hk_lines.specs.declared.result_name.ResultName.TheVariants.{Success}
use Rattle.hk_reading.specs.declared.reading.Reading.{Reading}
use Rattle.hk_reading.specs.declared.reading.Reading.TheVariants as readings
use Rattle.hk_state.specs.declared.entry.Entry.{Entry}
use Rattle.hk_state.specs.declared.entry.Entry.TheVariants as entry
use Rattle.hk_state.specs.declared.key.Key.{Key}
use Rattle.hk_state.specs.declared.key.Key.TheVariants as key
use Rattle.hk_state.specs.declared.key.StateKey.{StateKey}
use Rattle.hk_state.specs.Keys.{is_key, as_key}
use Rattle.hk_state.specs.Entries.{Entries, change_or}
use Rattle.hk_state.specs.Ledger.{LedgerValue}
use Rattle.hk_draft.specs.Lists.{Each}
use Rattle.hk_events.specs.Lists.{counted, last_of}
use Rattle.hk_events.specs.Events.{Event}

-- what a `state` line tells of a key
abbrev pub change_of : StateKey → OutputLine → Option (Option Entry)
change_of q (printed.State account namespace k value) =
    if is_key (as_key q) (key.State account namespace k)
    then Some (option_map (λ bytes. entry.State bytes) value)
    else None
change_of q other = None

-- an entry that waits for these ledgers
abbrev pub WaitsFor : ℕ → ℕ → Option Entry → Type 0
WaitsFor first last (Some (entry.Emitted blob hash from to callback)) = (from ≡ first) × (to ≡ last)
WaitsFor first last other = ⊥

-- the emission of an `emit` line waits under its number
abbrev pub IsQueuedIn : Entries → OutputLine → Type 0
IsQueuedIn m (printed.Emit number first last) = WaitsFor first last (get m (key.Emitted number))
IsQueuedIn m other = Unit {0}

abbrev pub is_emission : OutputLine → Bool
is_emission (printed.Emit number first last) = true
is_emission other = false

-- the `emit` line of a number, and its `settled` line
abbrev pub is_emit : ℕ → OutputLine → Bool
is_emit n (printed.Emit number first last) = number == n
is_emit n other = false

abbrev pub is_settled : ℕ → OutputLine → Bool
is_settled n (printed.Settled number word result fee) = number == n
is_settled n other = false

-- the lines before the first `callback` line
abbrev pub until_callback : List OutputLine → List OutputLine
until_callback [] = []
until_callback (printed.Callback account position outcome count bound ∷ lines) = []
until_callback (line ∷ lines) = line ∷ until_callback lines

-- neither a `state` nor an `emit` line
abbrev pub IsQuiet : OutputLine → Type 0
IsQuiet (printed.State account namespace k value) = ⊥
IsQuiet (printed.Emit number first last) = ⊥
IsQuiet other = Unit {0}

-- neither of a State entry nor of an emission
abbrev pub is_plain : Key → Bool
is_plain (key.State owner namespace k) = false
is_plain (key.Emitted number) = false
is_plain other = true

abbrev pub is_account : Key → Option AccountId → Bool
is_account k None = false
is_account k (Some account) = is_key k (key.Account account)

-- the account whose fee and sequence a transaction takes
abbrev pub sender_of : Reading → Option AccountId
sender_of (readings.Transaction t) = Some t.account
sender_of other = None

abbrev pub HasFailed : Event → Type 0
HasFailed event = event.result ≢ Some Success

-- State entries are as their last lines say, and all others as before; the emissions of the `emit` lines wait, the
-- settled one is gone, and all others are as before. Where the result isn't success, `state` and `emit` lines stand
-- behind a `callback` line alone, and nothing else changes but the sender's account and the burnt fees; and these too
-- stay as they are where there is no fee.
pub record IsWholeOrNothing (before : LedgerValue) (event : Event) (sender : Option AccountId) : Type 0 where
  pub state : (q : StateKey) → get event.ledger.entries (as_key q)
      ≡ change_or (last_of (change_of q) event.lines) (get before.entries (as_key q))
  pub queued : Each (IsQueuedIn event.ledger.entries) event.lines
  pub next : event.ledger.next ≡ before.next + counted is_emission event.lines
  pub gone : (n : ℕ) → 1 ≤ counted (is_settled n) event.lines → get event.ledger.entries (key.Emitted n) ≡ None
  pub queue : (n : ℕ) → counted (is_emit n) event.lines ≡ 0 → counted (is_settled n) event.lines ≡ 0 →
      get event.ledger.entries (key.Emitted n) ≡ get before.entries (key.Emitted n)
  pub quiet : HasFailed event → Each IsQuiet (until_callback event.lines)
  pub alone : HasFailed event → (k : Key) → is_plain k ≡ true → is_account k sender ≡ false →
      get event.ledger.entries k ≡ get before.entries k
  pub free : HasFailed event → event.fee ≡ 0 → (k : Key) → is_plain k ≡ true →
      get event.ledger.entries k ≡ get before.entries k
  pub burnt : event.ledger.burnt ≡ before.burnt + event.fee
  pub header : event.ledger.header ≡ before.header
