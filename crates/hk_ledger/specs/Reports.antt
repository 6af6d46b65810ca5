-- What a report says of an event. This project's own.
use Rattle.std.specs.Prelude.{◌≡◌, ℕ, List, ◌++◌, Option, Some, None}
use Rattle.std.specs.FinMap.{get}
use Rattle.hk_lines.specs.declared.output_line.OutputLine.{OutputLine}
use Rattle.hk_reading.specs.Reading.{reading}
use Rattle.hk_state.specs.declared.key.Key.TheVariants as key
use Rattle.hk_state.specs.Entries.{Entries}
use Rattle.hk_state.specs.Ledger.{LedgerValue}
use Rattle.hk_draft.specs.Drafted.{draft_of}
use Rattle.hk_draft.specs.Reads.{reads_emitted}
use Rattle.hk_events.specs.Confined.{Deletes}
use Rattle.hk_events.specs.Engine.{Engine}
use Rattle.hk_events.specs.Events.{Event}
use Rattle.hk_events.specs.Laws.{Holds}
use Rattle.hk_events.specs.Performed.{Performed}
use Rattle.hk_events.specs.Settled.{due, sender_at, settle_next, settled_all}
use Rattle.hk_events.specs.Whole.{sender_of}
use Rattle.hk_perform.specs.declared.performed.Performed as declared
use Rattle.hk_settle.specs.Due.{IsNext}
use Rattle.hk_ledger.specs.declared.report.Report.{Report}

-- the event that a report tells of, with the ledger after it
abbrev pub event_of : LedgerValue → Report → Event
event_of ledger report = record {
  ledger = ledger;
  result = report.result;
  fee = report.fee;
  lines = report.lines;
}

-- what holds of a transaction of these bytes that is handed in
abbrev pub HoldsFor : List ℕ → LedgerValue → Event → Type 0
HoldsFor bytes before event =
    Holds reads_emitted before event (Deletes (reading bytes) event) (sender_of (reading bytes))

-- what the answer to a transaction says of it, on the entries that the event began with
abbrev pub performed_of : Entries → declared.Performed → Performed
performed_of m answer = record {
  result = answer.result;
  fee = answer.fee;
  draft = draft_of m answer.overlay answer.emissions;
  records = answer.records;
}

-- what holds of the settlement of the next emission that is due: nothing is deleted there
pub record HoldsSettled (before : LedgerValue) (event : Event) : Type 0 where
  pub number : ℕ
  pub next : IsNext before 0 number
  pub holds : Holds reads_emitted before event (λ q. ⊥)
      (sender_at reads_emitted (get before.entries (key.Emitted number)))

-- an answer is the settlement of the next emission that is due, or none is due and the ledger stays
abbrev pub SettlesNext : Engine → LedgerValue → LedgerValue → Option Report → Type 0
SettlesNext e before now None = (settle_next e before ≡ None) × (now ≡ before)
SettlesNext e before now (Some report) = settle_next e before ≡ Some (event_of now report)

-- the settlements of all emissions that are due leave this ledger, and their lines stand behind earlier ones
pub record SettledSo (e : Engine) (before now : LedgerValue) (earlier all : List OutputLine) : Type 0 where
  pub ledger : now ≡ (settled_all e before (due before)).ledger
  pub lines : all ≡ earlier ++ (settled_all e before (due before)).lines
