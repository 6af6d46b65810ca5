-- What the code's answers say by the definitions. This project's own.
use Rattle.std.specs.Prelude.{◌≡◌, ℕ, List}
use Rattle.hk_base.specs.declared.ids.AccountId.{AccountId}
use Rattle.hk_emit.specs.declared.emission.Emission.{Emission}
use Rattle.hk_lines.specs.declared.settlement.Settlement.{Settlement}
use Rattle.hk_reading.specs.declared.reading.Reading.TheVariants as readings
use Rattle.hk_state.specs.Entries.{Entries}
use Rattle.hk_state.specs.Ledger.{LedgerValue}
use Rattle.hk_state.specs.Rules.{Rules}
use Rattle.hk_state.specs.Writes.{Writes}
use Rattle.hk_draft.specs.Draft.{Draft, relisted}
use Rattle.hk_draft.specs.Drafted.{draft_of}
use Rattle.hk_chain.specs.Callback.{callback_of}
use Rattle.hk_events.specs.Events.{Event, entered}
use Rattle.hk_events.specs.Settled as defined
use Rattle.hk_events.specs.Settled.{answered, argument, called_back, settlement, without}
use Rattle.hk_engine.specs.Engine.{engine_of}
use Rattle.hk_settle.specs.declared.answering.Answered as answering
use Rattle.hk_settle.specs.declared.settled.Settled as settled
use Rattle.hk_settle.specs.declared.settling.Settling.{Settling}
use Rattle.hk_settle.specs.declared.waiting.Waiting.{Waiting}
use Rattle.hk_settle.specs.Waits.{waiting_of}

-- what came of an emission before its callback, on the entries that the event began with
abbrev pub settling_of : Entries → Settling → defined.Settled
settling_of m s = record {
  word = s.word;
  result = s.result;
  fee = s.fee;
  draft = draft_of m s.overlay s.emissions;
  records = s.records;
}

-- what is to come of it, by these rules
abbrev pub settled_by : Rules → LedgerValue → ℕ → Waiting → defined.Settled
settled_by rules ledger number w =
    settlement (engine_of rules) ledger.entries (without ledger number) (waiting_of w)

-- what stands after the callback
abbrev pub answered_of : Entries → answering.Answered → defined.Answered
answered_of m a = record { draft = draft_of m a.overlay a.emissions; lines = a.lines }

-- what the callback of the hook on an account makes of a draft, told with this word
abbrev pub answered_by : LedgerValue → Waiting → AccountId → Settlement → Draft → defined.Answered
answered_by ledger w account word d =
    answered ledger.next d
    (callback_of w.setting ledger.next ledger.entries account w.hash (argument word) (relisted d))

-- an answer is that of the callback, by whatever rules for transactions, where what came of the emission has this word
-- and left this
abbrev pub Answers : LedgerValue → Waiting → Settlement → Writes → List Emission → answering.Answered → Type 0
Answers ledger w word overlay emissions a =
    (rules : Rules) (number : ℕ) (s : defined.Settled) → s.word ≡ word →
    s.draft ≡ draft_of ledger.entries overlay emissions →
    answered_of ledger.entries a
    ≡ called_back (engine_of rules) ledger.entries (without ledger number) (waiting_of w) s
    (readings.Transaction w.setting.transaction) w.callback

-- the event that an answer leaves when it enters the ledger
abbrev pub left_by : LedgerValue → settled.Settled → Event
left_by ledger a = record {
  ledger = entered ledger (draft_of ledger.entries a.overlay a.emissions) a.fee;
  result = a.result;
  fee = a.fee;
  lines = a.lines;
}
