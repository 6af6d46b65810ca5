-- The settlement of queued emissions, with their callbacks. This project's own.
use Rattle.std.specs.Prelude.{ℕ, ◌+◌, Bool, nat_lt, nat_le, false, if◌then◌else◌, List, [], ◌∷◌, ◌++◌, length, drop}
use Rattle.std.specs.Prelude.{Option, Some, None}
use Rattle.std.specs.FinMap.{get, remove, entries}
use Rattle.hk_base.specs.declared.ids.AccountId.{AccountId}
use Rattle.hk_base.specs.declared.ids.Hash256.{Hash256}
use Rattle.hk_lines.specs.declared.output_line.OutputLine.{OutputLine}
use Rattle.hk_lines.specs.declared.output_line.OutputLine.TheVariants as printed
use Rattle.hk_lines.specs.declared.result_name.ResultName.{ResultName}
use Rattle.hk_lines.specs.declared.settlement.Settlement.{Settlement}
use Rattle.hk_lines.specs.declared.settlement.Settlement.TheVariants.{Applied, Refused, Expired}
use Rattle.hk_reading.specs.declared.reading.Reading.{Reading}
use Rattle.hk_reading.specs.declared.reading.Reading.TheVariants as readings
use Rattle.hk_state.specs.declared.entry.Entry.{Entry}
use Rattle.hk_state.specs.declared.entry.Entry.TheVariants as entry
use Rattle.hk_state.specs.declared.key.Key.{Key}
use Rattle.hk_state.specs.declared.key.Key.TheVariants as key
use Rattle.hk_state.specs.declared.ledger.Header.{Header}
use Rattle.hk_state.specs.Entries.{Entries}
use Rattle.hk_state.specs.Ledger.{LedgerValue, with_header}
use Rattle.hk_draft.specs.Draft.{Draft, draft_on, relisted}
use Rattle.hk_draft.specs.Ends.{ChainEnd, kept, rejected}
use Rattle.hk_events.specs.Engine.{Engine}
use Rattle.hk_events.specs.Results.{emitted}
use Rattle.hk_events.specs.Performed.{Performed, transaction}
use Rattle.hk_events.specs.Events.{Event, entered, kept_lines}
use Rattle.hk_events.specs.Whole.{sender_of}

-- an emission that waits: its bytes, the hash of its hook, its window, and the account that is called back
pub record Waiting : Type 0 where
  pub blob : List ℕ
  pub hash : Hash256
  pub first : ℕ
  pub last : ℕ
  pub callback : Option AccountId

-- what came of an emission, before its callback
pub record Settled : Type 0 where
  pub word : Settlement
  pub result : Option ResultName
  pub fee : ℕ
  pub draft : Draft
  pub records : List OutputLine

-- the ledger without that emission
abbrev pub without : LedgerValue → ℕ → LedgerValue
without ledger number = record ledger { entries = remove ledger.entries (key.Emitted number) }

abbrev pub expired : Entries → Settled
expired m = record { word = Expired; result = None; fee = 0; draft = draft_on m; records = [] }

-- applied where a fee was taken
abbrev pub word_of : ℕ → Settlement
word_of fee = if nat_lt 0 fee then Applied else Refused

abbrev pub performed_as : Performed → Settled
performed_as p = record {
  word = word_of p.fee;
  result = Some p.result;
  fee = p.fee;
  draft = p.draft;
  records = p.records;
}

-- on the ledger without it
abbrev pub settlement : Engine → Entries → LedgerValue → Waiting → Settled
settlement e before ledger w =
    if nat_lt w.last ledger.header.seq then expired ledger.entries
    else performed_as (transaction e before ledger emitted (e.reads_emitted w.blob))

-- what a callback is told
abbrev pub argument : Settlement → ℕ
argument Applied = 0
argument other = 1

-- what stands after the callback, and its lines
pub record Answered : Type 0 where
  pub draft : Draft
  pub lines : List OutputLine

-- what a callback emitted, behind the emissions of its settlement
abbrev pub own_part : Draft → Draft → Draft
own_part s d = record {
  entries = d.entries;
  written = d.written;
  emissions = drop (length s.emissions) d.emissions;
}

-- what a callback wrote and emitted is kept where it accepts; `next` is the number of the settlement's first emission
abbrev pub answered : ℕ → Draft → ChainEnd → Answered
answered next s (kept d records) = record {
  draft = d;
  lines = kept_lines (next + length s.emissions) (own_part s d) records;
}
answered next s (rejected records) = record { draft = s; lines = records }

-- the callback, where the emission names an account
abbrev pub called_back : Engine → Entries → LedgerValue → Waiting → Settled → Reading → Option AccountId → Answered
called_back e before ledger w s (readings.Transaction t) (Some account) =
    answered ledger.next s.draft
    (e.callback ledger.header ledger.next before t account w.hash (argument s.word) (relisted s.draft))
called_back e before ledger w s other callback = record { draft = s.draft; lines = [] }

abbrev pub settled_by : LedgerValue → ℕ → Settled → Answered → Event
settled_by ledger number s a =
    record {
      ledger = entered ledger a.draft s.fee;
      result = s.result;
      fee = s.fee;
      lines = printed.Settled number s.word s.result s.fee ∷ (kept_lines ledger.next s.draft s.records ++ a.lines);
    }

-- one emission, on the ledger without it
abbrev pub settled_waiting : Engine → Entries → LedgerValue → ℕ → Waiting → Event
settled_waiting e before ledger number w =
    settled_by ledger number (settlement e before ledger w)
    (called_back e before ledger w (settlement e before ledger w) (e.reads_emitted w.blob) w.callback)

-- under this number nothing waits
abbrev pub nothing_settled : LedgerValue → Event
nothing_settled ledger = record { ledger = ledger; result = None; fee = 0; lines = [] }

abbrev pub settled_entry : Engine → LedgerValue → ℕ → Option Entry → Event
settled_entry e ledger number (Some (entry.Emitted blob hash first last callback)) =
    settled_waiting e ledger.entries (without ledger number) number
    (record { blob = blob; hash = hash; first = first; last = last; callback = callback })
settled_entry e ledger number other = nothing_settled ledger

abbrev pub settled : Engine → LedgerValue → ℕ → Event
settled e ledger number = settled_entry e ledger number (get ledger.entries (key.Emitted number))

-- the account whose fee an emission takes
abbrev pub sender_at : (List ℕ → Reading) → Option Entry → Option AccountId
sender_at reads (Some (entry.Emitted blob hash first last callback)) = sender_of (reads blob)
sender_at reads other = None

-- the numbers of the emissions that pass a test, the least first
abbrev pub number_of : (Entry → Bool) → Key → Entry → List ℕ
number_of test (key.Emitted number) x = if test x then number ∷ [] else []
number_of test other x = []

abbrev pub numbers : (Entry → Bool) → List (Key × Entry) → List ℕ
numbers test [] = []
numbers test (x ∷ xs) = number_of test x.0 x.1 ++ numbers test xs

-- the ledger of that sequence number takes the emission, or comes after all that do
abbrev pub is_due : ℕ → Entry → Bool
is_due seq (entry.Emitted blob hash first last callback) = nat_le first seq
is_due seq other = false

-- an entry is there, and passes
abbrev pub passes : (Entry → Bool) → Option Entry → Bool
passes test None = false
passes test (Some x) = test x

abbrev pub due : LedgerValue → List ℕ
due ledger = numbers (is_due ledger.header.seq) (entries ledger.entries)

abbrev pub first_settled : Engine → LedgerValue → List ℕ → Option Event
first_settled e ledger [] = None
first_settled e ledger (number ∷ later) = Some (settled e ledger number)

-- the least number that is due
abbrev pub settle_next : Engine → LedgerValue → Option Event
settle_next e ledger = first_settled e ledger (due ledger)

-- what all settlements of an opened ledger leave, and their lines
pub record Opened : Type 0 where
  pub ledger : LedgerValue
  pub lines : List OutputLine

abbrev pub and_then : Event → Opened → Opened
and_then event later = record { ledger = later.ledger; lines = event.lines ++ later.lines }

abbrev pub settled_all : Engine → LedgerValue → List ℕ → Opened
settled_all e ledger [] = record { ledger = ledger; lines = [] }
settled_all e ledger (number ∷ later) =
    and_then (settled e ledger number) (settled_all e (settled e ledger number).ledger later)

-- a ledger is opened, and the emissions that are due are settled
abbrev pub opened : Engine → LedgerValue → Header → Opened
opened e ledger header = settled_all e (with_header ledger header) (due (with_header ledger header))
