-- Laws of events.
use Rattle.std.specs.Prelude.{◌≡◌, ℕ, zero, suc, ◌+◌, ◌<◌, ◌≤◌, true, List, [], ◌∷◌, length, Option, Some, None}
use Rattle.std.specs.FinMap.{get}
use Rattle.hk_base.specs.declared.ids.AccountId.{AccountId}
use Rattle.xo_object.specs.declared.transaction.HookItem.TheVariants.{DeleteNamespace}
use Rattle.hk_lines.specs.declared.verdict.Verdict.{Verdict}
use Rattle.hk_reading.specs.declared.reading.Reading.{Reading}
use Rattle.hk_state.specs.declared.key.Key.TheVariants as key
use Rattle.hk_state.specs.declared.key.StateKey.{StateKey}
use Rattle.hk_emit.specs.declared.emission.Emission.{Emission}
use Rattle.hk_state.specs.Keys.{as_key}
use Rattle.hk_state.specs.Entries.{Entries}
use Rattle.hk_state.specs.Writes.{Writes}
use Rattle.hk_draft.specs.Draft.{Draft}
use Rattle.hk_state.specs.Balances.{balances}
use Rattle.hk_state.specs.Ledger.{LedgerValue}
use Rattle.hk_state.specs.Reserves.{reserve}
use Rattle.hk_events.specs.Engine.{Engine}
use Rattle.hk_events.specs.Events.{Event, applied}
use Rattle.hk_events.specs.Settled.{Opened, settled, settled_all, settle_next, and_then, due, is_due, passes, sender_at}
use Rattle.hk_events.specs.Items.{ItemEnd, leaves, stops, is_in, item_end}
use Rattle.hk_events.specs.Overlays.{OverlaysMean}
use Rattle.hk_events.specs.Confined.{IsConfined, Deletes}
use Rattle.hk_events.specs.Whole.{IsWholeOrNothing, sender_of}
use Rattle.hk_events.specs.Good.{IsGood}
use Rattle.hk_events.specs.Complete.{IsComplete, IsCareful}
use Rattle.hk_events.specs.Limits.{IsWithin, IsMeasured, RestsOnOwn}
use Rattle.hk_events.specs.Lawful.{IsLawful}

-- an event is confined, and whole or nothing; the queue stays good; and no drop comes or goes
pub record Holds (reads : List ℕ → Reading) (before : LedgerValue) (event : Event) (Deleted : StateKey → Type 0)
    (sender : Option AccountId) : Type 0 where
  pub confined : IsConfined before event Deleted
  pub whole : IsWholeOrNothing before event sender
  pub good : IsGood reads event.ledger
  pub sum : balances event.ledger.entries + event.ledger.burnt ≡ balances before.entries + before.burnt

-- so is each transaction that is handed in
abbrev pub AppliedHolds : Type 0
AppliedHolds = (e : Engine) (ledger : LedgerValue) (verdict : Verdict) (blob : List ℕ) → IsLawful e →
    IsGood e.reads_emitted ledger →
    Holds e.reads_emitted ledger (applied e ledger verdict blob)
    (Deletes (e.reads blob) (applied e ledger verdict blob)) (sender_of (e.reads blob))

-- and each settlement of a queued emission, with its callback; nothing is deleted there
abbrev pub SettledHolds : Type 0
SettledHolds = (e : Engine) (ledger : LedgerValue) (number : ℕ) → IsLawful e → IsGood e.reads_emitted ledger →
    Holds e.reads_emitted ledger (settled e ledger number) (λ q. ⊥)
    (sender_at e.reads_emitted (get ledger.entries (key.Emitted number)))

-- the settlement of the least due emission leaves all others due, and none more
abbrev pub DueFalls : Type 0
DueFalls = (e : Engine) (ledger : LedgerValue) (number : ℕ) (later : List ℕ) → IsLawful e →
    IsGood e.reads_emitted ledger → due ledger ≡ number ∷ later → due (settled e ledger number).ledger ≡ later

-- where there is a next settlement
abbrev pub on_next : LedgerValue → Option Event → (Event → Opened) → Opened
on_next ledger None later = record { ledger = ledger; lines = [] }
on_next ledger (Some event) later = later event

-- the next emission is settled while one is due, so many times at most
abbrev pub settled_while : Engine → ℕ → LedgerValue → Opened
settled_while e zero ledger = record { ledger = ledger; lines = [] }
settled_while e (suc most) ledger =
    on_next ledger (settle_next e ledger) (λ event. and_then event (settled_while e most event.ledger))

-- which comes to the settlement of those that were due at first, and leaves none due
pub record SettlesAll (e : Engine) (ledger : LedgerValue) : Type 0 where
  pub all : (most : ℕ) → length (due ledger) ≤ most → settled_while e most ledger ≡ settled_all e ledger (due ledger)
  pub none : due (settled_all e ledger (due ledger)).ledger ≡ []

abbrev pub SettlesWhileDue : Type 0
SettlesWhileDue = (e : Engine) (ledger : LedgerValue) → IsLawful e → IsGood e.reads_emitted ledger → SettlesAll e ledger

-- hooks and their state stay complete
pub record StaysSo (e : Engine) (ledger : LedgerValue) : Type 0 where
  pub applied_so : (verdict : Verdict) (blob : List ℕ) →
      IsComplete e.checks (applied e ledger verdict blob).ledger.entries
  pub settled_so : (number : ℕ) → IsComplete e.checks (settled e ledger number).ledger.entries

abbrev pub StaysComplete : Type 0
StaysComplete = (e : Engine) (ledger : LedgerValue) → IsLawful e → IsCareful e → IsGood e.reads_emitted ledger →
    IsComplete e.checks ledger.entries → StaysSo e ledger

-- reserves and numbers stay within their limits
pub record LimitsStay (e : Engine) (most : ℕ) (ledger : LedgerValue) : Type 0 where
  pub applied_so : (verdict : Verdict) (blob : List ℕ) → IsWithin e most (applied e ledger verdict blob).ledger
  pub settled_so : (number : ℕ) → IsWithin e most (settled e ledger number).ledger

abbrev pub StaysWithin : Type 0
StaysWithin = (e : Engine) (most : ℕ) (ledger : LedgerValue) → IsLawful e → IsMeasured e →
    IsGood e.reads_emitted ledger → IsWithin e most ledger → LimitsStay e most ledger

-- the reserve of an account rests on its Installs and State entries
abbrev pub ReserveRests : Type 0
ReserveRests = RestsOnOwn reserve

-- an item that deletes a namespace leaves no State entry there
abbrev pub HasNone : StateKey → ItemEnd → Type 0
HasNone q (leaves d) = get d.entries (as_key q) ≡ None
HasNone q (stops name) = ⊥

abbrev pub NamespacesEmptied : Type 0
NamespacesEmptied =
    (e : Engine) (position : ℕ) (q : StateKey) (d : Draft) → is_in q.owner q.namespace (as_key q) ≡ true →
    HasNone q (item_end e q.owner position (DeleteNamespace q.namespace) d)

-- the least number under which an emission is due is the first of those that are due; and where none is, there is none
pub record LeastDue (ledger : LedgerValue) (number : ℕ) : Type 0 where
  pub later : List ℕ
  pub is : due ledger ≡ number ∷ later

abbrev pub DueAt : LedgerValue → ℕ → Type 0
DueAt ledger n = passes (is_due ledger.header.seq) (get ledger.entries (key.Emitted n)) ≡ true

abbrev pub FindsDue : Type 0
FindsDue = (ledger : LedgerValue) (number : ℕ) → DueAt ledger number → ((n : ℕ) → n < number → DueAt ledger n → ⊥) →
    LeastDue ledger number

abbrev pub FindsNone : Type 0
FindsNone = (ledger : LedgerValue) → ((n : ℕ) → DueAt ledger n → ⊥) → due ledger ≡ []

-- what overlays and commits are of drafts
abbrev pub OverlaysSo : Type 0
OverlaysSo = (m : Entries) (w : Writes) (es : List Emission) → OverlaysMean m w es
