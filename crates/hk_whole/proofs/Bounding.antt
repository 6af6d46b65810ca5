-- The lines of events are of runs within their bounds, where the lines of chains and callbacks are.
use Rattle.std.proofs.Common.{ℕ, ◌+◌, ◌==◌, Bool, true, false, if◌then◌else◌, nat_lt, List, [], ◌∷◌, ◌++◌, length}
use Rattle.std.proofs.Common.{Option, Some, None}
use Rattle.std.specs.FinMap.{get}
use Rattle.hk_base.specs.declared.ids.AccountId.{AccountId}
use Rattle.hk_base.specs.declared.ids.Hash256.{Hash256}
use Rattle.xo_object.specs.declared.transaction.Transaction.{Transaction}
use Rattle.hk_lines.specs.declared.output_line.OutputLine.{OutputLine}
use Rattle.hk_lines.specs.declared.result_name.ResultName.{ResultName}
use Rattle.hk_lines.specs.declared.verdict.Verdict.{Verdict}
use Rattle.hk_reading.specs.declared.reading.Reading.{Reading}
use Rattle.hk_reading.specs.declared.reading.Reading.TheVariants as readings
use Rattle.hk_reading.specs.Readings.{hook_kind}
use Rattle.hk_emit.specs.declared.emission.Emission.{Emission}
use Rattle.hk_state.specs.declared.entry.Entry.{Entry}
use Rattle.hk_state.specs.declared.entry.Entry.TheVariants as entry
use Rattle.hk_state.specs.declared.key.Key.TheVariants as key
use Rattle.hk_state.specs.declared.key.StateKey.{StateKey}
use Rattle.hk_state.specs.declared.ledger.Header.{Header}
use Rattle.hk_state.specs.Entries.{Entries}
use Rattle.hk_state.specs.Ledger.{LedgerValue}
use Rattle.hk_state.specs.Rules.{Effect, keeps, fails}
use Rattle.hk_draft.specs.Draft.{Draft, draft_on, relisted}
use Rattle.hk_draft.specs.Ends.{ChainEnd, kept, rejected}
use Rattle.hk_draft.specs.Lists.{Each}
use Rattle.hk_draft.proofs.Extended.{each-append}
use Rattle.hk_chain.specs.Laws.{lines_of}
use Rattle.hk_events.specs.Chains.{behind, onward, chains, sides}
use Rattle.hk_events.specs.Complete.{IsCareful, IsComplete}
use Rattle.hk_events.specs.Engine.{Engine}
use Rattle.hk_events.specs.Events.{applied, kept_lines}
use Rattle.hk_events.specs.Good.{IsGood}
use Rattle.hk_events.specs.Items.{ItemEnd, leaves, stops, hooks_end}
use Rattle.hk_events.specs.Lawful.{IsLawful}
use Rattle.hk_events.specs.Performed.{after_items, after_rules, after_chains, unless_refused, transaction}
use Rattle.hk_events.specs.Printed.{state_lines, emit_lines}
use Rattle.hk_events.specs.Results.{Origin, refusal, paid, handed, emitted}
use Rattle.hk_events.specs.Settled.{Waiting, Settled, Opened, without, expired, performed_as, settlement, argument}
use Rattle.hk_events.specs.Settled.{own_part, answered, called_back, settled_entry, settled, settled_all}
use Rattle.hk_events.proofs.Settling.{settled_law}
use Rattle.hk_events.proofs.Staying.{stays_law}
use Rattle.hk_whole.specs.Bounded.{IsBounded}

abbrev pub AreBounded : List OutputLine → Type 0
AreBounded lines = Each IsBounded lines

-- the lines of chains and callbacks over entries
pub record RunsBounded (e : Engine) (before : Entries) : Type 0 where
  pub chains : (header : Header) (next : ℕ) (t : Transaction) (account : AccountId) (a : Draft) →
      AreBounded (lines_of (e.chain header next before t account a))
  pub callbacks : (header : Header) (next : ℕ) (t : Transaction) (account : AccountId) (hash : Hash256) (word : ℕ)
      (a : Draft) → AreBounded (lines_of (e.callback header next before t account hash word a))

states_bounded : (m : Entries) (written : List StateKey) → AreBounded (state_lines m written)
states_bounded m [] = tt
states_bounded m (q ∷ written) = (tt, states_bounded m written)

emits_bounded : (next : ℕ) (es : List Emission) → AreBounded (emit_lines next es)
emits_bounded next [] = tt
emits_bounded next (e ∷ es) = (tt, emits_bounded (next + 1) es)

kept_bounded : (next : ℕ) (d : Draft) (records : List OutputLine) → AreBounded records →
    AreBounded (kept_lines next d records)
kept_bounded next d records runs =
    let states = state_lines d.entries d.written in
    let emits = emit_lines next d.emissions in
    each-append IsBounded records (states ++ emits) runs
    (each-append IsBounded states emits (states_bounded d.entries d.written) (emits_bounded next d.emissions))

-- ---- a transaction

behind_bounded : (records : List OutputLine) (x : ChainEnd) → AreBounded records → AreBounded (lines_of x) →
    AreBounded (lines_of (behind records x))
behind_bounded records (kept d more) one two = each-append IsBounded records more one two
behind_bounded records (rejected more) one two = each-append IsBounded records more one two

onward_bounded : (x : ChainEnd) (later : Draft → ChainEnd) → AreBounded (lines_of x) →
    ((d : Draft) → AreBounded (lines_of (later d))) → AreBounded (lines_of (onward x later))
onward_bounded (kept d records) later one two = behind_bounded records (later d) one (two d)
onward_bounded (rejected records) later one two = one

chains_bounded : (chain : AccountId → Draft → ChainEnd) →
    ((account : AccountId) (a : Draft) → AreBounded (lines_of (chain account a))) → (accounts : List AccountId)
    (d : Draft) → AreBounded (lines_of (chains chain accounts d))
chains_bounded chain each [] d = tt
chains_bounded chain each (account ∷ accounts) d =
    onward_bounded (chain account d) (chains chain accounts) (each account d) (chains_bounded chain each accounts)

module _ (e : Engine) (before : Entries) (runs : RunsBounded e before) (ledger : LedgerValue) where
  module _ (m : Entries) (t : Transaction) (records : List OutputLine) (are : AreBounded records) where
    items_bounded : (x : ItemEnd) → AreBounded (after_items m t records x).records
    items_bounded (leaves d) = are
    items_bounded (stops name) = are

    rules_bounded : (d : Draft) (x : Effect) → AreBounded (after_rules m t records d x).records
    rules_bounded d (keeps n) = are
    rules_bounded d (fails name) = are

    effect_bounded : (d : Draft) (b : Bool) →
        AreBounded (if b then after_items m t records (hooks_end e t.account t.hooks d)
        else after_rules m t records d (e.rules ledger.header d.entries t)).records
    effect_bounded d true = items_bounded (hooks_end e t.account t.hooks d)
    effect_bounded d false = rules_bounded d (e.rules ledger.header d.entries t)

  after_bounded : (m : Entries) (t : Transaction) (x : ChainEnd) → AreBounded (lines_of x) →
      AreBounded (after_chains e ledger.header m t x).records
  after_bounded m t (kept d records) are = effect_bounded m t records are d (t.kind == hook_kind)
  after_bounded m t (rejected records) are = are

  unless_bounded : (origin : Origin) (t : Transaction) (name : Option ResultName) →
      AreBounded (unless_refused e before ledger origin t name).records
  unless_bounded origin t (Some name) = tt
  unless_bounded origin t None =
      let m = paid ledger.entries origin t in
      let chain = e.chain ledger.header ledger.next before t in
      after_bounded m t (chains chain (sides t) (draft_on m))
      (chains_bounded chain (runs.chains ledger.header ledger.next t) (sides t) (draft_on m))

  pub transaction_bounded : (origin : Origin) (reading : Reading) →
      AreBounded (transaction e before ledger origin reading).records
  transaction_bounded origin readings.TooLong = tt
  transaction_bounded origin readings.Unparsed = tt
  transaction_bounded origin readings.Malformed = tt
  transaction_bounded origin (readings.Transaction t) =
      unless_bounded origin t (refusal e before ledger origin t)

pub applied_bounded : (e : Engine) (ledger : LedgerValue) (verdict : Verdict) (blob : List ℕ) →
    RunsBounded e ledger.entries → AreBounded (applied e ledger verdict blob).lines
applied_bounded e ledger verdict blob runs =
    let p = transaction e ledger.entries ledger (handed verdict) (e.reads blob) in
    kept_bounded ledger.next p.draft p.records
    (transaction_bounded e ledger.entries runs ledger (handed verdict) (e.reads blob))

-- ---- a settlement

answer_bounded : (next : ℕ) (s : Draft) (x : ChainEnd) → AreBounded (lines_of x) → AreBounded (answered next s x).lines
answer_bounded next s (kept d records) are = kept_bounded (next + length s.emissions) (own_part s d) records are
answer_bounded next s (rejected records) are = are

module _ (e : Engine) (ledger : LedgerValue) (runs : RunsBounded e ledger.entries) (number : ℕ) where
  abbrev left : LedgerValue
  left = without ledger number

  module _ (w : Waiting) where
    came_bounded : (late : Bool) →
        AreBounded (if late then expired left.entries
        else performed_as (transaction e ledger.entries left emitted (e.reads_emitted w.blob))).records
    came_bounded true = tt
    came_bounded false = transaction_bounded e ledger.entries runs left emitted (e.reads_emitted w.blob)

    called_bounded : (s : Settled) (reading : Reading) (callback : Option AccountId) →
        AreBounded (called_back e ledger.entries left w s reading callback).lines
    called_bounded s (readings.Transaction t) (Some account) =
        answer_bounded ledger.next s.draft
        (e.callback ledger.header ledger.next ledger.entries t account w.hash (argument s.word) (relisted s.draft))
        (runs.callbacks ledger.header ledger.next t account w.hash (argument s.word) (relisted s.draft))
    called_bounded s (readings.Transaction t) None = tt
    called_bounded s readings.TooLong callback = tt
    called_bounded s readings.Unparsed callback = tt
    called_bounded s readings.Malformed callback = tt

  entry_bounded : (found : Option Entry) → AreBounded (settled_entry e ledger number found).lines
  entry_bounded (Some (entry.Emitted blob hash first last callback)) =
      let w : Waiting =
      record { blob = blob; hash = hash; first = first; last = last; callback = callback } in
      let s : Settled = settlement e ledger.entries left w in
      let a = called_back e ledger.entries left w s (e.reads_emitted blob) callback in (
        tt,
        each-append IsBounded (kept_lines ledger.next s.draft s.records) a.lines
            (kept_bounded ledger.next s.draft s.records (came_bounded w (nat_lt last ledger.header.seq)))
            (called_bounded w s (e.reads_emitted blob) callback),
      )
  entry_bounded None = tt
  entry_bounded (Some other) = tt

  settled_bounded : AreBounded (settled e ledger number).lines
  settled_bounded = entry_bounded (get ledger.entries (key.Emitted number))

-- ---- the settlements of an opened ledger, which stays complete

pub record OpensBounded (e : Engine) (o : Opened) : Type 0 where
  pub good : IsGood e.reads_emitted o.ledger
  pub complete : IsComplete e.checks o.ledger.entries
  pub lines : AreBounded o.lines

module _ (e : Engine) (lawful : IsLawful e) (careful : IsCareful e)
    (runs : (m : Entries) → IsComplete e.checks m → RunsBounded e m) where
  pub all_bounded : (ns : List ℕ) (ledger : LedgerValue) → IsGood e.reads_emitted ledger →
      IsComplete e.checks ledger.entries → OpensBounded e (settled_all e ledger ns)
  all_bounded [] ledger good complete = record { good = good; complete = complete; lines = tt }
  all_bounded (n ∷ ns) ledger good complete =
      let event = settled e ledger n in
      let stays = stays_law e ledger lawful careful good complete in
      let rest =
      all_bounded ns event.ledger (settled_law e ledger n lawful good).good (stays.settled_so n) in
      record {
        good = rest.good;
        complete = rest.complete;
        lines =
            each-append IsBounded event.lines (settled_all e event.ledger ns).lines
            (settled_bounded e ledger (runs ledger.entries complete) n) rest.lines;
      }
