-- What a settlement keeps, by rules with their laws.
use Rattle.std.proofs.Common.{◌≡◌, ◌∙◌, ℕ, ◌+◌, ◌<◌, ◌≤◌, ◌^◌, Bool, true, false, if◌then◌else◌, List, [], sym, ap}
use Rattle.std.proofs.Common.{arith, refl}
use Rattle.std.proofs.Common.{Option, Some, None, nat_lt}
use Rattle.std.specs.FinMap.{get, remove, get-remove}
use Rattle.hk_base.specs.declared.ids.AccountId.{AccountId}
use Rattle.hk_reading.specs.declared.reading.Reading.{Reading}
use Rattle.hk_reading.specs.declared.reading.Reading.TheVariants as readings
use Rattle.hk_state.specs.declared.entry.Entry.{Entry}
use Rattle.hk_state.specs.declared.entry.Entry.TheVariants as entry
use Rattle.hk_state.specs.declared.key.Key.TheVariants as key
use Rattle.hk_state.specs.Keys.{is_key, keys_total}
use Rattle.hk_state.specs.Entries.{Entries}
use Rattle.hk_state.specs.Ledger.{LedgerValue}
use Rattle.hk_state.specs.Rules.{Rules}
use Rattle.hk_draft.specs.Draft.{Draft, relisted}
use Rattle.hk_draft.specs.Ends.{ChainEnd, CallbackFits, kept, rejected}
use Rattle.hk_draft.specs.Reads.{reads_emitted}
use Rattle.hk_events.specs.Complete.{IsCareful}
use Rattle.hk_events.specs.Engine.{Engine}
use Rattle.hk_events.specs.Events.{Event, entered, with_queued}
use Rattle.hk_events.specs.Laws.{Holds, StaysSo, LimitsStay}
use Rattle.hk_events.specs.Lawful.{IsLawful}
use Rattle.hk_events.specs.Limits.{IsMeasured}
use Rattle.hk_events.specs.Performed.{transaction}
use Rattle.hk_events.specs.Results.{emitted}
use Rattle.hk_events.specs.Settled as defined
use Rattle.hk_events.specs.Settled.{answered, argument, called_back, expired, performed_as, settled, settled_entry}
use Rattle.hk_events.specs.Settled.{settlement, sender_at, without}
use Rattle.hk_events.proofs.Applying.{queue_aside}
use Rattle.hk_events.proofs.Emptying.{cut_none}
use Rattle.hk_events.proofs.Queueing.{queue_below, queue_others}
use Rattle.hk_events.proofs.Settling.{settled_law, settlement_takes}
use Rattle.hk_events.proofs.Staying.{stays_law, within_law}
use Rattle.hk_events.specs.Whole.{sender_of}
use Rattle.hk_chain.specs.Programs.{Kept, AreOf}
use Rattle.hk_engine.specs.Engine.{engine_of}
use Rattle.hk_settle.specs.Needs.{IsSteady}
use Rattle.hk_ledger.specs.World.{IsWhole, most_drops}
use Rattle.hk_ledger.proofs.Defining.{DefinitionsStay, programs_stay, same_stay, stay_further, transaction_stay}

-- what a settlement needs to have of a ledger
pub steady : (ledger : LedgerValue) (opening : ℕ) → IsWhole ledger opening → IsSteady ledger
steady ledger opening whole =
    let conserved = whole.conserved in
    let most = whole.most in
    record {
      sum = omega (arith, conserved, most);
      reserves = whole.reserves;
      next = whole.next;
      queue = whole.queue;
    }

-- Definitions stay as they are, and nothing waits under 0
record Keeps (ledger : LedgerValue) (m : Entries) : Type 0 where
  pub stay : DefinitionsStay ledger.entries m
  pub none : get m (key.Emitted 0) ≡ None

module _ (e : Engine) (lawful : IsLawful e) (ledger : LedgerValue) (none : get ledger.entries (key.Emitted 0) ≡ None)
    (number : ℕ) where
  abbrev left : LedgerValue
  left = without ledger number

  left_keeps : Keeps ledger left.entries
  left_keeps = record {
    stay =
        same_stay ledger.entries left.entries
        (λ hash. get-remove keys_total ledger.entries (key.Emitted number) (key.Definition hash));
    none =
        get-remove keys_total ledger.entries (key.Emitted number) (key.Emitted 0)
        ∙ cut_none (is_key (key.Emitted 0) (key.Emitted number)) (get ledger.entries (key.Emitted 0)) none;
  }

  module _ (w : defined.Waiting) where
    abbrev reading : Reading
    reading = e.reads_emitted w.blob

    abbrev came : (late : Bool) → defined.Settled
    came late =
        if late then expired left.entries else performed_as (transaction e ledger.entries left emitted reading)

    came_stay : (late : Bool) → DefinitionsStay ledger.entries (came late).draft.entries
    came_stay true = left_keeps.stay
    came_stay false =
        stay_further ledger.entries left.entries (transaction e ledger.entries left emitted reading).draft.entries
        left_keeps.stay (transaction_stay e lawful ledger.entries left emitted reading)

    came_keeps : (late : Bool) → Keeps ledger (came late).draft.entries
    came_keeps late =
        let takes = settlement_takes e lawful ledger number w late in
        record {
          stay = came_stay late;
          none =
              takes.extends.queue 0 ∙ takes.same (key.Emitted 0) (queue_aside 0 (sender_of reading)) ∙ left_keeps.none;
        }

    -- a callback
    module _ (s : defined.Settled) (one : Keeps ledger s.draft.entries) where
      answer_keeps : (x : ChainEnd) →
          CallbackFits e.reads_emitted ledger.header.seq ledger.entries (relisted s.draft) x →
          Keeps ledger (answered ledger.next s.draft x).draft.entries
      answer_keeps (kept d records) back = record {
        stay =
            stay_further ledger.entries s.draft.entries d.entries one.stay
            (same_stay s.draft.entries d.entries (λ hash. back.others (key.Definition hash) refl));
        none = back.extends.queue 0 ∙ one.none;
      }
      answer_keeps (rejected records) back = one

      called_keeps : (r : Reading) (callback : Option AccountId) →
          Keeps ledger (called_back e ledger.entries left w s r callback).draft.entries
      called_keeps (readings.Transaction t) (Some account) =
          answer_keeps
          (e.callback ledger.header ledger.next ledger.entries t account w.hash (argument s.word) (relisted s.draft))
          (lawful.callbacks ledger.header ledger.next ledger.entries t account w.hash (argument s.word)
          (relisted s.draft))
      called_keeps (readings.Transaction t) None = one
      called_keeps readings.TooLong callback = one
      called_keeps readings.Unparsed callback = one
      called_keeps readings.Malformed callback = one

  -- with what is queued
  entering_keeps : 1 ≤ ledger.next → (d : Draft) (fee : ℕ) → Keeps ledger d.entries →
      Keeps ledger (entered ledger d fee).entries
  entering_keeps first d fee one =
      let all = with_queued ledger.next d.emissions d.entries in
      record {
        stay =
            stay_further ledger.entries d.entries all one.stay
            (same_stay d.entries all
            (λ hash. queue_others ledger.next d.emissions d.entries (key.Definition hash) refl));
        none = queue_below ledger.next d.emissions d.entries 0 (omega (arith, first)) ∙ one.none;
      }

  entry_keeps : 1 ≤ ledger.next → (found : Option Entry) →
      Keeps ledger (settled_entry e ledger number found).ledger.entries
  entry_keeps first (Some (entry.Emitted blob hash from to callback)) =
      let w : defined.Waiting = record { blob = blob; hash = hash; first = from; last = to; callback = callback } in
      let s = came w (nat_lt to ledger.header.seq) in
      let a = called_back e ledger.entries left w s (reading w) callback in
      entering_keeps first a.draft s.fee
      (called_keeps w s (came_keeps w (nat_lt to ledger.header.seq)) (reading w) callback)
  entry_keeps first None = record { stay = λ hash x at. at; none = none }
  entry_keeps first (Some other) = record { stay = λ hash x at. at; none = none }

-- by rules with their laws
module _ (rules : Rules) (lawful : IsLawful (engine_of rules)) (ledger : LedgerValue) (opening : ℕ)
    (whole : IsWhole ledger opening) (number : ℕ) where
  abbrev event : Event
  event = settled (engine_of rules) ledger number

  pub settled_holds : Holds reads_emitted ledger event (λ q. ⊥)
      (sender_at reads_emitted (get ledger.entries (key.Emitted number)))
  settled_holds = settled_law (engine_of rules) ledger number lawful whole.queue

  keeps : Keeps ledger event.ledger.entries
  keeps =
      entry_keeps (engine_of rules) lawful ledger whole.none number whole.first
      (get ledger.entries (key.Emitted number))

  module _ (careful : IsCareful (engine_of rules)) (measured : IsMeasured (engine_of rules)) where
    stays : StaysSo (engine_of rules) ledger
    stays = stays_law (engine_of rules) ledger lawful careful whole.queue whole.hooks

    limits : LimitsStay (engine_of rules) most_drops ledger
    limits =
        let conserved = whole.conserved in
        let most = whole.most in
        within_law (engine_of rules) most_drops ledger lawful measured whole.queue
        (record { sum = omega (arith, conserved, most); reserves = whole.reserves; next = whole.next })

    pub settled_whole : IsWhole event.ledger opening
    settled_whole = record {
      conserved = settled_holds.sum ∙ whole.conserved;
      most = whole.most;
      reserves = (limits.settled_so number).reserves;
      next = (limits.settled_so number).next;
      first = let next = settled_holds.whole.next in let first = whole.first in omega (arith, next, first);
      none = keeps.none;
      queue = settled_holds.good;
      hooks = stays.settled_so number;
    }

  -- the burnt fees stay a number
  pub settled_burnt : ledger.burnt + event.fee < 2 ^ 64
  settled_burnt =
      let sum = settled_holds.sum in
      let burnt = settled_holds.whole.burnt in
      let conserved = whole.conserved in
      let most = whole.most in omega (arith, sum, burnt, conserved, most)

  pub settled_programs : (programs : Kept) → AreOf ledger.entries programs → AreOf event.ledger.entries programs
  settled_programs programs are = programs_stay ledger.entries event.ledger.entries programs keeps.stay are
