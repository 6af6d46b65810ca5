-- Hooks and their state stay complete in each event.
use Rattle.std.proofs.Common.{ℕ, ◌+◌, ◌≤◌, nat_lt, List, length, refl, arith, Option, Some, None}
use Rattle.std.specs.FinMap.{get}
use Rattle.hk_base.specs.declared.ids.AccountId.{AccountId}
use Rattle.hk_lines.specs.declared.verdict.Verdict.{Verdict}
use Rattle.hk_reading.specs.declared.reading.Reading.{Reading}
use Rattle.hk_reading.specs.declared.reading.Reading.TheVariants as readings
use Rattle.hk_state.specs.declared.entry.Entry.{Entry}
use Rattle.hk_state.specs.declared.entry.Entry.TheVariants as entry
use Rattle.hk_state.specs.declared.key.Key.TheVariants as key
use Rattle.hk_state.specs.declared.key.StateKey.{StateKey}
use Rattle.hk_state.specs.Balances.{balances}
use Rattle.hk_state.specs.Ledger.{LedgerValue}
use Rattle.hk_draft.specs.Draft.{Draft, relisted}
use Rattle.hk_draft.specs.Ends.{ChainEnd, kept, rejected, CallbackFits}
use Rattle.hk_draft.specs.Writers.{CallbackRan}
use Rattle.hk_events.specs.Engine.{Engine}
use Rattle.hk_events.specs.Results.{handed}
use Rattle.hk_events.specs.Performed.{transaction}
use Rattle.hk_events.specs.Events.{Event, applied, with_queued}
use Rattle.hk_events.specs.Settled.{Waiting, Settled, without, settlement, argument, answered, called_back}
use Rattle.hk_events.specs.Settled.{settled_entry, settled, sender_at}
use Rattle.hk_events.specs.Good.{IsGood}
use Rattle.hk_events.specs.Complete.{IsComplete, IsCareful, SizesFit}
use Rattle.hk_events.specs.Limits.{AreWithin, Fit, IsMeasured, IsWithin, most_number}
use Rattle.hk_events.specs.Confined.{Deletes}
use Rattle.hk_events.specs.Whole.{sender_of}
use Rattle.hk_events.specs.Lawful.{IsLawful}
use Rattle.hk_events.specs.Laws.{Holds, StaysComplete, StaysWithin}
use Rattle.hk_events.proofs.Following.{Follows, follows_further, follows_queue, follows_without, follows_writes}
use Rattle.hk_events.proofs.Following.{complete_then}
use Rattle.hk_events.proofs.Taking.{transaction_takes}
use Rattle.hk_events.proofs.Settling.{settlement_takes, settled_law, without_sum}
use Rattle.hk_events.proofs.Applying.{applied_law}
use Rattle.hk_events.proofs.Queueing.{queue_others, without_other}
use Rattle.hk_events.proofs.Limiting.{own_number, same_within}

module _ (e : Engine) (lawful : IsLawful e) (careful : IsCareful e) (ledger : LedgerValue)
    (complete : IsComplete e.checks ledger.entries) where
  -- what is left enters the ledger with its emissions
  entering : (d : Draft) → Follows e.checks ledger.entries d.entries →
      IsComplete e.checks (with_queued ledger.next d.emissions d.entries)
  entering d follows =
      complete_then e.checks ledger.entries (with_queued ledger.next d.emissions d.entries) complete
      (follows_further e.checks ledger.entries d.entries (with_queued ledger.next d.emissions d.entries) follows
      (follows_queue e.checks ledger.next d.emissions d.entries))

  applied_stays : (verdict : Verdict) (blob : List ℕ) →
      IsComplete e.checks (applied e ledger verdict blob).ledger.entries
  applied_stays verdict blob =
      let takes = transaction_takes e lawful ledger.entries ledger (handed verdict) (e.reads blob) in
      entering (transaction e ledger.entries ledger (handed verdict) (e.reads blob)).draft
      (takes.follows (record {
        careful = careful;
        complete = complete;
        here = complete;
        accounts = λ id h. h;
        fit = careful.reads blob;
      }))

  -- what a callback leaves
  module _ (s : Draft) (follows : Follows e.checks ledger.entries s.entries) where
    answer_follows : (x : ChainEnd) → CallbackFits e.reads_emitted ledger.header.seq ledger.entries (relisted s) x →
        SizesFit (relisted s) x →
        Follows e.checks ledger.entries (answered ledger.next s x).draft.entries
    answer_follows (kept d records) back sizes =
        follows_further e.checks ledger.entries s.entries d.entries follows
        (follows_writes e.checks e.reads_emitted ledger.header.seq ledger.entries (CallbackRan records) (relisted s) d
        refl back.extends back.others complete follows.accounts
        (sizes (λ q x at. ((complete_then e.checks ledger.entries s.entries complete follows).states q x at).0)))
    answer_follows (rejected records) back sizes = follows

  module _ (number : ℕ) (w : Waiting) (s : Settled) (follows : Follows e.checks ledger.entries s.draft.entries) where
    called_follows : (r : Reading) (callback : Option AccountId) →
        Follows e.checks ledger.entries
        (called_back e ledger.entries (without ledger number) w s r callback).draft.entries
    called_follows (readings.Transaction t) (Some account) =
        answer_follows s.draft follows
        (e.callback ledger.header ledger.next ledger.entries t account w.hash (argument s.word) (relisted s.draft))
        (lawful.callbacks ledger.header ledger.next ledger.entries t account w.hash (argument s.word)
        (relisted s.draft))
        (careful.callbacks ledger.header ledger.next ledger.entries t account w.hash (argument s.word)
        (relisted s.draft))
    called_follows (readings.Transaction t) None = follows
    called_follows readings.TooLong callback = follows
    called_follows readings.Unparsed callback = follows
    called_follows readings.Malformed callback = follows

  settlement_follows : (number : ℕ) (w : Waiting) →
      Follows e.checks ledger.entries (settlement e ledger.entries (without ledger number) w).draft.entries
  settlement_follows number w =
      let left = without ledger number in
      let takes = settlement_takes e lawful ledger number w (nat_lt w.last ledger.header.seq) in
      let gone = follows_without e.checks ledger.entries number in
      follows_further e.checks ledger.entries left.entries (settlement e ledger.entries left w).draft.entries gone
      (takes.follows (record {
        careful = careful;
        complete = complete;
        here = complete_then e.checks ledger.entries left.entries complete gone;
        accounts = gone.accounts;
        fit = careful.reads_emitted w.blob;
      }))

  entry_stays : (number : ℕ) (found : Option Entry) →
      IsComplete e.checks (settled_entry e ledger number found).ledger.entries
  entry_stays number (Some (entry.Emitted blob hash first last callback)) =
      let w : Waiting = record { blob = blob; hash = hash; first = first; last = last; callback = callback } in
      let s : Settled = settlement e ledger.entries (without ledger number) w in
      entering (called_back e ledger.entries (without ledger number) w s (e.reads_emitted blob) callback).draft
      (called_follows number w s (settlement_follows number w) (e.reads_emitted blob) callback)
  entry_stays number None = complete
  entry_stays number (Some other) = complete

pub stays_law : StaysComplete
stays_law e ledger lawful careful good complete = record {
  applied_so = applied_stays e lawful careful ledger complete;
  settled_so = λ number. entry_stays e lawful careful ledger complete number (get ledger.entries (key.Emitted number));
}

-- and the limits
module _ (e : Engine) (lawful : IsLawful e) (measured : IsMeasured e) (most : ℕ) (ledger : LedgerValue)
    (good : IsGood e.reads_emitted ledger) (within : IsWithin e most ledger) where
  -- a draft that is within the limits enters the ledger
  queue_within : (d : Draft) → AreWithin e.reserve most d.entries →
      AreWithin e.reserve most (with_queued ledger.next d.emissions d.entries)
  queue_within d reserves =
      same_within e.reserve measured.reserves most d.entries (with_queued ledger.next d.emissions d.entries)
      (λ id k h. queue_others ledger.next d.emissions d.entries k (own_number id k h)) reserves

  less_left : (event : Event) (D : StateKey → Type 0) (sender : Option AccountId) →
      Holds e.reads_emitted ledger event D sender → balances event.ledger.entries ≤ most
  less_left event D sender holds =
      let sum = holds.sum in let burnt = holds.whole.burnt in let fits = within.sum in omega (arith, sum, burnt, fits)

  applied_within : (verdict : Verdict) (blob : List ℕ) → IsWithin e most (applied e ledger verdict blob).ledger
  applied_within verdict blob =
      let p = transaction e ledger.entries ledger (handed verdict) (e.reads blob) in
      let takes = transaction_takes e lawful ledger.entries ledger (handed verdict) (e.reads blob) in
      let limits = takes.limits measured in
      record {
        sum =
            less_left (applied e ledger verdict blob) (Deletes (e.reads blob) (applied e ledger verdict blob))
            (sender_of (e.reads blob)) (applied_law e ledger verdict blob lawful good);
        reserves = queue_within p.draft (limits.within most within.sum within.reserves);
        next = limits.room within.next;
      }

  -- what a callback leaves
  module _ (s : Draft) (sum : balances s.entries ≤ most) (reserves : AreWithin e.reserve most s.entries)
      (room : ledger.next + length s.emissions ≤ most_number) where
    answer_within : (x : ChainEnd) → Fit e ledger.next (relisted s) x →
        AreWithin e.reserve most (answered ledger.next s x).draft.entries
    answer_within (kept d records) fit = fit.0 most sum reserves
    answer_within (rejected records) fit = reserves

    answer_room : (x : ChainEnd) → Fit e ledger.next (relisted s) x →
        ledger.next + length (answered ledger.next s x).draft.emissions ≤ most_number
    answer_room (kept d records) fit = fit.1 room
    answer_room (rejected records) fit = room

  module _ (number : ℕ) (w : Waiting) (s : Settled) (sum : balances s.draft.entries ≤ most)
      (reserves : AreWithin e.reserve most s.draft.entries)
      (room : ledger.next + length s.draft.emissions ≤ most_number) where
    called_limits : (r : Reading) (callback : Option AccountId) →
        AreWithin e.reserve most (called_back e ledger.entries (without ledger number) w s r callback).draft.entries
        × (ledger.next + length (called_back e ledger.entries (without ledger number) w s r callback).draft.emissions
        ≤ most_number)
    called_limits (readings.Transaction t) (Some account) =
        let x =
        e.callback ledger.header ledger.next ledger.entries t account w.hash (argument s.word) (relisted s.draft) in
        let fit =
        measured.callbacks ledger.header ledger.next ledger.entries t account w.hash (argument s.word)
        (relisted s.draft) in
        (answer_within s.draft sum reserves room x fit, answer_room s.draft sum reserves room x fit)
    called_limits (readings.Transaction t) None = (reserves, room)
    called_limits readings.TooLong callback = (reserves, room)
    called_limits readings.Unparsed callback = (reserves, room)
    called_limits readings.Malformed callback = (reserves, room)

  entry_limits : (number : ℕ) (found : Option Entry) →
      AreWithin e.reserve most (settled_entry e ledger number found).ledger.entries
      × ((settled_entry e ledger number found).ledger.next ≤ most_number)
  entry_limits number (Some (entry.Emitted blob hash first last callback)) =
      let w : Waiting = record { blob = blob; hash = hash; first = first; last = last; callback = callback } in
      let left : LedgerValue = without ledger number in
      let s : Settled = settlement e ledger.entries left w in
      let takes = settlement_takes e lawful ledger number w (nat_lt last ledger.header.seq) in
      let limits = takes.limits measured in
      let out = without_sum ledger.entries number in
      let fits = within.sum in
      let taken = takes.sum in
      let made = takes.extends.sum in
      let left_within =
      same_within e.reserve measured.reserves most ledger.entries left.entries
      (λ id k h. without_other ledger.entries number k (own_number id k h)) within.reserves in
      let both =
      called_limits number w s (omega (arith, out, fits, taken, made))
      (limits.within most (omega (arith, out, fits)) left_within) (limits.room within.next) (e.reads_emitted blob)
      callback in
      (queue_within (called_back e ledger.entries left w s (e.reads_emitted blob) callback).draft both.0, both.1)
  entry_limits number None = (within.reserves, within.next)
  entry_limits number (Some other) = (within.reserves, within.next)

  settled_within : (number : ℕ) → IsWithin e most (settled e ledger number).ledger
  settled_within number =
      let both = entry_limits number (get ledger.entries (key.Emitted number)) in
      record {
        sum =
            less_left (settled e ledger number) (λ q. ⊥)
            (sender_at e.reads_emitted (get ledger.entries (key.Emitted number)))
            (settled_law e ledger number lawful good);
        reserves = both.0;
        next = both.1;
      }

pub within_law : StaysWithin
within_law e most ledger lawful measured good within = record {
  applied_so = applied_within e lawful measured most ledger good within;
  settled_so = settled_within e lawful measured most ledger good within;
}
