-- What a settlement adds to the lines of a replay, and leaves in the queue.
use Rattle.std.proofs.Common.{◌≡◌, ◌∙◌, ℕ, ◌+◌, ◌<◌, ◌≤◌, ◌==◌, Bool, true, false, cond, if◌then◌else◌, nat_lt}
use Rattle.std.proofs.Common.{List, [], ◌∷◌, ◌++◌, length, drop, append_assoc, append-nil, refl, sym, ap, subst, arith}
use Rattle.std.proofs.Common.{Option, Some, None}
use Rattle.std.proofs.Math.Seq.{drop-append_seam}
use Rattle.std.proofs.lemmas.Bool.{eqb-true, eq-eqb, leb-true, ltb-true, ltb-false}
use Rattle.std.specs.FinMap.{get, remove, get-remove}
use Rattle.hk_base.specs.declared.ids.AccountId.{AccountId}
use Rattle.hk_lines.specs.declared.output_line.OutputLine.{OutputLine}
use Rattle.hk_lines.specs.declared.settlement.Settlement.{Settlement}
use Rattle.hk_lines.specs.declared.settlement.Settlement.TheVariants.{Applied, Refused, Expired}
use Rattle.hk_reading.specs.declared.reading.Reading.{Reading}
use Rattle.hk_reading.specs.declared.reading.Reading.TheVariants as readings
use Rattle.hk_emit.specs.declared.emission.Emission.{Emission}
use Rattle.hk_state.specs.declared.entry.Entry.{Entry}
use Rattle.hk_state.specs.declared.entry.Entry.TheVariants as entry
use Rattle.hk_state.specs.declared.key.Key.TheVariants as key
use Rattle.hk_state.specs.Keys.{is_key, keys_total, itself}
use Rattle.hk_state.specs.Entries.{Entries}
use Rattle.hk_state.specs.Ledger.{LedgerValue}
use Rattle.hk_draft.specs.Draft.{Draft, relisted}
use Rattle.hk_draft.specs.Ends.{ChainEnd, kept, rejected, CallbackFits, CalledBack, IsOneCallback}
use Rattle.hk_draft.specs.Lists.{Each}
use Rattle.hk_draft.specs.Writers.{IsHook}
use Rattle.hk_events.specs.Engine.{Engine}
use Rattle.hk_events.specs.Events.{kept_lines}
use Rattle.hk_events.specs.Good.{IsGood}
use Rattle.hk_events.specs.Lawful.{IsLawful}
use Rattle.hk_events.specs.Lists.{one_if}
use Rattle.hk_events.specs.Performed.{transaction}
use Rattle.hk_events.specs.Results.{emitted}
use Rattle.hk_events.specs.Settled.{Waiting, Settled, Answered, without, expired, word_of, performed_as, settlement}
use Rattle.hk_events.specs.Settled.{argument, own_part, answered, called_back, settled_by, settled_waiting}
use Rattle.hk_events.specs.Settled.{settled_entry, settled, is_due, passes}
use Rattle.hk_events.specs.Whole.{WaitsFor, sender_of}
use Rattle.hk_events.proofs.Applying.{queue_aside}
use Rattle.hk_events.proofs.Queueing.{other_number}
use Rattle.hk_events.proofs.Settling.{settlement_takes}
use Rattle.hk_events.proofs.Taking.{TakesBy}
use Rattle.hk_events.proofs.Telling.{IsRecord, hook_record, callback_record}
use Rattle.hk_events.proofs.Words.{each-map}
use Rattle.hk_final.specs.Counted.{waiting}
use Rattle.hk_whole.specs.Accounts.{IsInTime, AreCalled}
use Rattle.hk_whole.proofs.Inner.{Adds, IsFresh, kept_adds, records_add, adds_more, none_settled, none_queued}
use Rattle.hk_whole.proofs.Inner.{as_emitted, hooks_called, callback_called, callback_alone}
use Rattle.hk_whole.proofs.Passing.{IsTold, Passes, good_none, adds_once, adds_low, adds_high}
use Rattle.hk_whole.proofs.Passing.{entered_waits, entered_told}
use Rattle.hk_whole.proofs.Queued.{NoneFrom}

-- ---- what a callback adds to a draft

record Answers (next : ℕ) (s : Draft) (a : Answered) : Type 0 where
  pub more : List Emission
  pub emissions : a.draft.emissions ≡ s.emissions ++ more
  pub adds : Adds (next + length s.emissions) more a.lines
  pub queue : (n : ℕ) → get a.draft.entries (key.Emitted n) ≡ get s.entries (key.Emitted n)
  pub called : (rest : List OutputLine) → IsFresh rest → AreCalled true (a.lines ++ rest)

call_records : (calls : List OutputLine) → IsOneCallback calls → Each IsRecord calls
call_records [] one = tt
call_records (call ∷ []) one = (callback_record call one, tt)
call_records (call ∷ other ∷ calls) one = absurd one

module _ (next : ℕ) (s : Draft) where
  -- it is dropped, or there is none
  dropped_answers : (calls : List OutputLine) → IsOneCallback calls →
      Answers next s (record { draft = s; lines = calls })
  dropped_answers calls one = record {
    more = [];
    emissions = sym (append-nil s.emissions);
    adds = records_add (next + length s.emissions) calls (call_records calls one);
    queue = λ n. refl;
    called = λ rest fresh. callback_alone calls rest one fresh;
  }

  module _ (reads : List ℕ → Reading) (seq : ℕ) (before : Entries) where
    kept_answers : (d : Draft) (calls : List OutputLine) → CalledBack reads seq before (relisted s) d calls →
        Answers next s (answered next s (kept d calls))
    kept_answers d calls back =
        let own : drop (length s.emissions) d.emissions ≡ back.extends.more =
        ap (λ es. drop (length s.emissions) es) back.extends.emissions
        ∙ drop-append_seam s.emissions back.extends.more in
        record {
          more = drop (length s.emissions) d.emissions;
          emissions = back.extends.emissions ∙ ap (λ es. s.emissions ++ es) (sym own);
          adds = kept_adds (next + length s.emissions) (own_part s d) calls (call_records calls back.one);
          queue = back.extends.queue;
          called = λ rest fresh.
              callback_called (next + length s.emissions) (own_part s d) calls rest back.one fresh;
        }

    answer_answers : (x : ChainEnd) → CallbackFits reads seq before (relisted s) x →
        Answers next s (answered next s x)
    answer_answers (kept d calls) back = kept_answers d calls back
    answer_answers (rejected calls) one = dropped_answers calls one

module _ (e : Engine) (lawful : IsLawful e) (before : Entries) (left : LedgerValue) (w : Waiting) (s : Settled) where
  called_answers : (reading : Reading) (callback : Option AccountId) →
      Answers left.next s.draft (called_back e before left w s reading callback)
  called_answers (readings.Transaction t) (Some account) =
      answer_answers left.next s.draft e.reads_emitted left.header.seq before
      (e.callback left.header left.next before t account w.hash (argument s.word) (relisted s.draft))
      (lawful.callbacks left.header left.next before t account w.hash (argument s.word) (relisted s.draft))
  called_answers (readings.Transaction t) None = dropped_answers left.next s.draft [] tt
  called_answers readings.TooLong callback = dropped_answers left.next s.draft [] tt
  called_answers readings.Unparsed callback = dropped_answers left.next s.draft [] tt
  called_answers readings.Malformed callback = dropped_answers left.next s.draft [] tt

-- ---- the queue without an emission

module _ (m : Entries) (number : ℕ) where
  abbrev rest_of : Entries
  rest_of = remove m (key.Emitted number)

  rest_at : (n : ℕ) →
      get rest_of (key.Emitted n)
      ≡ cond (is_key (key.Emitted n) (key.Emitted number)) None (get m (key.Emitted n))
  rest_at n = get-remove keys_total m (key.Emitted number) (key.Emitted n)

  rest_none : (n : ℕ) → get m (key.Emitted n) ≡ None → get rest_of (key.Emitted n) ≡ None
  rest_none n none = rest_at n ∙ by (is_key (key.Emitted n) (key.Emitted number)) none
    where
      by : (b : Bool) → get m (key.Emitted n) ≡ None → cond b None (get m (key.Emitted n)) ≡ None
      by true h = refl
      by false h = h

  rest_waits_for : (n first last : ℕ) → WaitsFor first last (get rest_of (key.Emitted n)) →
      WaitsFor first last (get m (key.Emitted n))
  rest_waits_for n first last waits =
      by (is_key (key.Emitted n) (key.Emitted number)) (subst (WaitsFor first last) (rest_at n) waits)
    where
      by : (b : Bool) → WaitsFor first last (cond b None (get m (key.Emitted n))) →
          WaitsFor first last (get m (key.Emitted n))
      by true h = absurd h
      by false h = h

  rest_waits : waiting (get m (key.Emitted number)) ≡ 1 → (n : ℕ) (b : Bool) → (number == n) ≡ b →
      waiting (get rest_of (key.Emitted n)) + one_if b ≡ waiting (get m (key.Emitted n))
  rest_waits there n true is =
      let taken = ap (λ b. cond b None (get m (key.Emitted number))) (itself (key.Emitted number)) in
      let gone = ap waiting (rest_at number ∙ taken) in
      subst (λ k. waiting (get rest_of (key.Emitted k)) + 1 ≡ waiting (get m (key.Emitted k)))
      (eqb-true number n is) (omega (arith, there, gone))
  rest_waits there n false is =
      let other =
      other_number n number (λ same. let bad : true ≡ false = sym (eq-eqb number n (sym same)) ∙ is in cc) in
      let stays = ap waiting (rest_at n ∙ ap (λ b. cond b None (get m (key.Emitted n))) other) in
      omega (arith, stays)

-- ---- the settlement of an emission whose first ledger has come

-- the word of an emission whose last ledger isn't over
taken_word : (b : Bool) → (if b then Applied else Refused) ≡ Expired → ⊥
taken_word true is = cc
taken_word false is = cc

module _ (e : Engine) (lawful : IsLawful e) (ledger : LedgerValue) (good : IsGood e.reads_emitted ledger) (number : ℕ)
    (w : Waiting)
    (there : get ledger.entries (key.Emitted number) ≡ Some (entry.Emitted w.blob w.hash w.first w.last w.callback))
    (come : w.first ≤ ledger.header.seq) (under : Option ℕ) (open_at : under ≡ Some ledger.header.seq) where
  abbrev left : LedgerValue
  left = without ledger number

  abbrev reading : Reading
  reading = e.reads_emitted w.blob

  timely : (word : Settlement) (emits : List OutputLine) → IsTold emits ledger.entries →
      (word ≡ Expired → w.last < ledger.header.seq) → (w.last < ledger.header.seq → word ≡ Expired) →
      IsInTime emits under number word
  timely word emits told late on_time = record {
    seq = ledger.header.seq;
    under = open_at;
    first = w.first;
    last = w.last;
    emitted = told number w.first w.last (subst (WaitsFor w.first w.last) (sym there) (refl, refl));
    come = come;
    expired = (late, on_time);
  }

  abbrev came : Bool → Settled
  came late = if late then expired left.entries else performed_as (transaction e ledger.entries left emitted reading)

  came_in_time : (late : Bool) → nat_lt w.last ledger.header.seq ≡ late → (emits : List OutputLine) →
      IsTold emits ledger.entries → IsInTime emits under number (came late).word
  came_in_time true is emits told = timely Expired emits told (λ _. ltb-true w.last ledger.header.seq is) (λ _. refl)
  came_in_time false is emits told =
      let fee = (transaction e ledger.entries left emitted reading).fee in
      let low = ltb-false w.last ledger.header.seq is in
      timely (word_of fee) emits told (λ bad. absurd (taken_word (nat_lt 0 fee) bad))
      (λ high. absurd (omega (arith, low, high)))

  abbrev Takes : Settled → Type 0
  Takes s =
      TakesBy e ledger.header.seq ledger.next ledger.entries left.entries reading s.result s.fee s.draft s.records

  module _ (s : Settled) (takes : Takes s) (a : Answered) (answers : Answers ledger.next s.draft a) where
    abbrev own : List OutputLine
    own = kept_lines ledger.next s.draft s.records

    abbrev body : List OutputLine
    body = own ++ a.lines

    adds : Adds ledger.next a.draft.emissions body
    adds =
        let records = each-map IsHook IsRecord hook_record s.records takes.hooks in
        subst (λ es. Adds ledger.next es body) (sym answers.emissions)
        (adds_more ledger.next s.draft.emissions answers.more own a.lines
        (kept_adds ledger.next s.draft s.records records) answers.adds)

    same : (n : ℕ) → get a.draft.entries (key.Emitted n) ≡ get left.entries (key.Emitted n)
    same n = answers.queue n ∙ takes.extends.queue n ∙ takes.same (key.Emitted n) (queue_aside n (sender_of reading))

    none_left : NoneFrom ledger.next left.entries
    none_left n high = rest_none ledger.entries number n (good_none e.reads_emitted ledger good n high)

    by_passes : ((emits : List OutputLine) → IsTold emits ledger.entries → IsInTime emits under number s.word) →
        Passes under ledger (settled_by left number s a).ledger (settled_by left number s a).lines
    by_passes timed = record {
      once = λ n. let once = adds_once ledger.next a.draft.emissions body adds n in omega (arith, once);
      low = λ n h. let low = adds_low ledger.next a.draft.emissions body adds n h in omega (arith, low);
      high = λ n h. let high = adds_high ledger.next a.draft.emissions body adds n h in omega (arith, high);
      rises = omega arith;
      flows = λ n.
          let waits = entered_waits ledger.next left.entries a.draft same body adds none_left n in
          let unsettled = none_settled body adds.inner n in
          let gone = rest_waits ledger.entries number (ap waiting there) n (number == n) refl in
          omega (arith, waits, unsettled, gone);
      unqueued = λ n. let none = none_queued body adds.inner n in omega (arith, none);
      as_emitted = λ emits rest told after. (
        timed emits told,
        as_emitted under body rest adds.inner emits (λ now were are.
            after now (entered_told ledger.next left.entries a.draft same body adds emits now
            (λ n first last waits. told n first last (rest_waits_for ledger.entries number n first last waits))
            were are)),
      );
      called = λ rest fresh may.
          subst (AreCalled true) (sym (append_assoc own a.lines rest))
          (hooks_called true ledger.next s.draft s.records (a.lines ++ rest) takes.hooks (answers.called rest fresh));
      header = refl;
    }

  came_passes : (late : Bool) → nat_lt w.last ledger.header.seq ≡ late → (s : Settled) → s ≡ came late →
      Passes under ledger
      (settled_by left number s (called_back e ledger.entries left w s reading w.callback)).ledger
      (settled_by left number s (called_back e ledger.entries left w s reading w.callback)).lines
  came_passes late is s so =
      by_passes s (subst Takes (sym so) (settlement_takes e lawful ledger number w late))
      (called_back e ledger.entries left w s reading w.callback)
      (called_answers e lawful ledger.entries left w s reading w.callback)
      (λ emits told.
      subst (λ (x : Settled). IsInTime emits under number x.word) (sym so) (came_in_time late is emits told))

  waiting_passes : Passes under ledger (settled_waiting e ledger.entries left number w).ledger
      (settled_waiting e ledger.entries left number w).lines
  waiting_passes = came_passes (nat_lt w.last ledger.header.seq) refl (settlement e ledger.entries left w) refl

-- of an emission that is due
module _ (e : Engine) (lawful : IsLawful e) (ledger : LedgerValue) (good : IsGood e.reads_emitted ledger) (number : ℕ)
    (under : Option ℕ) (open_at : under ≡ Some ledger.header.seq) where
  entry_passes : (found : Option Entry) → get ledger.entries (key.Emitted number) ≡ found →
      passes (is_due ledger.header.seq) found ≡ true →
      Passes under ledger (settled_entry e ledger number found).ledger (settled_entry e ledger number found).lines
  entry_passes (Some (entry.Emitted blob hash first last callback)) there due =
      waiting_passes e lawful ledger good number
      (record { blob = blob; hash = hash; first = first; last = last; callback = callback }) there
      (leb-true first ledger.header.seq due) under open_at
  entry_passes None there due = cc
  entry_passes (Some other) there due = cc

  pub settled_passes : passes (is_due ledger.header.seq) (get ledger.entries (key.Emitted number)) ≡ true →
      Passes under ledger (settled e ledger number).ledger (settled e ledger number).lines
  settled_passes due = entry_passes (get ledger.entries (key.Emitted number)) refl due
