-- The settlement of an emission, with its callback.
use Rattle.std.proofs.Common.{◌≡◌, ℕ, zero, suc, ◌+◌, ◌≤◌, ◌==◌, inr, Bool, true, false, cond, if◌then◌else◌, nat_lt}
use Rattle.std.proofs.Common.{List, [], ◌∷◌, ◌++◌, length, drop, append-nil, refl, sym, ap, subst, ◌∙◌, arith, Option}
use Rattle.std.proofs.Common.{Some, None}
use Rattle.std.proofs.Math.Seq.{drop-append_seam}
use Rattle.std.proofs.lemmas.Bool.{eqb-true, eq-eqb, ne_eqb}
use Rattle.std.specs.FinMap.{get, remove, get-remove, entries}
use Rattle.hk_base.specs.declared.ids.AccountId.{AccountId}
use Rattle.hk_lines.specs.declared.output_line.OutputLine.{OutputLine}
use Rattle.hk_lines.specs.declared.output_line.OutputLine.TheVariants as printed
use Rattle.hk_lines.specs.declared.result_name.ResultName.TheVariants.{Success}
use Rattle.hk_reading.specs.declared.reading.Reading.{Reading}
use Rattle.hk_reading.specs.declared.reading.Reading.TheVariants as readings
use Rattle.hk_state.specs.declared.entry.Entry.{Entry}
use Rattle.hk_state.specs.declared.entry.Entry.TheVariants as entry
use Rattle.hk_state.specs.declared.key.Key.{Key}
use Rattle.hk_state.specs.declared.key.Key.TheVariants as key
use Rattle.hk_state.specs.declared.key.StateKey.{StateKey}
use Rattle.hk_state.specs.Keys.{is_key, as_key, keys_total, itself}
use Rattle.hk_state.specs.Entries.{Entries}
use Rattle.hk_state.specs.Balances.{balances, worth}
use Rattle.hk_state.specs.Sums.{sum-remove}
use Rattle.hk_state.specs.Ledger.{LedgerValue}
use Rattle.hk_draft.specs.Lists.{Each}
use Rattle.hk_draft.specs.Draft.{Draft, draft_on, relisted}
use Rattle.hk_draft.specs.Ends.{ChainEnd, kept, rejected, CallbackFits, CalledBack, IsOneCallback}
use Rattle.hk_draft.specs.Extends.{Emits, IsEmission}
use Rattle.hk_draft.specs.Writers.{IsCallback}
use Rattle.hk_draft.proofs.Extended.{extends_itself}
use Rattle.hk_events.specs.Lists.{one_if}
use Rattle.hk_events.specs.Engine.{Engine}
use Rattle.hk_events.specs.Results.{emitted}
use Rattle.hk_events.specs.Performed.{transaction}
use Rattle.hk_events.specs.Events.{Event}
use Rattle.hk_events.specs.Settled.{Waiting, Settled, Answered, without, expired, performed_as, settlement, argument}
use Rattle.hk_events.specs.Settled.{answered, called_back, settled_by, settled_waiting, nothing_settled, settled_entry}
use Rattle.hk_events.specs.Settled.{settled, settled_all, first_settled, and_then, sender_at, numbers, is_due, due}
use Rattle.hk_events.specs.Settled.{passes}
use Rattle.hk_events.specs.Whole.{sender_of}
use Rattle.hk_events.specs.Good.{IsGood, IsQueueGood}
use Rattle.hk_events.specs.Lawful.{IsLawful}
use Rattle.hk_events.specs.Laws.{Holds, SettledHolds, DueFalls, SettlesWhileDue, FindsDue, FindsNone, on_next}
use Rattle.hk_events.specs.Laws.{settled_while}
use Rattle.hk_events.proofs.Queueing.{without_other, other_number, no_number}
use Rattle.hk_events.proofs.Taking.{TakesBy, Grounds, DeletedBy, transaction_takes}
use Rattle.hk_events.proofs.Following.{follows_itself}
use Rattle.hk_events.proofs.Holding.{Starts, Ran, Called, Happens, event_happens, plain_number}
use Rattle.hk_events.proofs.Applying.{state_aside, queue_aside, dropped_call, deleted_so}
use Rattle.hk_events.proofs.Due.{has, has_head, has_number, falls, numbers_begin, numbers_none}

each_call : (records : List OutputLine) → IsOneCallback records → Each IsCallback records
each_call [] h = tt
each_call (line ∷ []) h = (h, tt)
each_call (line ∷ next ∷ records) h = absurd h

kept_call : (reads : List ℕ → Reading) (seq : ℕ) (before : Entries) (s d : Draft) (records : List OutputLine) →
    CalledBack reads seq before (relisted s) d records →
    Called reads seq before s d (drop (length s.emissions) d.emissions) records
kept_call reads seq before s d records back =
    let own : drop (length s.emissions) d.emissions ≡ back.extends.more =
    ap (λ es. drop (length s.emissions) es) back.extends.emissions ∙ drop-append_seam s.emissions back.extends.more in
    record {
      extends = back.extends;
      emissions = back.extends.emissions ∙ ap (λ es. s.emissions ++ es) (sym own);
      emits = subst (Each (Emits reads seq)) (sym own) back.extends.emits;
      others = back.others;
      calls = each_call records back.one;
      none = λ h. (
        ap (λ x. x.written) (back.none h),
        ap (λ x. drop (length s.emissions) x.emissions) (back.none h)
            ∙ ap (λ es. drop (length s.emissions) es) (sym (append-nil s.emissions)) ∙ drop-append_seam s.emissions [],
      );
    }

-- the entries without an emission
module _ (m : Entries) (number : ℕ) where
  without_number : (n : ℕ) → (n ≡ number → ⊥) →
      get (remove m (key.Emitted number)) (key.Emitted n) ≡ get m (key.Emitted n)
  without_number n differ =
      get-remove keys_total m (key.Emitted number) (key.Emitted n)
      ∙ ap (λ b. cond b None (get m (key.Emitted n))) (other_number n number differ)

  without_itself : get (remove m (key.Emitted number)) (key.Emitted number) ≡ None
  without_itself =
      get-remove keys_total m (key.Emitted number) (key.Emitted number)
      ∙ ap (λ b. cond b None (get m (key.Emitted number))) (itself (key.Emitted number))

  pub without_sum : balances (remove m (key.Emitted number)) ≡ balances m
  without_sum =
      let rest = sum-remove worth m (key.Emitted number) in
      let none = no_number (get m (key.Emitted number)) number in
      omega (arith, rest, none)

  still_there : (k : Key) (x : Entry) (b : Bool) → cond b None (get m k) ≡ Some x → get m k ≡ Some x
  still_there k x true h = cc
  still_there k x false h = h

  without_good : (reads : List ℕ → Reading) (next : ℕ) → IsQueueGood reads next m →
      IsQueueGood reads next (remove m (key.Emitted number))
  without_good reads next good n x at =
      good n x (still_there (key.Emitted n) x (is_key (key.Emitted n) (key.Emitted number))
      (sym (get-remove keys_total m (key.Emitted number) (key.Emitted n)) ∙ at))

other_test : (number n : ℕ) → one_if (number == n) + 0 ≡ 0 → n ≡ number → ⊥
other_test number n none same =
    let one : one_if (number == n) ≡ 1 = ap one_if (eq-eqb number n (sym same)) in absurd (omega (arith, none, one))

one_test : (b : Bool) → 1 ≤ one_if b + 0 → b ≡ true
one_test true h = refl
one_test false h = absurd (omega (arith, h))

same_test : (number n : ℕ) → 1 ≤ one_if (number == n) + 0 → n ≡ number
same_test number n some = sym (eqb-true number n (one_test (number == n) some))

module _ (e : Engine) (lawful : IsLawful e) (ledger : LedgerValue) (number : ℕ) (w : Waiting) where
  abbrev reading_of : Reading
  reading_of = e.reads_emitted w.blob

  abbrev left_by : LedgerValue
  left_by = without ledger number

  pub settlement_takes : (late : Bool) →
      TakesBy e ledger.header.seq ledger.next ledger.entries left_by.entries reading_of
      (if late then expired left_by.entries
      else performed_as (transaction e ledger.entries left_by emitted reading_of)).result
      (if late then expired left_by.entries
      else performed_as (transaction e ledger.entries left_by emitted reading_of)).fee
      (if late then expired left_by.entries
      else performed_as (transaction e ledger.entries left_by emitted reading_of)).draft
      (if late then expired left_by.entries
      else performed_as (transaction e ledger.entries left_by emitted reading_of)).records
  settlement_takes true = record {
    base = left_by.entries;
    same = λ k h. refl;
    sum = omega arith;
    free = λ none failing. refl;
    extends =
        extends_itself e.reads_emitted ledger.header.seq (Grounds ledger.entries [] (DeletedBy reading_of))
        (draft_on left_by.entries);
    hooks = tt;
    success = inr refl;
    follows = λ c. follows_itself e.checks left_by.entries;
    limits = λ measured. record { within = λ most sum within. within; room = λ room. omega (arith, room) };
  }
  settlement_takes false = transaction_takes e lawful ledger.entries left_by emitted reading_of

-- the settlement of a number holds; it is gone, and all others are due as before
pub record SettlesSo (e : Engine) (ledger : LedgerValue) (number : ℕ) (event : Event)
    (sender : Option AccountId) : Type 0 where
  pub holds : Holds e.reads_emitted ledger event (λ q. ⊥) sender
  pub waits : (n : ℕ) → (n ≡ number → ⊥) →
      passes (is_due ledger.header.seq) (get event.ledger.entries (key.Emitted n))
      ≡ passes (is_due ledger.header.seq) (get ledger.entries (key.Emitted n))
  pub gone : get event.ledger.entries (key.Emitted number) ≡ None

module _ (e : Engine) (lawful : IsLawful e) (ledger : LedgerValue) (good : IsGood e.reads_emitted ledger) (number : ℕ)
    (w : Waiting)
    (there : get ledger.entries (key.Emitted number)
    ≡ Some (entry.Emitted w.blob w.hash w.first w.last w.callback)) where
  abbrev reading : Reading
  reading = e.reads_emitted w.blob

  abbrev left : LedgerValue
  left = without ledger number

  is_emission : IsEmission e.reads_emitted w.blob w.first w.last
  is_emission = (good number (entry.Emitted w.blob w.hash w.first w.last w.callback) there).1

  -- an emission changes no hooks
  none_deleted : (q : StateKey) → DeletedBy reading q → ⊥
  none_deleted q h = let by = subst (λ r. DeletedBy r q) is_emission.reads_so h in absurd (is_emission.other by.0)

  module _ (s : Settled)
      (takes : TakesBy e ledger.header.seq ledger.next ledger.entries left.entries reading s.result s.fee s.draft
      s.records) where
    abbrev line : OutputLine
    line = printed.Settled number s.word s.result s.fee

    starts : Starts e.reads_emitted ledger takes.base (line ∷ []) (sender_of reading) s.fee s.result
    starts = record {
      fronts = (tt, tt);
      plain = λ k plain other. takes.same k other ∙ without_other ledger.entries number k (plain_number k plain);
      state =
          λ q.
          takes.same (as_key q) (state_aside q (sender_of reading))
          ∙ without_other ledger.entries number (as_key q) refl;
      queue =
          λ n none.
          takes.same (key.Emitted n) (queue_aside n (sender_of reading))
          ∙ without_number ledger.entries number n (other_test number n none);
      gone = λ n some.
          let same = same_test number n some in
          let low = (good number (entry.Emitted w.blob w.hash w.first w.last w.callback) there).0 in (
            omega (arith, same, low),
            takes.same (key.Emitted n) (queue_aside n (sender_of reading))
                ∙ ap (λ k. get left.entries (key.Emitted k)) same
                ∙ without_itself ledger.entries number,
          );
      free =
          λ none failing k plain.
          ap (λ m. get m k) (takes.free none failing) ∙ without_other ledger.entries number k (plain_number k plain);
      sum = let paid = takes.sum in let rest = without_sum ledger.entries number in omega (arith, paid, rest);
      good =
          λ n x at.
          without_good ledger.entries number e.reads_emitted ledger.next good n x
          (sym (takes.same (key.Emitted n) (queue_aside n (sender_of reading))) ∙ at);
    }

    ran : Ran e.reads_emitted ledger.header.seq ledger.entries takes.base s.records (DeletedBy reading) s.draft s.result
    ran = record { extends = takes.extends; hooks = takes.hooks; success = takes.success }

    abbrev HoldsSo : Answered → Type 0
    HoldsSo a = SettlesSo e ledger number (settled_by left number s a) (sender_of reading)

    holds_so : (a : Answered) →
        Happens e.reads_emitted ledger (settled_by left number s a)
        (λ q. (s.result ≡ Some Success) × DeletedBy reading q) (sender_of reading) (line ∷ []) → HoldsSo a
    holds_so a happens = record {
      holds =
          deleted_so e.reads_emitted ledger (settled_by left number s a)
          (λ q. (s.result ≡ Some Success) × DeletedBy reading q) (λ q. ⊥) (sender_of reading)
          (λ q h. none_deleted q h.1) happens.holds;
      waits = λ n differ. happens.waits n (ap (λ b. one_if b + 0) (ne_eqb number n (λ same. differ (sym same))));
      gone =
          happens.holds.whole.gone number
          (let here : one_if (number == number) ≡ 1 = ap one_if (eq-eqb number number refl) in omega (arith, here));
    }

    dropped_holds : (records : List OutputLine) → Each IsCallback records →
        HoldsSo (record { draft = s.draft; lines = records })
    dropped_holds records calls = holds_so (record { draft = s.draft; lines = records })
        (subst (λ lines.
        Happens e.reads_emitted ledger (settled_by left number s (record { draft = s.draft; lines = lines }))
        (λ q. (s.result ≡ Some Success) × DeletedBy reading q) (sender_of reading) (line ∷ []))
        (append-nil records)
        (event_happens e.reads_emitted ledger takes.base (line ∷ []) (sender_of reading) s.fee s.result s.records
        (DeletedBy reading) s.draft (relisted s.draft) [] records starts ran
        (dropped_call e.reads_emitted ledger.header.seq ledger.entries s.draft records calls)))

    answer_holds : (x : ChainEnd) → CallbackFits e.reads_emitted ledger.header.seq ledger.entries (relisted s.draft) x →
        HoldsSo (answered ledger.next s.draft x)
    answer_holds (kept d records) back = holds_so (answered ledger.next s.draft (kept d records))
        (event_happens e.reads_emitted ledger takes.base (line ∷ []) (sender_of reading) s.fee s.result s.records
        (DeletedBy reading) s.draft d (drop (length s.draft.emissions) d.emissions) records starts ran
        (kept_call e.reads_emitted ledger.header.seq ledger.entries s.draft d records back))
    answer_holds (rejected records) one = dropped_holds records (each_call records one)

    called_holds : (r : Reading) (callback : Option AccountId) →
        HoldsSo (called_back e ledger.entries left w s r callback)
    called_holds (readings.Transaction t) (Some account) =
        answer_holds
        (e.callback ledger.header ledger.next ledger.entries t account w.hash (argument s.word) (relisted s.draft))
        (lawful.callbacks ledger.header ledger.next ledger.entries t account w.hash (argument s.word)
        (relisted s.draft))
    called_holds (readings.Transaction t) None = dropped_holds [] tt
    called_holds readings.TooLong callback = dropped_holds [] tt
    called_holds readings.Unparsed callback = dropped_holds [] tt
    called_holds readings.Malformed callback = dropped_holds [] tt

  waiting_holds : (late : Bool) (s : Settled) →
      s ≡ (if late then expired left.entries else performed_as (transaction e ledger.entries left emitted reading)) →
      SettlesSo e ledger number (settled_by left number s (called_back e ledger.entries left w s reading w.callback))
      (sender_of reading)
  waiting_holds late s is =
      called_holds s (subst (λ x.
      TakesBy e ledger.header.seq ledger.next ledger.entries left.entries reading x.result x.fee x.draft x.records)
      (sym is) (settlement_takes e lawful ledger number w late))
      reading w.callback

  settled_holds : SettlesSo e ledger number (settled_waiting e ledger.entries left number w) (sender_of reading)
  settled_holds = waiting_holds (nat_lt w.last ledger.header.seq) (settlement e ledger.entries left w) refl

nothing_holds : (reads : List ℕ → Reading) (ledger : LedgerValue) (sender : Option AccountId) → IsGood reads ledger →
    Holds reads ledger (nothing_settled ledger) (λ q. ⊥) sender
nothing_holds reads ledger sender good = record {
  confined = λ q differ. absurd (differ refl);
  whole = record {
    state = λ q. refl;
    queued = tt;
    next = omega arith;
    gone = λ n some. absurd (omega (arith, some));
    queue = λ n emit settled_so. refl;
    quiet = λ failing. tt;
    alone = λ failing k plain other. refl;
    free = λ failing none k plain. refl;
    burnt = omega arith;
    header = refl;
  };
  good = good;
  sum = refl;
}

entry_holds : (e : Engine) (ledger : LedgerValue) (number : ℕ) → IsLawful e → IsGood e.reads_emitted ledger →
    (found : Option Entry) →
    get ledger.entries (key.Emitted number) ≡ found →
    Holds e.reads_emitted ledger (settled_entry e ledger number found) (λ q. ⊥) (sender_at e.reads_emitted found)
entry_holds e ledger number lawful good (Some (entry.Emitted blob hash first last callback)) there =
    (settled_holds e lawful ledger good number
    (record { blob = blob; hash = hash; first = first; last = last; callback = callback }) there).holds
entry_holds e ledger number lawful good None there = nothing_holds e.reads_emitted ledger None good
entry_holds e ledger number lawful good (Some other) there = nothing_holds e.reads_emitted ledger None good

pub settled_law : SettledHolds
settled_law e ledger number lawful good =
    entry_holds e ledger number lawful good (get ledger.entries (key.Emitted number)) refl

-- the header stays, so the due numbers are those of one ledger
module _ (e : Engine) (lawful : IsLawful e) (ledger : LedgerValue) (good : IsGood e.reads_emitted ledger) (number : ℕ)
    (later : List ℕ) (is : due ledger ≡ number ∷ later) where
  falls_so : (event : Event) (sender : Option AccountId) → SettlesSo e ledger number event sender →
      due event.ledger ≡ later
  falls_so event sender so =
      ap (λ h. numbers (is_due h.seq) (entries event.ledger.entries)) so.holds.whole.header
      ∙ falls (is_due ledger.header.seq) ledger.entries event.ledger.entries number later is
      (ap (passes (is_due ledger.header.seq)) so.gone) so.waits

  is_there : passes (is_due ledger.header.seq) (get ledger.entries (key.Emitted number)) ≡ true
  is_there =
      sym (has_number (is_due ledger.header.seq) number ledger.entries) ∙ ap (has number) is ∙ has_head number later

  entry_falls : (found : Option Entry) → get ledger.entries (key.Emitted number) ≡ found →
      passes (is_due ledger.header.seq) found ≡ true → due (settled_entry e ledger number found).ledger ≡ later
  entry_falls (Some (entry.Emitted blob hash first last callback)) there passed =
      let w : Waiting = record { blob = blob; hash = hash; first = first; last = last; callback = callback } in
      falls_so (settled_waiting e ledger.entries (without ledger number) number w) (sender_of (e.reads_emitted blob))
      (settled_holds e lawful ledger good number w there)
  entry_falls None there passed = cc
  entry_falls (Some other) there passed = cc

  settled_falls : due (settled e ledger number).ledger ≡ later
  settled_falls = entry_falls (get ledger.entries (key.Emitted number)) refl is_there

pub due_law : DueFalls
due_law e ledger number later lawful good is = settled_falls e lawful ledger good number later is

-- while one is due
module _ (e : Engine) (lawful : IsLawful e) where
  while_all : (most : ℕ) (ledger : LedgerValue) → IsGood e.reads_emitted ledger → (ns : List ℕ) → due ledger ≡ ns →
      length ns ≤ most →
      settled_while e most ledger ≡ settled_all e ledger ns
  while_all zero ledger good [] is few = refl
  while_all zero ledger good (n ∷ ns) is few = absurd (omega (arith, few))
  while_all (suc most) ledger good [] is few =
      ap
      (λ ds. on_next ledger (first_settled e ledger ds) (λ event. and_then event (settled_while e most event.ledger)))
      is
  while_all (suc most) ledger good (n ∷ ns) is few =
      ap
      (λ ds. on_next ledger (first_settled e ledger ds) (λ event. and_then event (settled_while e most event.ledger)))
      is
      ∙ ap (and_then (settled e ledger n)) (while_all most (settled e ledger n).ledger
      (settled_law e ledger n lawful good).good ns (due_law e ledger n ns lawful good is) (omega (arith, few)))

  none_left : (ledger : LedgerValue) → IsGood e.reads_emitted ledger → (ns : List ℕ) → due ledger ≡ ns →
      due (settled_all e ledger ns).ledger ≡ []
  none_left ledger good [] is = is
  none_left ledger good (n ∷ ns) is =
      none_left (settled e ledger n).ledger (settled_law e ledger n lawful good).good ns
      (due_law e ledger n ns lawful good is)

pub while_law : SettlesWhileDue
while_law e ledger lawful good = record {
  all = λ most few. while_all e lawful most ledger good (due ledger) refl few;
  none = none_left e lawful ledger good (due ledger) refl;
}

-- the least due number by the entries alone
pub finds_due : FindsDue
finds_due ledger number there least =
    let begins = numbers_begin (is_due ledger.header.seq) ledger.entries number there least in
    record { later = begins.later; is = begins.is }

pub finds_none : FindsNone
finds_none ledger none = numbers_none (is_due ledger.header.seq) ledger.entries none
