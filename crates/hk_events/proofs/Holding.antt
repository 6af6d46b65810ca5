-- What holds of an event: of what it starts from, of what a transaction leaves, and of what a callback leaves then.
use Rattle.std.proofs.Common.{◌≡◌, ◌≢◌, ℕ, ◌+◌, ◌<◌, ◌≤◌, ◌⊎◌, inl, inr, Bool, true, false, List, [], ◌∷◌, ◌++◌, length}
use Rattle.std.proofs.Common.{length-append, refl, sym, ap, subst, ◌∙◌, arith, Option, Some, None}
use Rattle.std.specs.Option.{option_or}
use Rattle.std.specs.FinMap.{get}
use Rattle.hk_base.specs.declared.ids.AccountId.{AccountId}
use Rattle.hk_lines.specs.declared.output_line.OutputLine.{OutputLine}
use Rattle.hk_lines.specs.declared.output_line.OutputLine.TheVariants as printed
use Rattle.hk_lines.specs.declared.result_name.ResultName.{ResultName}
use Rattle.hk_lines.specs.declared.result_name.ResultName.TheVariants.{Success}
use Rattle.hk_reading.specs.declared.reading.Reading.{Reading}
use Rattle.hk_emit.specs.declared.emission.Emission.{Emission}
use Rattle.hk_state.specs.declared.key.Key.{Key}
use Rattle.hk_state.specs.declared.key.Key.TheVariants as key
use Rattle.hk_state.specs.declared.key.StateKey.{StateKey}
use Rattle.hk_state.specs.Keys.{as_key}
use Rattle.hk_state.specs.Entries.{Entries, change_or}
use Rattle.hk_state.specs.Balances.{balances}
use Rattle.hk_state.specs.Ledger.{LedgerValue}
use Rattle.hk_draft.specs.Lists.{Each}
use Rattle.hk_draft.specs.Draft.{Draft, draft_on, relisted, is_listed}
use Rattle.hk_draft.specs.Extends.{Extends, Emits, HoldsState, KeepsOthers, is_state}
use Rattle.hk_draft.specs.Writers.{IsWriter, HookRan, CallbackRan, IsHook, IsCallback, IsHookOf, IsCallbackOf}
use Rattle.hk_draft.proofs.Extended.{each-append}
use Rattle.hk_draft.proofs.Somewhere.{some-front, some-behind}
use Rattle.hk_events.specs.Lists.{counted, last_of}
use Rattle.hk_events.specs.Printed.{state_lines, emit_lines}
use Rattle.hk_events.specs.Events.{Event, entered, with_queued, kept_lines}
use Rattle.hk_events.specs.Settled.{is_due, passes}
use Rattle.hk_events.specs.Confined.{HasKept, IsConfined}
use Rattle.hk_events.specs.Whole.{HasFailed, change_of, IsQueuedIn, is_emission, is_emit, is_settled, until_callback}
use Rattle.hk_events.specs.Whole.{IsQuiet, is_plain, is_account}
use Rattle.hk_events.specs.Good.{IsQueueGood}
use Rattle.hk_events.specs.Laws.{Holds}
use Rattle.hk_events.proofs.Words.{counted-append, last_of-append, each-map, or_none}
use Rattle.hk_events.proofs.Telling.{IsRecord, IsFront, hook_record, callback_record, front_told, front_emissions}
use Rattle.hk_events.proofs.Telling.{kept_emissions, kept_emit, kept_settled, heard, kept_told}
use Rattle.hk_events.proofs.Queueing.{is_numbered, queue_others, queue_sum, queue_below, queue_silent, queue_lines}
use Rattle.hk_events.proofs.Queueing.{emit_lines-append, good_queue, front_queued, kept_queued}
use Rattle.hk_events.proofs.Chaining.{writer_by}
use Rattle.hk_events.proofs.Falling.{due_queue}
use Rattle.hk_events.proofs.Taking.{Grounds}

-- the entries that a transaction starts from, with fee and sequence taken, against those before; `front` are the lines
-- that are there already
pub record Starts (reads : List ℕ → Reading) (before : LedgerValue) (base : Entries) (front : List OutputLine)
    (sender : Option AccountId) (fee : ℕ) (result : Option ResultName) :
    Type 0 where
  pub fronts : Each IsFront front
  pub plain : (k : Key) → is_plain k ≡ true → is_account k sender ≡ false → get base k ≡ get before.entries k
  pub state : (q : StateKey) → get base (as_key q) ≡ get before.entries (as_key q)
  pub queue : (n : ℕ) → counted (is_settled n) front ≡ 0 → get base (key.Emitted n) ≡ get before.entries (key.Emitted n)
  pub gone : (n : ℕ) → 1 ≤ counted (is_settled n) front → (n < before.next) × (get base (key.Emitted n) ≡ None)
  pub free : fee ≡ 0 → result ≢ Some Success → (k : Key) → is_plain k ≡ true → get base k ≡ get before.entries k
  pub sum : balances base + fee ≡ balances before.entries
  pub good : IsQueueGood reads before.next base

-- what a transaction leaves
pub record Ran (reads : List ℕ → Reading) (seq : ℕ) (before base : Entries) (records : List OutputLine)
    (D : StateKey → Type 0) (s : Draft) (result : Option ResultName) :
    Type 0 where
  pub extends : Extends reads seq (Grounds before records D) (draft_on base) s
  pub hooks : Each IsHook records
  pub success : (result ≡ Some Success) ⊎ (s ≡ draft_on base)

-- what a callback leaves then, with these emissions of its own
pub record Called (reads : List ℕ → Reading) (seq : ℕ) (before : Entries) (s d : Draft) (more : List Emission)
    (records : List OutputLine) : Type 0 where
  pub extends : Extends reads seq (IsWriter before (CallbackRan records)) (relisted s) d
  pub emissions : d.emissions ≡ s.emissions ++ more
  pub emits : Each (Emits reads seq) more
  pub others : KeepsOthers s.entries d.entries
  pub calls : Each IsCallback records
  pub none : records ≡ [] → (d.written ≡ []) × (more ≡ [])

-- the event holds, and all that isn't settled in front is due as before
pub record Happens (reads : List ℕ → Reading) (before : LedgerValue) (event : Event) (D : StateKey → Type 0)
    (sender : Option AccountId) (front : List OutputLine) : Type 0 where
  pub holds : Holds reads before event D sender
  pub waits : (n : ℕ) → counted (is_settled n) front ≡ 0 →
      passes (is_due before.header.seq) (get event.ledger.entries (key.Emitted n))
      ≡ passes (is_due before.header.seq) (get before.entries (key.Emitted n))

each-split : {X : Type 0} (P : X → Type 0) (xs ys : List X) → Each P (xs ++ ys) → Each P xs × Each P ys
each-split P [] ys h = (tt, h)
each-split P (x ∷ xs) ys h = let rest = each-split P xs ys h.1 in ((h.0, rest.0), rest.1)

pub plain_number : (k : Key) → is_plain k ≡ true → is_numbered k ≡ false
plain_number (key.Account id) h = refl
plain_number (key.Install owner position) h = refl
plain_number (key.Definition hash) h = refl
plain_number (key.State owner namespace k) h = cc
plain_number (key.Emitted n) h = cc
plain_number (key.Other bytes) h = refl

plain_state : (k : Key) → is_plain k ≡ true → is_state k ≡ false
plain_state (key.Account id) h = refl
plain_state (key.Install owner position) h = refl
plain_state (key.Definition hash) h = refl
plain_state (key.State owner namespace k) h = cc
plain_state (key.Emitted n) h = cc
plain_state (key.Other bytes) h = refl

-- lines before a callback's
abbrev IsBefore : OutputLine → Type 0
IsBefore (printed.Settled number word result fee) = Unit {0}
IsBefore (printed.Hook account position outcome count bound) = Unit {0}
IsBefore other = ⊥

front_before : (line : OutputLine) → IsFront line → IsBefore line
front_before (printed.Settled number word result fee) h = tt
front_before other h = absurd h

hook_before : (line : OutputLine) → IsHook line → IsBefore line
hook_before (printed.Hook account position outcome count bound) h = tt
hook_before other h = absurd h

quiet_before : (xs ys : List OutputLine) → Each IsBefore xs → Each IsQuiet (until_callback ys) →
    Each IsQuiet (until_callback (xs ++ ys))
quiet_before [] ys h quiet = quiet
quiet_before (printed.Settled number word result fee ∷ xs) ys h quiet = (tt, quiet_before xs ys h.1 quiet)
quiet_before (printed.Hook account position outcome count bound ∷ xs) ys h quiet = (tt, quiet_before xs ys h.1 quiet)
quiet_before (other ∷ xs) ys h quiet = absurd h.0

quiet_tail : (records : List OutputLine) (m : Entries) (written : List StateKey) (n : ℕ) (more : List Emission) →
    Each IsCallback records →
    (records ≡ [] → (written ≡ []) × (more ≡ [])) →
    Each IsQuiet (until_callback (records ++ (state_lines m written ++ emit_lines n more)))
quiet_tail [] m written n more calls none =
    let is = none refl in
    subst (λ w. Each IsQuiet (until_callback (state_lines m w ++ emit_lines n more))) (sym is.0)
    (subst (λ es. Each IsQuiet (until_callback (emit_lines n es))) (sym is.1) tt)
quiet_tail (printed.Callback account position outcome count bound ∷ records) m written n more calls none = tt
quiet_tail (other ∷ records) m written n more calls none = absurd calls.0

module _ (reads : List ℕ → Reading) (before : LedgerValue) (base : Entries) (front : List OutputLine)
    (sender : Option AccountId) (fee : ℕ) (result : Option ResultName)
    (records : List OutputLine) (D : StateKey → Type 0) (s d : Draft) (more : List Emission) (calls : List OutputLine)
    (starts : Starts reads before base front sender fee result)
    (ran : Ran reads before.header.seq before.entries base records D s result)
    (called : Called reads before.header.seq before.entries s d more calls) where
  abbrev own : List OutputLine
  own = kept_lines before.next s records

  abbrev tail : List OutputLine
  tail =
      kept_lines (before.next + length s.emissions)
      (record { entries = d.entries; written = d.written; emissions = more }) calls

  abbrev pub happened : Event
  happened = record { ledger = entered before d fee; result = result; fee = fee; lines = front ++ (own ++ tail) }

  hooks_are : Each IsRecord records
  hooks_are = each-map IsHook IsRecord hook_record records ran.hooks

  calls_are : Each IsRecord calls
  calls_are = each-map IsCallback IsRecord callback_record calls called.calls

  all_counted : (test : OutputLine → Bool) →
      counted test (front ++ (own ++ tail)) ≡ counted test front + (counted test own + counted test tail)
  all_counted test =
      let all = counted-append test front (own ++ tail) in
      let rest = counted-append test own tail in omega (arith, all, rest)

  -- State entries
  after_state : (q : StateKey) → get happened.ledger.entries (as_key q) ≡ get d.entries (as_key q)
  after_state q = queue_others before.next d.emissions d.entries (as_key q) refl

  holds_own : (q : StateKey) → is_listed q s.written ≡ true → HoldsState (get s.entries (as_key q))
  holds_own q h =
      elim (ran.extends.grounds q h) as (λ _. HoldsState (get s.entries (as_key q))) [ inl listed ↦ cc | inr g ↦ g.1 ]

  holds_tail : (q : StateKey) → is_listed q d.written ≡ true → HoldsState (get d.entries (as_key q))
  holds_tail q h =
      elim (called.extends.grounds q h) as (λ _. HoldsState (get d.entries (as_key q))) [
        | inl listed ↦ cc
        | inr g ↦ g.1
      ]

  told : (q : StateKey) →
      last_of (change_of q) (front ++ (own ++ tail))
      ≡ option_or (heard (is_listed q d.written) (get d.entries (as_key q)))
      (heard (is_listed q s.written) (get s.entries (as_key q)))
  told q =
      last_of-append (change_of q) front (own ++ tail)
      ∙ ap (λ o. option_or (last_of (change_of q) (own ++ tail)) o) (front_told q front starts.fronts)
      ∙ or_none _
      ∙ last_of-append (change_of q) own tail
      ∙ ap (λ o. option_or o (last_of (change_of q) own))
      (kept_told d.entries q (before.next + length s.emissions) d.written more calls calls_are (holds_tail q))
      ∙ ap (λ o. option_or (heard (is_listed q d.written) (get d.entries (as_key q))) o)
      (kept_told s.entries q before.next s.written s.emissions records hooks_are (holds_own q))

  unwritten : (q : StateKey) → is_listed q d.written ≡ false → is_listed q s.written ≡ false →
      get d.entries (as_key q) ≡ get before.entries (as_key q)
  unwritten q later earlier = called.extends.unlisted q later ∙ ran.extends.unlisted q earlier ∙ starts.state q

  state_by : (q : StateKey) (later earlier : Bool) → is_listed q d.written ≡ later → is_listed q s.written ≡ earlier →
      get d.entries (as_key q)
      ≡ change_or (option_or (heard later (get d.entries (as_key q))) (heard earlier (get s.entries (as_key q))))
      (get before.entries (as_key q))
  state_by q true earlier is was = refl
  state_by q false true is was = called.extends.unlisted q is
  state_by q false false is was = unwritten q is was

  state_so : (q : StateKey) →
      get happened.ledger.entries (as_key q)
      ≡ change_or (last_of (change_of q) happened.lines) (get before.entries (as_key q))
  state_so q =
      after_state q ∙ state_by q (is_listed q d.written) (is_listed q s.written) refl refl
      ∙ ap (λ o. change_or o (get before.entries (as_key q))) (sym (told q))

  -- who wrote them
  hook_shown : (account : AccountId) (position : ℕ) → HookRan records account position →
      HookRan happened.lines account position
  hook_shown account position h =
      some-behind (IsHookOf account position) front (own ++ tail)
      (some-front (IsHookOf account position) own tail
      (some-front (IsHookOf account position) records
      (state_lines s.entries s.written ++ emit_lines before.next s.emissions) h))

  call_shown : (account : AccountId) (position : ℕ) → CallbackRan calls account position →
      CallbackRan happened.lines account position
  call_shown account position h =
      some-behind (IsCallbackOf account position) front (own ++ tail)
      (some-behind (IsCallbackOf account position) own tail
      (some-front (IsCallbackOf account position) calls
      (state_lines d.entries d.written ++ emit_lines (before.next + length s.emissions) more) h))

  succeeds : (q : StateKey) → is_listed q s.written ≡ true → result ≡ Some Success
  succeeds q h = elim ran.success as (λ _. result ≡ Some Success) [
    | inl ok ↦ ok
    | inr same ↦ let none : is_listed q s.written ≡ false = ap (λ x. is_listed q x.written) same in cc
  ]

  abbrev Deleted : StateKey → Type 0
  Deleted q = (result ≡ Some Success) × D q

  written_before : (q : StateKey) → is_listed q s.written ≡ true → Grounds before.entries records D q →
      IsWriter before.entries (HasKept happened) q ⊎ Deleted q
  written_before q h (inl w) =
      inl (writer_by before.entries (HookRan records) (HasKept happened)
      (λ account position ran_so. inl (succeeds q h, hook_shown account position ran_so)) q w)
  written_before q h (inr deleted) = inr (succeeds q h, deleted)

  confined_by : (q : StateKey) (later earlier : Bool) → is_listed q d.written ≡ later →
      is_listed q s.written ≡ earlier →
      get happened.ledger.entries (as_key q) ≢ get before.entries (as_key q) →
      IsWriter before.entries (HasKept happened) q ⊎ Deleted q
  confined_by q true earlier is was differ =
      elim (called.extends.grounds q is) as (λ _. IsWriter before.entries (HasKept happened) q ⊎ Deleted q) [
        | inl listed ↦ cc
        | inr g ↦
            inl (writer_by before.entries (CallbackRan calls) (HasKept happened)
            (λ account position ran_so. inr (call_shown account position ran_so)) q g.0)
      ]
  confined_by q false true is was differ =
      elim (ran.extends.grounds q was) as (λ _. IsWriter before.entries (HasKept happened) q ⊎ Deleted q) [
        | inl listed ↦ cc
        | inr g ↦ written_before q was g.0
      ]
  confined_by q false false is was differ = absurd (differ (after_state q ∙ unwritten q is was))

  confined_so : IsConfined before happened Deleted
  confined_so q differ = confined_by q (is_listed q d.written) (is_listed q s.written) refl refl differ

  -- the queue
  queue_so : (n : ℕ) → counted (is_emit n) happened.lines ≡ 0 → counted (is_settled n) happened.lines ≡ 0 →
      get happened.ledger.entries (key.Emitted n) ≡ get before.entries (key.Emitted n)
  queue_so n emit settled =
      let all = all_counted (is_emit n) in
      let one = kept_emit before.next s records hooks_are n in
      let two =
      kept_emit (before.next + length s.emissions)
      (record { entries = d.entries; written = d.written; emissions = more }) calls calls_are n in
      let parts =
      counted-append (is_emit n) (emit_lines before.next s.emissions)
      (emit_lines (before.next + length s.emissions) more) in
      let whole = ap (counted (is_emit n)) (emit_lines-append before.next s.emissions more) in
      let silent : counted (is_emit n) (emit_lines before.next (s.emissions ++ more)) ≡ 0 =
      omega (arith, all, one, two, parts, whole, emit) in
      let shown = all_counted (is_settled n) in
      let front_none : counted (is_settled n) front ≡ 0 = omega (arith, shown, settled) in
      ap (λ es. get (with_queued before.next es d.entries) (key.Emitted n)) called.emissions
      ∙ queue_silent before.next (s.emissions ++ more) d.entries n silent
      ∙ called.extends.queue n ∙ ran.extends.queue n ∙ starts.queue n front_none

  gone_so : (n : ℕ) → 1 ≤ counted (is_settled n) happened.lines → get happened.ledger.entries (key.Emitted n) ≡ None
  gone_so n settled =
      let shown = all_counted (is_settled n) in
      let one = kept_settled before.next s records hooks_are n in
      let two =
      kept_settled (before.next + length s.emissions)
      (record { entries = d.entries; written = d.written; emissions = more }) calls calls_are n in
      let gone = starts.gone n (omega (arith, shown, one, two, settled)) in
      queue_below before.next d.emissions d.entries n gone.0 ∙ called.extends.queue n ∙ ran.extends.queue n ∙ gone.1

  queued_so : Each (IsQueuedIn happened.ledger.entries) happened.lines
  queued_so =
      let waiting =
      subst (λ lines. Each (IsQueuedIn (with_queued before.next (s.emissions ++ more) d.entries)) lines)
      (emit_lines-append before.next s.emissions more)
      (queue_lines before.next (s.emissions ++ more) d.entries) in
      let wait =
      subst (λ es.
      Each (IsQueuedIn (with_queued before.next es d.entries))
      (emit_lines before.next s.emissions ++ emit_lines (before.next + length s.emissions) more)) (sym called.emissions)
      waiting in
      let both =
      each-split (IsQueuedIn happened.ledger.entries) (emit_lines before.next s.emissions)
      (emit_lines (before.next + length s.emissions) more) wait in
      each-append (IsQueuedIn happened.ledger.entries) front (own ++ tail)
      (front_queued happened.ledger.entries front starts.fronts)
      (each-append (IsQueuedIn happened.ledger.entries) own tail
      (kept_queued happened.ledger.entries before.next s records hooks_are both.0)
      (kept_queued happened.ledger.entries (before.next + length s.emissions)
      (record { entries = d.entries; written = d.written; emissions = more }) calls calls_are both.1))

  next_so : happened.ledger.next ≡ before.next + counted is_emission happened.lines
  next_so =
      let all = all_counted is_emission in
      let none = front_emissions front starts.fronts in
      let one = kept_emissions before.next s records hooks_are in
      let two =
      kept_emissions (before.next + length s.emissions)
      (record { entries = d.entries; written = d.written; emissions = more }) calls calls_are in
      let long : length d.emissions ≡ length s.emissions + length more =
      ap length called.emissions ∙ length-append s.emissions more in
      omega (arith, all, none, one, two, long)

  all_emitted : Each (Emits reads before.header.seq) d.emissions
  all_emitted =
      let first : Each (Emits reads before.header.seq) s.emissions =
      subst (Each (Emits reads before.header.seq)) (sym ran.extends.emissions) ran.extends.emits in
      subst (Each (Emits reads before.header.seq)) (sym called.emissions)
      (each-append (Emits reads before.header.seq) s.emissions more first called.emits)

  left_good : IsQueueGood reads before.next d.entries
  left_good n x at = starts.good n x (sym (called.extends.queue n ∙ ran.extends.queue n) ∙ at)

  waits_so : (n : ℕ) → counted (is_settled n) front ≡ 0 →
      passes (is_due before.header.seq) (get happened.ledger.entries (key.Emitted n))
      ≡ passes (is_due before.header.seq) (get before.entries (key.Emitted n))
  waits_so n none =
      due_queue reads before.header.seq before.next d.emissions d.entries all_emitted left_good n
      ∙ ap (passes (is_due before.header.seq)) (called.extends.queue n ∙ ran.extends.queue n ∙ starts.queue n none)

  -- failures
  dropped : HasFailed happened → s ≡ draft_on base
  dropped failing = elim ran.success as (λ _. s ≡ draft_on base) [ inl ok ↦ absurd (failing ok) | inr same ↦ same ]

  quiet_so : HasFailed happened → Each IsQuiet (until_callback happened.lines)
  quiet_so failing =
      subst (λ x. Each IsQuiet (until_callback (front ++ (kept_lines before.next x records ++ tail))))
      (sym (dropped failing))
      (quiet_before front ((records ++ []) ++ tail) (each-map IsFront IsBefore front_before front starts.fronts)
      (quiet_before (records ++ []) tail
      (each-append IsBefore records [] (each-map IsHook IsBefore hook_before records ran.hooks) tt)
      (quiet_tail calls d.entries d.written (before.next + length s.emissions) more called.calls called.none)))

  back_to_base : HasFailed happened → (k : Key) → is_plain k ≡ true → get happened.ledger.entries k ≡ get base k
  back_to_base failing k plain =
      queue_others before.next d.emissions d.entries k (plain_number k plain)
      ∙ called.others k (plain_state k plain) ∙ ap (λ x. get x.entries k) (dropped failing)

  sum_so : balances happened.ledger.entries + happened.ledger.burnt ≡ balances before.entries + before.burnt
  sum_so =
      let queue = queue_sum before.next d.emissions d.entries in
      let two = called.extends.sum in
      let one = ran.extends.sum in
      let paid = starts.sum in omega (arith, queue, two, one, paid)

  event_holds : Holds reads before happened Deleted sender
  event_holds = record {
    confined = confined_so;
    whole = record {
      state = state_so;
      queued = queued_so;
      next = next_so;
      gone = gone_so;
      queue = queue_so;
      quiet = quiet_so;
      alone = λ failing k plain other. back_to_base failing k plain ∙ starts.plain k plain other;
      free = λ failing none k plain. back_to_base failing k plain ∙ starts.free none failing k plain;
      burnt = refl;
      header = refl;
    };
    good = good_queue reads before.header.seq before.next d.emissions d.entries all_emitted left_good;
    sum = sum_so;
  }

  pub event_happens : Happens reads before happened Deleted sender front
  event_happens = record { holds = event_holds; waits = waits_so }
