-- What a callback leaves, and what it tells.
use Rattle.std.proofs.Common.{◌≡◌, ◌∙◌, ℕ, ◌+◌, ◌≤◌, List, ◌∷◌, ◌++◌, length, length-append, drop, arith, refl, subst}
use Rattle.std.proofs.Common.{sym, ap, Some}
use Rattle.hk_base.specs.declared.ids.AccountId.{AccountId}
use Rattle.hk_emit.specs.declared.emission.Emission.{Emission}
use Rattle.hk_lines.specs.declared.output_line.OutputLine.{OutputLine}
use Rattle.hk_lines.specs.declared.output_line.OutputLine.TheVariants as printed
use Rattle.hk_lines.specs.declared.settlement.Settlement.{Settlement}
use Rattle.hk_reading.specs.declared.reading.Reading.TheVariants as readings
use Rattle.hk_state.specs.declared.key.Key.TheVariants as key
use Rattle.hk_state.specs.declared.ledger.Header.{Header}
use Rattle.hk_state.specs.Entries.{Entries}
use Rattle.hk_state.specs.Ledger.{LedgerValue}
use Rattle.hk_state.specs.Native.{native}
use Rattle.hk_state.specs.Rules.{Rules}
use Rattle.hk_state.specs.Writes.{Writes}
use Rattle.hk_state.specs.Writes as writes
use Rattle.hk_draft.specs.Draft.{Draft, relisted}
use Rattle.hk_draft.specs.Drafted.{draft_of}
use Rattle.hk_draft.specs.Ends.{ChainEnd, CallbackFits, kept, rejected}
use Rattle.hk_draft.specs.Reads.{reads_emitted}
use Rattle.hk_chain.specs.Callback.{callback_of}
use Rattle.hk_chain.specs.Laws.{CallbacksFit}
use Rattle.hk_chain.specs.Meets.{EndMeans}
use Rattle.hk_chain.specs.declared.ending.ChainEnd as declared
use Rattle.hk_chain.specs.declared.ending.ChainEnd.TheVariants as found
use Rattle.hk_events.specs.Events.{kept_lines}
use Rattle.hk_events.specs.Limits.{Fit, IsMeasured, RoomFit, most_number}
use Rattle.hk_events.specs.Settled as defined
use Rattle.hk_events.specs.Settled.{answered, argument, called_back, settled_waiting, without}
use Rattle.hk_events.proofs.Writing.{overlays_mean}
use Rattle.hk_engine.specs.Engine.{engine_of, setting_of}
use Rattle.hk_settle.specs.declared.answering.Answered as answering
use Rattle.hk_settle.specs.declared.settled.Settled as settled
use Rattle.hk_settle.specs.declared.settling.Settling.{Settling}
use Rattle.hk_settle.specs.declared.waiting.Waiting.{Waiting}
use Rattle.hk_settle.specs.Meets.{Answers, answered_by, answered_of, left_by, settled_by, settling_of}
use Rattle.hk_settle.specs.Waits.{Waits, waiting_of}

-- a draft whose keys are no longer listed
pub relisted_draft : (m : Entries) (w after : Writes) (es earlier : List Emission) → after ≡ writes.relisted w →
    earlier ≡ es → draft_of m after earlier ≡ relisted (draft_of m w es)
relisted_draft m w after es earlier one two =
    (λ i. draft_of m (one i) (two i)) ∙ (overlays_mean m w es).relists

-- an end, by what an answer says of it
rejected_is : (m : Entries) (records : List OutputLine) (x : ChainEnd) → EndMeans m x (found.Rejected records) →
    x ≡ rejected records
rejected_is m records (kept d lines) means = absurd means
rejected_is m records (rejected lines) same = ap rejected (sym same)

kept_is : (m : Entries) (w : Writes) (es : List Emission) (records : List OutputLine) (x : ChainEnd) →
    EndMeans m x (found.Kept w es records) → x ≡ kept (draft_of m w es) records
kept_is m w es records (kept d lines) means = λ i. kept (sym means.0 i) (sym means.1 i)
kept_is m w es records (rejected lines) means = absurd means

-- on the ledger, from a draft of these writes and emissions, whose keys are no longer listed
module _ (ledger : LedgerValue) (w : Waiting) (account : AccountId) (word : Settlement) (a : Draft) where
  abbrev end : ChainEnd
  end = callback_of w.setting ledger.next ledger.entries account w.hash (argument word) (relisted a)

  pub rejected_answer : (records : List OutputLine) → EndMeans ledger.entries end (found.Rejected records) →
      answered_by ledger w account word a ≡ record { draft = a; lines = records }
  rejected_answer records means = ap (answered ledger.next a) (rejected_is ledger.entries records end means)

  module _ (overlay : Writes) (es : List Emission) (records : List OutputLine)
      (means : EndMeans ledger.entries end (found.Kept overlay es records)) where
    pub kept_answer : answered_by ledger w account word a
        ≡ answered ledger.next a (kept (draft_of ledger.entries overlay es) records)
    kept_answer = ap (answered ledger.next a) (kept_is ledger.entries overlay es records end means)

    emissions_so : (x : ChainEnd) → CallbackFits reads_emitted w.setting.header.seq ledger.entries (relisted a) x →
        EndMeans ledger.entries x (found.Kept overlay es records) → length a.emissions ≤ length es
    emissions_so (kept d lines) fits means =
        let more = fits.extends.more in
        let all : length es ≡ length a.emissions + length more =
        ap (λ (b : Draft). length b.emissions) means.0 ∙ ap length fits.extends.emissions
        ∙ length-append a.emissions more in
        omega (arith, all)
    emissions_so (rejected lines) fits means = absurd means

    pub more_kept : CallbacksFit → length a.emissions ≤ length es
    more_kept fit =
        emissions_so end (fit w.setting ledger.next ledger.entries account w.hash (argument word) (relisted a)) means

    room_so : (x : ChainEnd) → RoomFit ledger.next (relisted a) x → ledger.next + length a.emissions ≤ most_number →
        EndMeans ledger.entries x (found.Kept overlay es records) → ledger.next + length es ≤ most_number
    room_so (kept d lines) fits room means =
        let all = fits room in
        let same = ap (λ (b : Draft). length b.emissions) means.0 in omega (arith, all, same)
    room_so (rejected lines) fits room means = absurd means

    pub room_kept : IsMeasured (engine_of native) → ledger.next + length a.emissions ≤ most_number →
        ledger.next + length es ≤ most_number
    room_kept measured room =
        room_so end
        (measured.callbacks w.setting.header ledger.next ledger.entries w.setting.transaction account w.hash
        (argument word) (relisted a)).1 room means

-- of what came of the emission, told so
module _ (ledger : LedgerValue) (number : ℕ) (w : Waiting) (header : w.setting.header ≡ ledger.header) where
  pub told_so : (rules : Rules) (account : AccountId) (s : defined.Settled) (word : Settlement) (d : Draft) →
      s.word ≡ word → s.draft ≡ d →
      answered_by ledger w account word d
      ≡ called_back (engine_of rules) ledger.entries (without ledger number) (waiting_of w) s
      (readings.Transaction w.setting.transaction) (Some account)
  told_so rules account s word d one two =
      (λ i. answered ledger.next (sym two i)
      (callback_of (setting_of (header i) w.setting.transaction) ledger.next ledger.entries account w.hash
      (argument (sym one i)) (relisted (sym two i))))

  -- the event
  pub left_so : (rules : Rules) → Waits ledger number w → (g : Settling) → settling_of ledger.entries g
      ≡ settled_by rules ledger number w → (a : answering.Answered) → Answers ledger w g.word g.overlay g.emissions a →
      (lines : List OutputLine) → lines ≡ (printed.Settled number g.word g.result g.fee
      ∷ kept_lines ledger.next (draft_of ledger.entries g.overlay g.emissions) g.records) ++ a.lines →
      left_by ledger (record {
        result = g.result;
        fee = g.fee;
        overlay = a.overlay;
        emissions = a.emissions;
        lines = lines;
      }) ≡ defined.settled (engine_of rules) ledger number
  left_so rules waits g is a answers lines shown =
      let e = engine_of rules in
      let left = without ledger number in
      let s = settled_by rules ledger number w in
      let told =
      answers rules number s (ap (λ (x : defined.Settled). x.word) (sym is))
      (ap (λ (x : defined.Settled). x.draft) (sym is)) in
      (λ i. record {
        ledger = (defined.settled_by left number (settling_of ledger.entries g) (answered_of ledger.entries a)).ledger;
        result = g.result;
        fee = g.fee;
        lines = shown i;
      })
      ∙ (λ i. defined.settled_by left number (is i) (told i))
      ∙ ap (λ r. defined.settled_by left number s
      (called_back e ledger.entries left (waiting_of w) s r w.callback)) (sym waits.reads)
      ∙ ap (defined.settled_entry e ledger number) (sym waits.there)

-- what an answer says of the callback on a copy whose keys are no longer listed
pub means_so : (ledger : LedgerValue) (w : Waiting) (account : AccountId) (word : Settlement)
    (overlay copy after : Writes)
    (es earlier : List Emission) (slice : List Emission) (told : ℕ) (end : declared.ChainEnd) (x : declared.ChainEnd) →
    copy ≡ overlay → after ≡ writes.relisted copy → earlier ≡ slice → slice ≡ es → told ≡ argument word → end ≡ x →
    EndMeans ledger.entries
    (callback_of w.setting ledger.next ledger.entries account w.hash told (draft_of ledger.entries after earlier)) end →
    EndMeans ledger.entries
    (callback_of w.setting ledger.next ledger.entries account w.hash (argument word)
    (relisted (draft_of ledger.entries overlay es))) x
means_so ledger w account word overlay copy after es earlier slice told end x one two three four five six means =
    let m = ledger.entries in
    let call = λ (n : ℕ) (d : Draft). callback_of w.setting ledger.next m account w.hash n d in
    subst (EndMeans m (call (argument word) (relisted (draft_of m overlay es)))) six
    (subst (λ d. EndMeans m (call (argument word) d) end)
    (relisted_draft m overlay after es earlier (two ∙ ap writes.relisted one) (three ∙ four))
    (subst (λ n. EndMeans m (call n (draft_of m after earlier)) end) five means))
