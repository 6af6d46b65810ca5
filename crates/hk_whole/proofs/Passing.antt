-- What one event adds to the lines of a replay, and leaves in the queue.
use Rattle.std.proofs.Common.{◌≡◌, ◌∙◌, ℕ, ◌+◌, ◌<◌, ◌≤◌, inl, inr, List, ◌++◌, length, refl, ap, subst, arith}
use Rattle.std.proofs.Common.{Option, Some, None}
use Rattle.std.specs.FinMap.{get}
use Rattle.hk_lines.specs.declared.output_line.OutputLine.{OutputLine}
use Rattle.hk_lines.specs.declared.verdict.Verdict.{Verdict}
use Rattle.hk_reading.specs.declared.reading.Reading.{Reading}
use Rattle.hk_emit.specs.declared.emission.Emission.{Emission}
use Rattle.hk_state.specs.declared.entry.Entry.{Entry}
use Rattle.hk_state.specs.declared.key.Key.TheVariants as key
use Rattle.hk_state.specs.Entries.{Entries}
use Rattle.hk_state.specs.Ledger.{LedgerValue}
use Rattle.hk_draft.specs.Draft.{Draft}
use Rattle.hk_draft.specs.Writers.{IsHook}
use Rattle.hk_events.specs.Engine.{Engine}
use Rattle.hk_events.specs.Events.{applied, with_queued, kept_lines}
use Rattle.hk_events.specs.Good.{IsGood}
use Rattle.hk_events.specs.Lawful.{IsLawful}
use Rattle.hk_events.specs.Lists.{counted}
use Rattle.hk_events.specs.Performed.{transaction}
use Rattle.hk_events.specs.Results.{handed}
use Rattle.hk_events.specs.Whole.{WaitsFor, is_emit, is_settled, sender_of}
use Rattle.hk_events.proofs.Applying.{queue_aside}
use Rattle.hk_events.proofs.Taking.{transaction_takes}
use Rattle.hk_events.proofs.Telling.{IsRecord, hook_record}
use Rattle.hk_events.proofs.Words.{each-map}
use Rattle.hk_final.specs.Counted.{is_queued, waiting}
use Rattle.hk_whole.specs.Accounts.{IsEmitted, AreAsEmitted}
use Rattle.hk_whole.proofs.Inner.{Adds, AreIn, IsFresh, kept_adds, none_settled, none_queued, as_emitted}
use Rattle.hk_whole.proofs.Inner.{hooks_called}
use Rattle.hk_whole.proofs.Queued.{NoneFrom, queue_waits, queue_windows, emits_low, emits_high, emits_once}

-- all that waits has one of these `emit` lines
abbrev pub IsTold : List OutputLine → Entries → Type 0
IsTold emits m = (n first last : ℕ) → WaitsFor first last (get m (key.Emitted n)) → IsEmitted emits n first last

-- the lines of an event from one ledger to the next, under a `ledger` line
pub record Passes (under : Option ℕ) (before after : LedgerValue) (lines : List OutputLine) : Type 0 where
  -- `emit` lines have the numbers from the next one on, each once
  pub once : (n : ℕ) → counted (is_emit n) lines ≤ 1
  pub low : (n : ℕ) → n < before.next → counted (is_emit n) lines ≡ 0
  pub high : (n : ℕ) → after.next ≤ n → counted (is_emit n) lines ≡ 0
  pub rises : before.next ≤ after.next
  -- what waits is what waited, with what is emitted and without what is settled
  pub flows : (n : ℕ) →
      waiting (get after.entries (key.Emitted n)) + counted (is_settled n) lines
      ≡ waiting (get before.entries (key.Emitted n)) + counted (is_emit n) lines
  -- nothing is said of the end
  pub unqueued : (n : ℕ) → counted (is_queued n) lines ≡ 0
  -- and the lines that follow go on from there
  pub as_emitted : (emits rest : List OutputLine) → IsTold emits before.entries →
      ((now : List OutputLine) → IsTold now after.entries → AreAsEmitted now under rest) →
      AreAsEmitted emits under (lines ++ rest)
  pub called : (rest : List OutputLine) → IsFresh rest → IsFresh (lines ++ rest)
  pub header : after.header ≡ before.header

-- nothing waits from the next number on
pub good_none : (reads : List ℕ → Reading) (ledger : LedgerValue) → IsGood reads ledger →
    NoneFrom ledger.next ledger.entries
good_none reads ledger good n high = by (get ledger.entries (key.Emitted n)) refl
  where
    by : (found : Option Entry) → get ledger.entries (key.Emitted n) ≡ found → found ≡ None
    by None at = refl
    by (Some x) at = let low = (good n x at).0 in absurd (omega (arith, low, high))

-- the numbers of lines that add emissions
module _ (next : ℕ) (es : List Emission) (lines : List OutputLine) (adds : Adds next es lines) (n : ℕ) where
  pub adds_once : counted (is_emit n) lines ≤ 1
  adds_once = let is = adds.emits n in let once = emits_once next es n in omega (arith, is, once)

  pub adds_low : n < next → counted (is_emit n) lines ≡ 0
  adds_low low = adds.emits n ∙ emits_low next es n low

  pub adds_high : next + length es ≤ n → counted (is_emit n) lines ≡ 0
  adds_high high = adds.emits n ∙ emits_high next es n high

-- what a draft leaves in the queue, where its own entries leave the queue as it is in m
module _ (next : ℕ) (m : Entries) (d : Draft)
    (same : (n : ℕ) → get d.entries (key.Emitted n) ≡ get m (key.Emitted n)) (lines : List OutputLine)
    (adds : Adds next d.emissions lines) where
  abbrev left : Entries
  left = with_queued next d.emissions d.entries

  pub entered_waits : NoneFrom next m → (n : ℕ) →
      waiting (get left (key.Emitted n)) ≡ waiting (get m (key.Emitted n)) + counted (is_emit n) lines
  entered_waits none n =
      let waits = queue_waits next d.emissions d.entries (λ k high. same k ∙ none k high) n in
      let before = ap waiting (same n) in
      let shown = adds.emits n in
      omega (arith, waits, before, shown)

  pub entered_told : (emits now : List OutputLine) → IsTold emits m → AreIn emits now → AreIn lines now →
      IsTold now left
  entered_told emits now told were are n first last waits =
      elim (queue_windows next d.emissions d.entries n first last waits) as (λ _. IsEmitted now n first last) [
        | inl earlier ↦ were n first last (told n first last (subst (WaitsFor first last) (same n) earlier))
        | inr here ↦ are n first last (adds.tells n first last here)
      ]

-- a transaction that is handed in
module _ (e : Engine) (lawful : IsLawful e) (ledger : LedgerValue) (good : IsGood e.reads_emitted ledger)
    (verdict : Verdict) (blob : List ℕ) (under : Option ℕ) where
  pub applied_passes : Passes under ledger (applied e ledger verdict blob).ledger (applied e ledger verdict blob).lines
  applied_passes =
      let m = ledger.entries in
      let p = transaction e m ledger (handed verdict) (e.reads blob) in
      let takes = transaction_takes e lawful m ledger (handed verdict) (e.reads blob) in
      let lines = kept_lines ledger.next p.draft p.records in
      let records = each-map IsHook IsRecord hook_record p.records takes.hooks in
      let adds = kept_adds ledger.next p.draft p.records records in
      let same : (n : ℕ) → get p.draft.entries (key.Emitted n) ≡ get m (key.Emitted n) =
      (λ n. takes.extends.queue n ∙ takes.same (key.Emitted n) (queue_aside n (sender_of (e.reads blob)))) in
      record {
        once = adds_once ledger.next p.draft.emissions lines adds;
        low = adds_low ledger.next p.draft.emissions lines adds;
        high = adds_high ledger.next p.draft.emissions lines adds;
        rises = omega arith;
        flows = λ n.
            let none = good_none e.reads_emitted ledger good in
            let waits = entered_waits ledger.next m p.draft same lines adds none n in
            let unsettled = none_settled lines adds.inner n in
            omega (arith, waits, unsettled);
        unqueued = none_queued lines adds.inner;
        as_emitted = λ emits rest told after.
            as_emitted under lines rest adds.inner emits (λ now were are.
            after now (entered_told ledger.next m p.draft same lines adds emits now told were are));
        called = λ rest fresh may. hooks_called may ledger.next p.draft p.records rest takes.hooks (fresh may);
        header = refl;
      }
