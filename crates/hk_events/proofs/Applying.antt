-- A transaction that is handed in.
use Rattle.std.proofs.Common.{◌≡◌, ℕ, ◌⊎◌, inl, inr, false, List, [], append-nil, refl, sym, ap, subst, ◌∙◌, arith}
use Rattle.std.proofs.Common.{Option, Some, None}
use Rattle.std.specs.FinMap.{get}
use Rattle.hk_base.specs.declared.ids.AccountId.{AccountId}
use Rattle.hk_lines.specs.declared.output_line.OutputLine.{OutputLine}
use Rattle.hk_lines.specs.declared.result_name.ResultName.TheVariants.{Success}
use Rattle.hk_reading.specs.declared.reading.Reading.{Reading}
use Rattle.hk_reading.specs.declared.reading.Reading.TheVariants as readings
use Rattle.hk_state.specs.declared.key.Key.TheVariants as key
use Rattle.hk_state.specs.declared.key.StateKey.{StateKey}
use Rattle.hk_state.specs.Keys.{as_key}
use Rattle.hk_state.specs.Entries.{Entries}
use Rattle.hk_state.specs.Ledger.{LedgerValue}
use Rattle.hk_draft.specs.Draft.{Draft, relisted}
use Rattle.hk_draft.specs.Lists.{Each}
use Rattle.hk_draft.specs.Writers.{IsWriter, CallbackRan, IsCallback}
use Rattle.hk_draft.proofs.Extended.{extends_itself, others_itself}
use Rattle.hk_events.specs.Engine.{Engine}
use Rattle.hk_events.specs.Results.{handed}
use Rattle.hk_events.specs.Performed.{Performed, transaction}
use Rattle.hk_events.specs.Events.{Event, applied, applied_by, kept_lines, entered}
use Rattle.hk_events.specs.Confined.{HasKept, Deletes}
use Rattle.hk_events.specs.Whole.{is_account, sender_of}
use Rattle.hk_events.specs.Good.{IsGood}
use Rattle.hk_events.specs.Laws.{Holds, AppliedHolds}
use Rattle.hk_events.proofs.Taking.{Takes, DeletedBy, transaction_takes}
use Rattle.hk_events.proofs.Holding.{Starts, Ran, Called, event_happens}

-- an account's key is none of State, nor of the queue
pub state_aside : (q : StateKey) (sender : Option AccountId) → is_account (as_key q) sender ≡ false
state_aside q None = refl
state_aside q (Some account) = refl

pub queue_aside : (n : ℕ) (sender : Option AccountId) → is_account (key.Emitted n) sender ≡ false
queue_aside n None = refl
queue_aside n (Some account) = refl

-- a callback that leaves nothing, or none
pub dropped_call : (reads : List ℕ → Reading) (seq : ℕ) (before : Entries) (s : Draft) (records : List OutputLine) →
    Each IsCallback records →
    Called reads seq before s (relisted s) [] records
dropped_call reads seq before s records calls = record {
  extends = extends_itself reads seq (IsWriter before (CallbackRan records)) (relisted s);
  emissions = sym (append-nil s.emissions);
  emits = tt;
  others = others_itself s.entries;
  calls = calls;
  none = λ h. (refl, refl);
}

module _ (e : Engine) (ledger : LedgerValue) (reading : Reading) (good : IsGood e.reads_emitted ledger) (p : Performed)
    (takes : Takes e ledger.header.seq ledger.next ledger.entries ledger.entries reading p) where
  starts : Starts e.reads_emitted ledger takes.base [] (sender_of reading) p.fee (Some p.result)
  starts = record {
    fronts = tt;
    plain = λ k plain other. takes.same k other;
    state = λ q. takes.same (as_key q) (state_aside q (sender_of reading));
    queue = λ n none. takes.same (key.Emitted n) (queue_aside n (sender_of reading));
    gone = λ n some. absurd (omega (arith, some));
    free = λ none failing k plain. ap (λ m. get m k) (takes.free none failing);
    sum = takes.sum;
    good = λ n x at. good n x (sym (takes.same (key.Emitted n) (queue_aside n (sender_of reading))) ∙ at);
  }

  ran : Ran e.reads_emitted ledger.header.seq ledger.entries takes.base p.records (DeletedBy reading) p.draft
      (Some p.result)
  ran = record { extends = takes.extends; hooks = takes.hooks; success = takes.success }

  applied_holds : Holds e.reads_emitted ledger (applied_by ledger p)
      (λ q. (Some p.result ≡ Some Success) × DeletedBy reading q) (sender_of reading)
  applied_holds =
      subst (λ lines.
      Holds e.reads_emitted ledger
      (record { ledger = entered ledger p.draft p.fee; result = Some p.result; fee = p.fee; lines = lines })
      (λ q. (Some p.result ≡ Some Success) × DeletedBy reading q) (sender_of reading))
      (append-nil (kept_lines ledger.next p.draft p.records))
      (event_happens e.reads_emitted ledger takes.base [] (sender_of reading) p.fee (Some p.result) p.records
      (DeletedBy reading) p.draft (relisted p.draft) [] [] starts ran
      (dropped_call e.reads_emitted ledger.header.seq ledger.entries p.draft [] tt)).holds

-- with less that may have been deleted
pub deleted_so : (reads : List ℕ → Reading) (before : LedgerValue) (event : Event) (D F : StateKey → Type 0)
    (sender : Option AccountId) →
    ((q : StateKey) → D q → F q) → Holds reads before event D sender → Holds reads before event F sender
deleted_so reads before event D F sender more holds = record {
  confined =
      λ q differ.
      elim (holds.confined q differ) as (λ _. IsWriter before.entries (HasKept event) q ⊎ F q) [
        | inl w ↦ inl w
        | inr h ↦ inr (more q h)
      ];
  whole = holds.whole;
  good = holds.good;
  sum = holds.sum;
}

deletes_so : (reading : Reading) (event : Event) (q : StateKey) → (event.result ≡ Some Success) × DeletedBy reading q →
    Deletes reading event q
deletes_so readings.TooLong event q h = absurd h.1
deletes_so readings.Unparsed event q h = absurd h.1
deletes_so readings.Malformed event q h = absurd h.1
deletes_so (readings.Transaction t) event q h = h

pub applied_law : AppliedHolds
applied_law e ledger verdict blob lawful good =
    deleted_so e.reads_emitted ledger (applied e ledger verdict blob)
    (λ q. ((applied e ledger verdict blob).result ≡ Some Success) × DeletedBy (e.reads blob) q)
    (Deletes (e.reads blob) (applied e ledger verdict blob)) (sender_of (e.reads blob))
    (deletes_so (e.reads blob) (applied e ledger verdict blob))
    (applied_holds e ledger (e.reads blob) good (transaction e ledger.entries ledger (handed verdict) (e.reads blob))
    (transaction_takes e lawful ledger.entries ledger (handed verdict) (e.reads blob)))
