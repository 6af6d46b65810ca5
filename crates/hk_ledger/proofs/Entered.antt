-- What enters the ledger, and its report, are the event.
use Rattle.std.proofs.Common.{◌≡◌, ◌∙◌, ℕ, List, ◌++◌, length, append_assoc, subst, sym, ap, Some}
use Rattle.std.proofs.Common.{Result, Ok, Err, IfOk, OnErr}
use Rattle.hk_lines.specs.declared.output_line.OutputLine.{OutputLine}
use Rattle.hk_emit.specs.declared.emission.Emission.{Emission}
use Rattle.hk_state.specs.Ledger.{LedgerValue, committed}
use Rattle.hk_state.specs.Rules.{state_keys}
use Rattle.hk_state.specs.Writes.{Writes, with_writes}
use Rattle.hk_draft.specs.Drafted.{draft_of}
use Rattle.hk_events.specs.Events.{Event, applied_by, entered}
use Rattle.hk_events.specs.Overlays.{all_queued}
use Rattle.hk_events.specs.Printed.{state_lines, emit_lines}
use Rattle.hk_events.proofs.Writing.{commits_so}
use Rattle.hk_perform.specs.declared.performed.Performed as declared
use Rattle.hk_settle.specs.declared.settled.Settled as settled
use Rattle.hk_settle.specs.Meets.{left_by}
use Rattle.hk_ledger.specs.declared.report.Report.{Report}
use Rattle.hk_ledger.specs.Reports.{event_of, performed_of}

-- what is stored is what enters
pub stored : (ledger now : LedgerValue) (w queued : Writes) (es : List Emission) (next count fee : ℕ) →
    next ≡ ledger.next → count ≡ length es → queued ≡ all_queued w next es → now ≡ committed ledger queued count fee →
    now ≡ entered ledger (draft_of ledger.entries w es) fee
stored ledger now w queued es next count fee first counted queues made =
    let writes : queued ≡ all_queued w ledger.next es = queues ∙ ap (λ n. all_queued w n es) first in
    made ∙ (λ i. committed ledger (writes i) (counted i) fee) ∙ commits_so ledger w es fee

module _ (ledger now : LedgerValue) (answer : declared.Performed) (next : ℕ) (states lines : List OutputLine)
    (emissions : List Emission) where
  pub entered_event : next ≡ ledger.next → emissions ≡ answer.emissions →
      now ≡ entered ledger (draft_of ledger.entries answer.overlay answer.emissions) answer.fee →
      states ≡ answer.records
      ++ state_lines (with_writes ledger.entries answer.overlay) (state_keys answer.overlay.listed) →
      lines ≡ states ++ emit_lines next emissions →
      event_of now (record { result = Some answer.result; fee = answer.fee; lines = lines })
      ≡ applied_by ledger (performed_of ledger.entries answer)
  entered_event first same left told shown =
      let written = state_lines (with_writes ledger.entries answer.overlay) (state_keys answer.overlay.listed) in
      let all : lines ≡ (applied_by ledger (performed_of ledger.entries answer)).lines =
      shown ∙ (λ i. told i ++ emit_lines (first i) (same i))
      ∙ append_assoc answer.records written (emit_lines ledger.next answer.emissions) in
      (λ i. record { ledger = left i; result = Some answer.result; fee = answer.fee; lines = all i })

-- and of a settlement
pub entered_settled : (ledger now : LedgerValue) (answer : settled.Settled) →
    now ≡ entered ledger (draft_of ledger.entries answer.overlay answer.emissions) answer.fee →
    event_of now (record { result = answer.result; fee = answer.fee; lines = answer.lines }) ≡ left_by ledger answer
entered_settled ledger now answer left =
    (λ i. record { ledger = left i; result = answer.result; fee = answer.fee; lines = answer.lines })

-- what holds of the ledger of the event, and of the one before
pub either_way : {E : Type 0} (result : Result Report E) (before now : LedgerValue) (event : Event)
    (P : LedgerValue → Type 0) → IfOk result (λ report. event_of now report ≡ event) → OnErr result (now ≡ before) →
    P event.ledger → P before → P now
either_way (Ok report) before now event P ok err done kept = subst P (sym (ap (λ e. e.ledger) ok)) done
either_way (Err e) before now event P ok err done kept = subst P (sym err) kept
