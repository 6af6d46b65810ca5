-- A replay has a history.
use Rattle.std.proofs.Common.{◌≡◌, ℕ, ◌+◌, List, [], ◌∷◌, ◌++◌, refl, ap, sym, subst, append_assoc, Option, Some, None}
use Rattle.std.specs.Option.{unwrap_or}
use Rattle.hk_base.specs.Rows.{first_row}
use Rattle.hk_lines.specs.declared.input_line.InputLine.{InputLine}
use Rattle.hk_lines.specs.declared.input_line.InputLine.TheVariants.{Account, Ledger, Tx, Hook, End}
use Rattle.hk_lines.specs.declared.output_line.OutputLine.{OutputLine}
use Rattle.hk_lines.specs.declared.output_line.OutputLine.TheVariants as printed
use Rattle.hk_state.specs.declared.ledger.Header.{Header}
use Rattle.hk_state.specs.Ledger.{LedgerValue, with_header}
use Rattle.hk_state.specs.Rules.{Rules}
use Rattle.hk_draft.specs.Reads.{reads_emitted}
use Rattle.hk_events.specs.Engine.{Engine}
use Rattle.hk_events.specs.Events.{applied}
use Rattle.hk_events.specs.Good.{IsGood}
use Rattle.hk_events.specs.Lawful.{IsLawful}
use Rattle.hk_events.specs.Settled.{due, settled, settled_all}
use Rattle.hk_events.proofs.Applying.{applied_law}
use Rattle.hk_events.proofs.Settling.{settled_law}
use Rattle.hk_engine.specs.Engine.{engine_of}
use Rattle.hk_ledger.specs.Machine.{State, start, account_rules, ledger_rules, tx_rules, tx_line}
use Rattle.hk_ledger.specs.Replays.{replayed}
use Rattle.hk_ledger.proofs.Conserving.{settled_kept}
use Rattle.hk_ledger.proofs.Whole.{new_whole, account_queued}
use Rattle.hk_whole.specs.History.{Settling, AllHold, History, ledger_after, lines_of}
use Rattle.hk_whole.specs.Laws.{TellsHistory}
use Rattle.hk_whole.proofs.Replaying.{goes_on}

-- the settlements of these numbers, one after the other
module _ (e : Engine) where
  abbrev settlings : LedgerValue → List ℕ → List Settling
  settlings ledger [] = []
  settlings ledger (number ∷ numbers) =
      record { number = number; event = settled e ledger number }
      ∷ settlings (settled e ledger number).ledger numbers

  same_ledger : (ledger : LedgerValue) (numbers : List ℕ) →
      ledger_after ledger (settlings ledger numbers) ≡ (settled_all e ledger numbers).ledger
  same_ledger ledger [] = refl
  same_ledger ledger (number ∷ numbers) = same_ledger (settled e ledger number).ledger numbers

  same_lines : (ledger : LedgerValue) (numbers : List ℕ) →
      lines_of (settlings ledger numbers) ≡ (settled_all e ledger numbers).lines
  same_lines ledger [] = refl
  same_lines ledger (number ∷ numbers) =
      ap (λ more. (settled e ledger number).lines ++ more) (same_lines (settled e ledger number).ledger numbers)

module _ (rules : Rules) (lawful : IsLawful (engine_of rules)) where
  abbrev e : Engine
  e = engine_of rules

  all_hold : (ledger : LedgerValue) (numbers : List ℕ) → IsGood reads_emitted ledger →
      AllHold ledger (settlings e ledger numbers)
  all_hold ledger [] good = tt
  all_hold ledger (number ∷ numbers) good =
      let holds = settled_law e ledger number lawful good in
      (holds, all_hold (settled e ledger number).ledger numbers holds.good)

  recounts : (lines : List InputLine) (s : State) (shown : List OutputLine) → IsGood reads_emitted s.ledger →
      replayed rules s lines ≡ Some shown → History s.count s.ledger lines shown
  recounts [] s shown good h = cc
  recounts (Account id balance sequence ∷ lines) s shown good h =
      goes_on (λ all. History s.count s.ledger (Account id balance sequence ∷ lines) all) _ []
      (λ next. replayed rules next lines)
      (λ rest at. recounts lines _ rest (account_queued s.ledger id balance sequence good) at) shown
      (first_row (account_rules s.ledger id balance)) h
  recounts (Ledger seq time last_hash ∷ lines) s shown good h =
      let header : Header = record { seq = seq; time = time; last_hash = last_hash } in
      let now = with_header s.ledger header in
      goes_on (λ all. History s.count s.ledger (Ledger seq time last_hash ∷ lines) all) _ _
      (λ next. replayed rules next lines)
      (λ rest at. record {
        settlings = settlings e now (due now);
        rest = rest;
        hold = all_hold now (due now) good;
        lines = ap (λ more. printed.Ledger seq ∷ (more ++ rest)) (sym (same_lines e now (due now)));
        later =
            subst (λ after. History s.count after lines rest) (sym (same_ledger e now (due now)))
            (recounts lines _ rest (settled_kept e lawful (due now) now good).good at);
      }) shown
      (first_row (ledger_rules s.ledger seq)) h
  recounts (Tx verdict blob ∷ lines) s shown good h =
      let event = applied e s.ledger verdict blob in
      let holds = applied_law e s.ledger verdict blob lawful good in
      goes_on (λ all. History s.count s.ledger (Tx verdict blob ∷ lines) all) _ _
      (λ next. replayed rules next lines)
      (λ rest at. record {
        event = event;
        rest = rest;
        holds = holds;
        lines = append_assoc (tx_line (s.count + 1) event.result event.fee) event.lines rest;
        later = recounts lines _ rest holds.good at;
      }) shown
      (first_row (tx_rules s.ledger)) h
  recounts (Hook code ∷ lines) s shown good h = cc
  recounts (End ∷ lines) s shown good h = sym (ap (λ all. unwrap_or all shown) h)

  pub tells_history : TellsHistory rules
  tells_history lines shown h = recounts lines start shown new_whole.queue h
