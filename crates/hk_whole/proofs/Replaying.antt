-- What holds of the lines of a whole replay, from what each line of its input does.
use Rattle.std.proofs.Common.{◌≡◌, ℕ, ◌+◌, List, [], ◌∷◌, ◌++◌, refl, ap, subst, Option, Some, None}
use Rattle.std.specs.Option.{option_map, unwrap_or}
use Rattle.hk_base.specs.declared.ids.AccountId.{AccountId}
use Rattle.hk_base.specs.Rows.{first_row}
use Rattle.hk_lines.specs.declared.input_line.InputLine.{InputLine}
use Rattle.hk_lines.specs.declared.input_line.InputLine.TheVariants.{Account, Ledger, Tx, Hook, End}
use Rattle.hk_lines.specs.declared.output_line.OutputLine.{OutputLine}
use Rattle.hk_lines.specs.declared.output_line.OutputLine.TheVariants as printed
use Rattle.hk_lines.specs.declared.rule.Rule.{Rule}
use Rattle.hk_lines.specs.declared.verdict.Verdict.{Verdict}
use Rattle.hk_state.specs.declared.ledger.Header.{Header}
use Rattle.hk_state.specs.Ledger.{LedgerValue}
use Rattle.hk_state.specs.Rules.{Rules}
use Rattle.hk_final.specs.Final.{final_lines}
use Rattle.hk_events.specs.Events.{Event, applied}
use Rattle.hk_events.specs.Settled.{opened}
use Rattle.hk_engine.specs.Engine.{engine_of}
use Rattle.hk_ledger.specs.Machine.{State, goes, unless_broken, account_rules, ledger_rules, tx_rules, tx_line}
use Rattle.hk_ledger.specs.Replays.{continued, replayed}
use Rattle.hk_ledger.specs.World.{with_account}

-- a line that isn't wrong prints its lines in front of those that follow
module _ (P : List OutputLine → Type 0) (s : State) (shown : List OutputLine)
    (later : State → Option (List OutputLine))
    (front : (rest : List OutputLine) → later s ≡ Some rest → P (shown ++ rest)) (whole : List OutputLine) where
  front_by : (found : Option (List OutputLine)) → later s ≡ found →
      option_map (λ rest. shown ++ rest) found ≡ Some whole → P whole
  front_by None at h = cc
  front_by (Some rest) at h = subst P (ap (λ all. unwrap_or all whole) h) (front rest at)

  pub goes_on : (found : Option Rule) → continued (unless_broken found (goes s shown)) later ≡ Some whole → P whole
  goes_on None h = front_by (later s) refl h
  goes_on (Some rule) h = cc

-- ---- what holds from a ledger on is led back over each line

abbrev pub ByAccount : (LedgerValue → List OutputLine → Type 0) → Type 0
ByAccount P = (ledger : LedgerValue) (id : AccountId) (balance sequence : ℕ) (rest : List OutputLine) →
    P (with_account ledger id balance sequence) rest → P ledger rest

abbrev pub ByLedger : Rules → (LedgerValue → List OutputLine → Type 0) → Type 0
ByLedger rules P = (ledger : LedgerValue) (header : Header) (rest : List OutputLine) →
    P (opened (engine_of rules) ledger header).ledger rest →
    P ledger (printed.Ledger header.seq ∷ ((opened (engine_of rules) ledger header).lines ++ rest))

-- what is printed of a transaction with this number
abbrev pub event_lines : ℕ → Event → List OutputLine
event_lines number event = tx_line number event.result event.fee ++ event.lines

abbrev pub ByTx : Rules → (LedgerValue → List OutputLine → Type 0) → Type 0
ByTx rules P = (ledger : LedgerValue) (number : ℕ) (verdict : Verdict) (blob : List ℕ) (rest : List OutputLine) →
    P (applied (engine_of rules) ledger verdict blob).ledger rest →
    P ledger (event_lines number (applied (engine_of rules) ledger verdict blob) ++ rest)

abbrev pub AtEnd : (LedgerValue → List OutputLine → Type 0) → Type 0
AtEnd P = (ledger : LedgerValue) → P ledger (final_lines ledger)

module _ (rules : Rules) (P : LedgerValue → List OutputLine → Type 0) (account : ByAccount P)
    (opens : ByLedger rules P) (applies : ByTx rules P) (ends : AtEnd P) where
  pub whole_replay : (lines : List InputLine) (s : State) (shown : List OutputLine) →
      replayed rules s lines ≡ Some shown → P s.ledger shown
  whole_replay [] s shown h = cc
  whole_replay (Account id balance sequence ∷ lines) s shown h =
      goes_on (P s.ledger) _ [] (λ next. replayed rules next lines)
      (λ rest at. account s.ledger id balance sequence rest (whole_replay lines _ rest at)) shown
      (first_row (account_rules s.ledger id balance)) h
  whole_replay (Ledger seq time last_hash ∷ lines) s shown h =
      let header : Header = record { seq = seq; time = time; last_hash = last_hash } in
      goes_on (P s.ledger) _ _ (λ next. replayed rules next lines)
      (λ rest at. opens s.ledger header rest (whole_replay lines _ rest at)) shown
      (first_row (ledger_rules s.ledger seq)) h
  whole_replay (Tx verdict blob ∷ lines) s shown h =
      goes_on (P s.ledger) _ _ (λ next. replayed rules next lines)
      (λ rest at. applies s.ledger (s.count + 1) verdict blob rest (whole_replay lines _ rest at)) shown
      (first_row (tx_rules s.ledger)) h
  whole_replay (Hook code ∷ lines) s shown h = cc
  whole_replay (End ∷ lines) s shown h =
      subst (P s.ledger) (ap (λ all. unwrap_or all shown) h) (ends s.ledger)
