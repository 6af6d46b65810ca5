-- The ledger machine, line by line. This project's own.
use Rattle.std.specs.Prelude.{◌≡◌, ℕ, ◌+◌, ◌≤◌, Bool, not, nat_lt, nat_le, List, [], ◌∷◌, ◌++◌, Option, Some, None}
use Rattle.std.specs.Prelude.{is_some, refl}
use Rattle.std.specs.Coded.{Coded, code_by, coded×, coded_ℕ}
use Rattle.hk_base.specs.declared.ids.AccountId.{AccountId}
use Rattle.hk_lines.specs.declared.input_line.InputLine.{InputLine}
use Rattle.hk_lines.specs.declared.input_line.InputLine.TheVariants.{Account, Ledger, Tx, Hook, End}
use Rattle.hk_lines.specs.declared.output_line.OutputLine.{OutputLine}
use Rattle.hk_lines.specs.declared.output_line.OutputLine.TheVariants as printed
use Rattle.hk_lines.specs.declared.result_name.ResultName.{ResultName}
use Rattle.hk_lines.specs.declared.rule.Rule.{Rule}
use Rattle.hk_lines.specs.declared.rule.Rule.TheVariants.{BadWord, BadOrder, RepeatedAccount, Total}
use Rattle.hk_lines.specs.declared.verdict.Verdict.{Verdict}
use Rattle.hk_base.specs.declared.ids.Hash256.{Hash256}
use Rattle.hk_ledger.specs.declared.replay.Stepped.{Stepped}
use Rattle.hk_ledger.specs.declared.replay.Stepped.TheVariants.{Goes, Ends, Breaks}
use Rattle.hk_state.specs.Holdings.{holding_at}
use Rattle.hk_state.specs.Balances.{balances}
use Rattle.hk_state.specs.Ledger.{LedgerValue, new_ledger, coded_ledger}
use Rattle.hk_base.specs.Rows.{first_row}
use Rattle.hk_state.specs.Rules.{Rules}
use Rattle.hk_events.specs.Events.{Event, applied}
use Rattle.hk_events.specs.Settled.{Opened, opened}
use Rattle.hk_engine.specs.Engine.{engine_of}
use Rattle.hk_final.specs.Final.{final_lines}
use Rattle.hk_ledger.specs.World.{most_drops, with_account}

-- a ledger, and how many transactions came before
pub record State : Type 0 where
  pub ledger : LedgerValue
  pub count : ℕ

abbrev pub coded_state : Coded State
coded_state =
    code_by (LedgerValue × ℕ) (coded× coded_ledger coded_ℕ) (λ s. (s.ledger, s.count))
    (λ p. record { ledger = p.0; count = p.1 }) (λ _. refl)

abbrev pub start : State
start = record { ledger = new_ledger; count = 0 }

-- what a line does: the machine goes on or ends, with what is printed, or the line is wrong
pub data Step : Type 0 where
  goes : State → List OutputLine → Step
  ends : List OutputLine → Step
  breaks : Rule → Step

abbrev pub is_opened : LedgerValue → Bool
is_opened ledger = nat_lt 0 ledger.header.seq

-- the balances with which accounts were opened
abbrev pub opening_total : LedgerValue → ℕ
opening_total ledger = balances ledger.entries + ledger.burnt

abbrev pub account_rules : LedgerValue → AccountId → ℕ → List (Bool × Rule)
account_rules ledger id balance =
    (is_opened ledger, BadOrder)
    ∷ (is_some (holding_at ledger.entries id), RepeatedAccount)
    ∷ (nat_lt most_drops (opening_total ledger + balance), Total)
    ∷ []

abbrev pub ledger_rules : LedgerValue → ℕ → List (Bool × Rule)
ledger_rules ledger seq = (nat_le seq ledger.header.seq, BadOrder) ∷ []

abbrev pub tx_rules : LedgerValue → List (Bool × Rule)
tx_rules ledger = (not (is_opened ledger), BadOrder) ∷ []

abbrev pub unless_broken : Option Rule → Step → Step
unless_broken None step = step
unless_broken (Some rule) step = breaks rule

-- the line of a transaction with this number
abbrev pub tx_line : ℕ → Option ResultName → ℕ → List OutputLine
tx_line number None fee = []
tx_line number (Some name) fee = printed.Tx number name fee ∷ []

-- a transaction is counted, and its line is printed, and then those of the event
abbrev pub counted : ℕ → Event → Step
counted count event =
    goes (record { ledger = event.ledger; count = count + 1 })
    (tx_line (count + 1) event.result event.fee ++ event.lines)

abbrev pub account_step : State → AccountId → ℕ → ℕ → Step
account_step s id balance sequence =
    unless_broken (first_row (account_rules s.ledger id balance))
    (goes (record s { ledger = with_account s.ledger id balance sequence }) [])

-- a ledger is opened, and the lines of its settlements follow its own
abbrev pub opens : State → ℕ → Opened → Step
opens s seq after = goes (record s { ledger = after.ledger }) (printed.Ledger seq ∷ after.lines)

abbrev pub ledger_step : Rules → State → ℕ → ℕ → Hash256 → Step
ledger_step rules s seq time last_hash =
    unless_broken (first_row (ledger_rules s.ledger seq))
    (opens s seq
    (opened (engine_of rules) s.ledger (record { seq = seq; time = time; last_hash = last_hash })))

abbrev pub tx_step : Rules → State → Verdict → List ℕ → Step
tx_step rules s verdict blob =
    unless_broken (first_row (tx_rules s.ledger)) (counted s.count (applied (engine_of rules) s.ledger verdict blob))

-- one line, by the rules for transactions; a `hook` line is no line of a replay
abbrev pub step : Rules → State → InputLine → Step
step rules s (Account id balance sequence) = account_step s id balance sequence
step rules s (Ledger seq time last_hash) = ledger_step rules s seq time last_hash
step rules s (Tx verdict blob) = tx_step rules s verdict blob
step rules s (Hook code) = breaks BadWord
step rules s End = ends (final_lines s.ledger)

-- a line that opens an account has no more drops than there can be
abbrev pub IsInRange : InputLine → Type 0
IsInRange (Account id balance sequence) = balance ≤ most_drops
IsInRange other = Unit {0}

-- an answer is that step
abbrev pub Steps : Step → State → Stepped → Type 0
Steps (goes s lines) now (Goes shown) = (now ≡ s) × (shown ≡ lines)
Steps (ends lines) now (Ends shown) = shown ≡ lines
Steps (breaks rule) now (Breaks shown) = shown ≡ rule
Steps other now shown = ⊥
