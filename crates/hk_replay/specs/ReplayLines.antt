-- The lines of a replay by their order, and the ledger machine that goes through right lines (this project's own).
use Rattle.std.specs.Prelude.{◌≡◌, ℕ, ◌+◌, Bool, false, ◌||◌, not, nat_lt, nat_le}
use Rattle.std.specs.Prelude.{List, [], ◌∷◌, ◌++◌, Option, Some, None, Result, Ok, Err}
use Rattle.std.specs.Str.{bytes_eq}
use Rattle.hk_base.specs.declared.ids.AccountId.{AccountId}
use Rattle.hk_lines.specs.Given.{Close, given}
use Rattle.hk_lines.specs.Lines.{Read, takes, closes, refuses, Machine, lines, fold_lines}
use Rattle.hk_lines.specs.declared.input_line.InputLine.{InputLine}
use Rattle.hk_lines.specs.declared.input_line.InputLine.TheVariants.{Account, Ledger, Tx, Hook, End}
use Rattle.hk_lines.specs.declared.line_fault.LineFault.{LineFault}
use Rattle.hk_lines.specs.declared.output_line.OutputLine.{OutputLine}
use Rattle.hk_lines.specs.declared.output_line.OutputLine.TheVariants as shown
use Rattle.hk_lines.specs.declared.rule.Rule.{Rule}
use Rattle.hk_lines.specs.declared.rule.Rule.TheVariants.{BadWord, BadOrder, RepeatedAccount, Total}
use Rattle.hk_lines.specs.declared.status.Status.TheVariants.{Done}
use Rattle.hk_ledger.specs.Machine.{State, start, tx_line}
use Rattle.hk_final.specs.Final.{final_lines}
use Rattle.hk_state.specs.Native.{native}
use Rattle.hk_base.specs.Rows.{first_row}
use Rattle.hk_events.specs.Events.{Event, applied}
use Rattle.hk_events.specs.Settled.{Opened, opened}
use Rattle.hk_engine.specs.Engine.{engine_of}
use Rattle.hk_ledger.specs.World.{most_drops, with_account}
use Rattle.hk_replay.specs.Replaying.{texts, replay_turn}
use Rattle.hk_lines.specs.Taken.{read_if, rule_of}
use Rattle.hk_replay.specs.Words.{is_replay_line}

-- what earlier lines say: the accounts that were opened, the sum of their balances, and the last ledger's sequence, 0
-- before the first
pub record Order : Type 0 where
  pub accounts : List AccountId
  pub total : ℕ
  pub seq : ℕ

abbrev pub no_lines : Order
no_lines = record { accounts = []; total = 0; seq = 0 }

abbrev pub is_among : AccountId → List AccountId → Bool
is_among id [] = false
is_among id (first ∷ ids) = bytes_eq id.0 first.0 || is_among id ids

-- accounts come before the first ledger, each once, and not with more drops than there can be
abbrev pub account_faults : Order → AccountId → ℕ → List (Bool × Rule)
account_faults order id balance =
    (nat_lt 0 order.seq, BadOrder)
    ∷ (is_among id order.accounts, RepeatedAccount)
    ∷ (nat_lt most_drops (order.total + balance), Total)
    ∷ []

-- ledgers rise
abbrev pub ledger_faults : Order → ℕ → List (Bool × Rule)
ledger_faults order seq = (nat_le seq order.seq, BadOrder) ∷ []

-- transactions come in a ledger
abbrev pub tx_faults : Order → List (Bool × Rule)
tx_faults order = (not (nat_lt 0 order.seq), BadOrder) ∷ []

abbrev pub unless_refused : {Q L : Type 0} → Option Rule → Read Q L → Read Q L
unless_refused None read = read
unless_refused (Some rule) read = refuses rule

abbrev pub with_opened : Order → AccountId → ℕ → Order
with_opened order id balance = record order { accounts = id ∷ order.accounts; total = order.total + balance }

-- a line of one of the forms
abbrev pub ordered : Order → InputLine → Read Order InputLine
ordered order (Account id balance sequence) =
    unless_refused (first_row (account_faults order id balance))
    (takes (with_opened order id balance) (Account id balance sequence))
ordered order (Ledger seq time last_hash) =
    unless_refused (first_row (ledger_faults order seq))
    (takes (record order { seq = seq }) (Ledger seq time last_hash))
ordered order (Tx verdict blob) = unless_refused (first_row (tx_faults order)) (takes order (Tx verdict blob))
ordered order (Hook code) = refuses BadWord
ordered order End = closes

abbrev pub ordered_read : Order → Result InputLine LineFault → Read Order InputLine
ordered_read order (Ok line) = ordered order line
ordered_read order (Err fault) = refuses (rule_of fault)

-- whether a line is a right one of a replay, by those before it
abbrev pub replay_line : Order → List ℕ → Read Order InputLine
replay_line order line = ordered_read order (read_if (is_replay_line line) line)

-- an event leaves its ledger, and its line is printed, and then those that follow it
abbrev pub after_event : State → Event → State × List OutputLine
after_event s event = (
  record { ledger = event.ledger; count = s.count + 1 },
  tx_line (s.count + 1) event.result event.fee ++ event.lines,
)

-- an opened ledger is left, and the lines of its settlements stand behind its own
abbrev pub after_opening : State → ℕ → Opened → State × List OutputLine
after_opening s seq after = (record s { ledger = after.ledger }, shown.Ledger seq ∷ after.lines)

-- what a right line does and prints
abbrev pub right_step : State → InputLine → State × List OutputLine
right_step s (Account id balance sequence) = (record s { ledger = with_account s.ledger id balance sequence }, [])
right_step s (Ledger seq time last_hash) =
    after_opening s seq
    (opened (engine_of native) s.ledger (record { seq = seq; time = time; last_hash = last_hash }))
right_step s (Tx verdict blob) = after_event s (applied (engine_of native) s.ledger verdict blob)
right_step s other = (s, [])

-- at the end, accounts and totals are printed
abbrev pub replay_machine : Machine State InputLine
replay_machine = record {
  step = λ s line. ((right_step s line).0, texts (right_step s line).1);
  final_text = λ s. texts (final_lines s.ledger);
  final_status = λ s. Done;
}

-- a replay is the machine, going through the lines
abbrev pub ReplayFolds : Type 0
ReplayFolds = (limit : ℕ) (bytes : List ℕ) (close : Close) →
    given replay_turn limit start bytes close
    ≡ fold_lines replay_machine start (lines replay_line limit no_lines bytes close)
