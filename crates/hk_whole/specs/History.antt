-- *History of a replay*: the ledgers to which the lines of its input lead, what is printed between them, and what holds
-- of each step. It speaks of lines and ledgers, and of no machine. This project's own.
use Rattle.std.specs.Prelude.{◌≡◌, ℕ, ◌+◌, List, [], ◌∷◌, ◌++◌}
use Rattle.std.specs.FinMap.{get}
use Rattle.hk_lines.specs.declared.input_line.InputLine.{InputLine}
use Rattle.hk_lines.specs.declared.input_line.InputLine.TheVariants.{Account, Ledger, Tx, Hook, End}
use Rattle.hk_lines.specs.declared.output_line.OutputLine.{OutputLine}
use Rattle.hk_lines.specs.declared.output_line.OutputLine.TheVariants as printed
use Rattle.hk_state.specs.declared.key.Key.TheVariants as key
use Rattle.hk_state.specs.declared.ledger.Header.{Header}
use Rattle.hk_state.specs.Ledger.{LedgerValue, with_header}
use Rattle.hk_draft.specs.Reads.{reads_emitted}
use Rattle.hk_events.specs.Events.{Event}
use Rattle.hk_events.specs.Laws.{Holds}
use Rattle.hk_events.specs.Settled.{sender_at}
use Rattle.hk_final.specs.Final.{final_lines}
use Rattle.hk_ledger.specs.Machine.{tx_line}
use Rattle.hk_ledger.specs.Reports.{HoldsFor}
use Rattle.hk_ledger.specs.World.{with_account}

-- the settlement of the emission that waits under a number
pub record Settling : Type 0 where
  pub number : ℕ
  pub event : Event

-- the ledger after settlements, and their lines
abbrev pub ledger_after : LedgerValue → List Settling → LedgerValue
ledger_after ledger [] = ledger
ledger_after ledger (one ∷ more) = ledger_after one.event.ledger more

abbrev pub lines_of : List Settling → List OutputLine
lines_of [] = []
lines_of (one ∷ more) = one.event.lines ++ lines_of more

-- each settlement is confined and whole or nothing, as an event of the sender of the emission; nothing is deleted
abbrev pub AllHold : LedgerValue → List Settling → Type 0
AllHold ledger [] = Unit {0}
AllHold ledger (one ∷ more) =
    Holds reads_emitted ledger one.event (λ q. ⊥)
    (sender_at reads_emitted (get ledger.entries (key.Emitted one.number)))
    × AllHold one.event.ledger more

-- the line of an opened ledger, with the settlements under it, and what comes of the ledger that they leave
pub record Opens (Later : LedgerValue → List OutputLine → Type 0) (ledger : LedgerValue) (header : Header)
    (shown : List OutputLine) : Type 0 where
  pub settlings : List Settling
  pub rest : List OutputLine
  pub hold : AllHold (with_header ledger header) settlings
  pub lines : shown ≡ printed.Ledger header.seq ∷ (lines_of settlings ++ rest)
  pub later : Later (ledger_after (with_header ledger header) settlings) rest

-- the line of a transaction with this number, and what comes of the ledger that it leaves: its event is confined and
-- whole or nothing
pub record Applies (Later : LedgerValue → List OutputLine → Type 0) (ledger : LedgerValue) (number : ℕ) (blob : List ℕ)
    (shown : List OutputLine) : Type 0 where
  pub event : Event
  pub rest : List OutputLine
  pub holds : HoldsFor blob ledger event
  pub lines : shown ≡ tx_line number event.result event.fee ++ (event.lines ++ rest)
  pub later : Later event.ledger rest

-- from a ledger on, and so many transactions before, these lines are printed for the lines of an input
abbrev pub History : ℕ → LedgerValue → List InputLine → List OutputLine → Type 0
History count ledger [] shown = ⊥
History count ledger (Account id balance sequence ∷ lines) shown =
    History count (with_account ledger id balance sequence) lines shown
History count ledger (Ledger seq time last_hash ∷ lines) shown =
    Opens (λ after rest. History count after lines rest) ledger
    (record { seq = seq; time = time; last_hash = last_hash }) shown
History count ledger (Tx verdict blob ∷ lines) shown =
    Applies (λ after rest. History (count + 1) after lines rest) ledger (count + 1) blob shown
History count ledger (Hook code ∷ lines) shown = ⊥
History count ledger (End ∷ lines) shown = shown ≡ final_lines ledger
