-- Events: what one leaves of the ledger, and what it reports. This project's own.
use Rattle.std.specs.Prelude.{ℕ, ◌+◌, List, [], ◌∷◌, ◌++◌, length, Option, Some}
use Rattle.std.specs.FinMap.{insert}
use Rattle.hk_lines.specs.declared.output_line.OutputLine.{OutputLine}
use Rattle.hk_lines.specs.declared.result_name.ResultName.{ResultName}
use Rattle.hk_lines.specs.declared.verdict.Verdict.{Verdict}
use Rattle.hk_emit.specs.declared.emission.Emission.{Emission}
use Rattle.hk_state.specs.declared.entry.Entry.{Entry}
use Rattle.hk_state.specs.declared.entry.Entry.TheVariants as entry
use Rattle.hk_state.specs.declared.key.Key.TheVariants as key
use Rattle.hk_state.specs.Entries.{Entries}
use Rattle.hk_state.specs.Ledger.{LedgerValue}
use Rattle.hk_draft.specs.Draft.{Draft}
use Rattle.hk_events.specs.Engine.{Engine}
use Rattle.hk_events.specs.Results.{handed}
use Rattle.hk_events.specs.Printed.{state_lines, emit_lines}
use Rattle.hk_events.specs.Performed.{Performed, transaction}

-- the ledger after an event, and its report: the result, none of an emission that expired; the fee; and the lines, of
-- a transaction those that follow its `tx` line
pub record Event : Type 0 where
  pub ledger : LedgerValue
  pub result : Option ResultName
  pub fee : ℕ
  pub lines : List OutputLine

-- the entry of an emission that waits
abbrev pub queued : Emission → Entry
queued e = entry.Emitted e.transaction.blob e.hash e.first e.last e.callback

-- emissions under their numbers, the first at `next`
abbrev pub with_queued : ℕ → List Emission → Entries → Entries
with_queued next [] m = m
with_queued next (e ∷ es) m = with_queued (next + 1) es (insert m (key.Emitted next) (queued e))

-- what is kept enters the ledger together: entries, emissions with their numbers, and the burnt fee
abbrev pub entered : LedgerValue → Draft → ℕ → LedgerValue
entered ledger d fee =
    record ledger {
      entries = with_queued ledger.next d.emissions d.entries;
      next = ledger.next + length d.emissions;
      burnt = ledger.burnt + fee;
    }

-- the hooks that ran, the kept writes, and the kept emissions
abbrev pub kept_lines : ℕ → Draft → List OutputLine → List OutputLine
kept_lines next d records = records ++ (state_lines d.entries d.written ++ emit_lines next d.emissions)

abbrev pub applied_by : LedgerValue → Performed → Event
applied_by ledger p =
    record {
      ledger = entered ledger p.draft p.fee;
      result = Some p.result;
      fee = p.fee;
      lines = kept_lines ledger.next p.draft p.records;
    }

-- a transaction that is handed in, by its bytes and the verdict on its signature
abbrev pub applied : Engine → LedgerValue → Verdict → List ℕ → Event
applied e ledger verdict blob =
    applied_by ledger (transaction e ledger.entries ledger (handed verdict) (e.reads blob))
