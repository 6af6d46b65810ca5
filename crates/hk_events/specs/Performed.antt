-- A transaction: its results in order, and what each of them keeps. This project's own.
use Rattle.std.specs.Prelude.{ℕ, ◌==◌, if◌then◌else◌, List, [], Option, Some, None}
use Rattle.xo_object.specs.declared.transaction.Transaction.{Transaction}
use Rattle.hk_lines.specs.declared.output_line.OutputLine.{OutputLine}
use Rattle.hk_lines.specs.declared.result_name.ResultName.{ResultName}
use Rattle.hk_lines.specs.declared.result_name.ResultName.TheVariants.{TooLong, Unparsed, Malformed, HookRejected}
use Rattle.hk_lines.specs.declared.result_name.ResultName.TheVariants.{Success}
use Rattle.hk_reading.specs.declared.reading.Reading.{Reading}
use Rattle.hk_reading.specs.declared.reading.Reading.TheVariants as readings
use Rattle.hk_reading.specs.Readings.{hook_kind}
use Rattle.hk_state.specs.declared.ledger.Header.{Header}
use Rattle.hk_state.specs.Entries.{Entries}
use Rattle.hk_state.specs.Ledger.{LedgerValue}
use Rattle.hk_state.specs.Rules.{Effect, keeps, fails}
use Rattle.hk_draft.specs.Draft.{Draft, draft_on}
use Rattle.hk_draft.specs.Ends.{ChainEnd, kept, rejected}
use Rattle.hk_events.specs.Engine.{Engine}
use Rattle.hk_events.specs.Results.{Origin, refusal, paid}
use Rattle.hk_events.specs.Chains.{chains, sides}
use Rattle.hk_events.specs.Items.{ItemEnd, leaves, stops, hooks_end}

-- what a transaction comes to: its result, the fee that is burnt, what is written, and the lines of the hooks that ran
pub record Performed : Type 0 where
  pub result : ResultName
  pub fee : ℕ
  pub draft : Draft
  pub records : List OutputLine

-- nothing changes
abbrev pub refused : Entries → ResultName → Performed
refused m name = record { result = name; fee = 0; draft = draft_on m; records = [] }

-- m has fee and sequence alone; neither writes nor emissions are kept
abbrev pub failed : Entries → Transaction → ResultName → List OutputLine → Performed
failed m t name records = record { result = name; fee = t.fee; draft = draft_on m; records = records }

abbrev pub succeeded : Transaction → Draft → List OutputLine → Performed
succeeded t d records = record { result = Success; fee = t.fee; draft = d; records = records }

abbrev pub after_items : Entries → Transaction → List OutputLine → ItemEnd → Performed
after_items m t records (leaves d) = succeeded t d records
after_items m t records (stops name) = failed m t name records

abbrev pub after_rules : Entries → Transaction → List OutputLine → Draft → Effect → Performed
after_rules m t records d (keeps n) =
    succeeded t (record { entries = n; written = d.written; emissions = d.emissions }) records
after_rules m t records d (fails name) = failed m t name records

-- the transaction itself: the items of a change of hooks, or the rules of its type
abbrev pub effect : Engine → Header → Entries → Transaction → List OutputLine → Draft → Performed
effect e header m t records d =
    if t.kind == hook_kind then after_items m t records (hooks_end e t.account t.hooks d)
    else after_rules m t records d (e.rules header d.entries t)

abbrev pub after_chains : Engine → Header → Entries → Transaction → ChainEnd → Performed
after_chains e header m t (kept d records) = effect e header m t records d
after_chains e header m t (rejected records) = failed m t HookRejected records

-- on the entries m, which have fee and sequence taken: the chain of the account, that of another destination, and then
-- the transaction itself
abbrev pub performed : Engine → Entries → LedgerValue → Entries → Transaction → Performed
performed e before ledger m t =
    after_chains e ledger.header m t (chains (e.chain ledger.header ledger.next before t) (sides t) (draft_on m))

abbrev pub unless_refused : Engine → Entries → LedgerValue → Origin → Transaction → Option ResultName → Performed
unless_refused e before ledger origin t (Some name) = refused ledger.entries name
unless_refused e before ledger origin t None = performed e before ledger (paid ledger.entries origin t) t

-- what bytes read as, on a ledger; `before` are the entries as the event began, where Installs, Definitions and grants
-- are read that the runs go by
abbrev pub transaction : Engine → Entries → LedgerValue → Origin → Reading → Performed
transaction e before ledger origin readings.TooLong = refused ledger.entries TooLong
transaction e before ledger origin readings.Unparsed = refused ledger.entries Unparsed
transaction e before ledger origin readings.Malformed = refused ledger.entries Malformed
transaction e before ledger origin (readings.Transaction t) =
    unless_refused e before ledger origin t (refusal e before ledger origin t)
