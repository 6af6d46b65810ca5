-- What a whole replay tells of its hooks, its emissions and its events, on the lines that were taken and written. This
-- project's own.
use Rattle.std.specs.Prelude.{ℕ, List, Option}
use Rattle.std.specs.Io.KnownBytes.{Appends}
use Rattle.hk_lines.specs.declared.output_line.OutputLine.{OutputLine}
use Rattle.hk_state.specs.Ledger.{new_ledger}
use Rattle.hk_draft.specs.Lists.{Each}
use Rattle.hk_whole.specs.Accounts.{Accounts}
use Rattle.hk_whole.specs.Bounded.{IsBounded}
use Rattle.hk_whole.specs.History.{History}
use Rattle.hk_replay.specs.Conserved.{input_lines}
use Rattle.hk_replay.specs.Replaying.{texts}

-- lines were written; each count is at most the bound beside it, and each emission is accounted for; and from the empty
-- ledger on they tell of the events of the lines that were taken, each confined and whole or nothing
pub record Told (bytes : List ℕ) (before now : Option (List ℕ)) : Type 0 where
  pub lines : List OutputLine
  pub wrote : Appends before now (texts lines)
  pub bounded : Each IsBounded lines
  pub accounts : Accounts lines
  pub history : History 0 new_ledger (input_lines bytes) lines
