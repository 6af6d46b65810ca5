-- What holds of all that a whole replay prints.
use Rattle.std.specs.Prelude.{◌≡◌, List, Some}
use Rattle.hk_lines.specs.declared.input_line.InputLine.{InputLine}
use Rattle.hk_lines.specs.declared.output_line.OutputLine.{OutputLine}
use Rattle.hk_state.specs.Rules.{Rules}
use Rattle.hk_draft.specs.Lists.{Each}
use Rattle.hk_ledger.specs.Machine.{start}
use Rattle.hk_ledger.specs.Replays.{replayed}
use Rattle.hk_whole.specs.Accounts.{Accounts}
use Rattle.hk_whole.specs.Bounded.{IsBounded}
use Rattle.hk_whole.specs.History.{History}

-- the count on each `hook` and `callback` line is at most the bound there
abbrev pub BoundsCounts : Rules → Type 0
BoundsCounts rules = (lines : List InputLine) (shown : List OutputLine) →
    replayed rules start lines ≡ Some shown → Each IsBounded shown

-- the lines have their accounts
abbrev pub AccountsFor : Rules → Type 0
AccountsFor rules = (lines : List InputLine) (shown : List OutputLine) →
    replayed rules start lines ≡ Some shown → Accounts shown

-- the lines have a history
abbrev pub TellsHistory : Rules → Type 0
TellsHistory rules = (lines : List InputLine) (shown : List OutputLine) →
    replayed rules start lines ≡ Some shown → History start.count start.ledger lines shown
