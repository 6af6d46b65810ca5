-- The lines of a ledger without hooks. This project's own.
use Rattle.std.specs.Prelude.{◌≡◌, Bool, true, false, List, [], ◌∷◌, ◌++◌, None}
use Rattle.std.specs.FinMap.{get}
use Rattle.hk_lines.specs.declared.output_line.OutputLine.{OutputLine}
use Rattle.hk_lines.specs.declared.output_line.OutputLine.TheVariants as printed
use Rattle.hk_state.specs.declared.entry.Entry.{Entry}
use Rattle.hk_state.specs.declared.entry.Entry.TheVariants as entry
use Rattle.hk_state.specs.declared.key.Key.{Key}
use Rattle.hk_state.specs.declared.key.Key.TheVariants as key
use Rattle.hk_state.specs.Ledger.{LedgerValue}
use Rattle.hk_final.specs.Final.{in_order, total_lines, final_lines}

-- a kind of entry that there is by hooks alone
abbrev pub is_by_hooks : Key → Bool
is_by_hooks (key.Install id position) = true
is_by_hooks (key.State id namespace k) = true
is_by_hooks (key.Emitted number) = true
is_by_hooks k = false

-- an account without hooks and states
abbrev pub plain_line : Key → Entry → List OutputLine
plain_line (key.Account id) (entry.Account balance sequence) = printed.FinalAccount id balance sequence 0 0 ∷ []
plain_line k e = []

-- without entries of hooks the lines are those of plain accounts, and the totals
abbrev pub PlainLines : Type 0
PlainLines = (ledger : LedgerValue) → ((k : Key) → is_by_hooks k ≡ true → get ledger.entries k ≡ None) →
    final_lines ledger ≡ in_order plain_line ledger.entries ++ total_lines ledger
