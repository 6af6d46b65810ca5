-- The lines at the end of a replay: of each account, Install, State entry and queued emission, and of the totals. This
-- project's own.
use Rattle.std.specs.Prelude.{ℕ, ◌<◌, ◌^◌, List, [], ◌∷◌, ◌++◌, length}
use Rattle.std.specs.List.{filter, flat_map}
use Rattle.std.specs.FinMap.{entries}
use Rattle.hk_base.specs.declared.ids.AccountId.{AccountId}
use Rattle.hk_lines.specs.declared.output_line.OutputLine.{OutputLine}
use Rattle.hk_lines.specs.declared.output_line.OutputLine.TheVariants as printed
use Rattle.hk_state.specs.declared.entry.Entry.{Entry}
use Rattle.hk_state.specs.declared.entry.Entry.TheVariants as entry
use Rattle.hk_state.specs.declared.key.Key.{Key}
use Rattle.hk_state.specs.declared.key.Key.TheVariants as key
use Rattle.hk_state.specs.Balances.{balances}
use Rattle.hk_state.specs.Entries.{Entries}
use Rattle.hk_state.specs.Ledger.{LedgerValue}
use Rattle.hk_state.specs.Reserves.{first_install, first_state, is_own}

-- how many entries there are of the account and the kind of a first key
abbrev pub number_of : Key → Entries → ℕ
number_of first m = length (filter (λ e. is_own first e.0) (entries m))

-- an account's numbers of Installs and of State entries
abbrev pub hooks_of : Entries → AccountId → ℕ
hooks_of m id = number_of (first_install id) m

abbrev pub states_of : Entries → AccountId → ℕ
states_of m id = number_of (first_state id) m

-- the line of an entry of each kind
abbrev pub account_line : Entries → Key → Entry → List OutputLine
account_line m (key.Account id) (entry.Account balance sequence) =
    printed.FinalAccount id balance sequence (hooks_of m id) (states_of m id) ∷ []
account_line m k e = []

abbrev pub install_line : Key → Entry → List OutputLine
install_line (key.Install id position) (entry.Install hash on namespace parameters grants) =
    printed.FinalInstall id position hash namespace ∷ []
install_line k e = []

abbrev pub state_line : Key → Entry → List OutputLine
state_line (key.State id namespace k) (entry.State bytes) = printed.FinalState id namespace k bytes ∷ []
state_line k e = []

abbrev pub queued_line : Key → Entry → List OutputLine
queued_line (key.Emitted number) (entry.Emitted blob hash first last callback) =
    printed.FinalQueued number first last ∷ []
queued_line k e = []

-- the lines of all entries, in the order of their keys
abbrev pub in_order : (Key → Entry → List OutputLine) → Entries → List OutputLine
in_order line m = flat_map (λ e. line e.0 e.1) (entries m)

-- the sum of the balances and the burnt fees; nothing follows
abbrev pub total_lines : LedgerValue → List OutputLine
total_lines ledger = printed.FinalTotal (balances ledger.entries) ledger.burnt ∷ printed.Done ∷ []

abbrev pub final_lines : LedgerValue → List OutputLine
final_lines ledger =
    in_order (account_line ledger.entries) ledger.entries
    ++ in_order install_line ledger.entries
    ++ in_order state_line ledger.entries
    ++ in_order queued_line ledger.entries
    ++ total_lines ledger

-- no account has more of either than 64 bits count
pub record AreFew (m : Entries) : Type 0 where
  pub hooks : (id : AccountId) → hooks_of m id < 2 ^ 64
  pub states : (id : AccountId) → states_of m id < 2 ^ 64
