-- How many lines are told of an account, and of an emission. This project's own.
use Rattle.std.specs.Prelude.{◌≡◌, ℕ, ◌==◌, Bool, true, false, Option, Some}
use Rattle.std.specs.List.{count_by}
use Rattle.std.specs.Str.{bytes_eq}
use Rattle.std.specs.FinMap.{get}
use Rattle.hk_base.specs.declared.ids.AccountId.{AccountId}
use Rattle.hk_base.specs.declared.ids.Hash256.{Hash256}
use Rattle.hk_lines.specs.declared.output_line.OutputLine.{OutputLine}
use Rattle.hk_lines.specs.declared.output_line.OutputLine.TheVariants as printed
use Rattle.hk_state.specs.declared.entry.Entry.{Entry}
use Rattle.hk_state.specs.declared.entry.Entry.TheVariants as entry
use Rattle.hk_state.specs.declared.key.Key.TheVariants as key
use Rattle.hk_state.specs.Entries.{Entries}
use Rattle.hk_state.specs.Least.{is_from}
use Rattle.hk_state.specs.Ledger.{LedgerValue}
use Rattle.hk_state.specs.Reserves.{first_state}
use Rattle.hk_final.specs.Final.{hooks_of, states_of, final_lines}

-- the line of an Install of the account, of a State entry of the account, and of the emission of a number
abbrev pub is_install_of : AccountId → OutputLine → Bool
is_install_of id (printed.FinalInstall account position hash namespace) = bytes_eq id.0 account.0
is_install_of id line = false

abbrev pub is_state_of : AccountId → OutputLine → Bool
is_state_of id (printed.FinalState account namespace k value) = bytes_eq id.0 account.0
is_state_of id line = false

abbrev pub is_queued : ℕ → OutputLine → Bool
is_queued n (printed.FinalQueued number first last) = number == n
is_queued n line = false

abbrev pub is_install : Entry → Bool
is_install (entry.Install hash on namespace parameters grants) = true
is_install e = false

abbrev pub is_state : Entry → Bool
is_state (entry.State bytes) = true
is_state e = false

-- under the keys of Installs are Installs
abbrev pub AreInstalls : Entries → Type 0
AreInstalls m = (id : AccountId) (position : ℕ) (e : Entry) → get m (key.Install id position) ≡ Some e →
    is_install e ≡ true

-- under those of State entries are State entries, and none is below the first key of its account
abbrev pub AreStates : Entries → Type 0
AreStates m = (id : AccountId) (namespace k : Hash256) (e : Entry) → get m (key.State id namespace k) ≡ Some e →
    (is_state e ≡ true) × (is_from (first_state id) (key.State id namespace k) ≡ true)

-- then as many lines of Installs, and of State entries, are an account's as its own line says
abbrev pub CountsHooks : Type 0
CountsHooks = (ledger : LedgerValue) (id : AccountId) → AreInstalls ledger.entries →
    count_by (is_install_of id) (final_lines ledger) ≡ hooks_of ledger.entries id

abbrev pub CountsStates : Type 0
CountsStates = (ledger : LedgerValue) (id : AccountId) → AreStates ledger.entries →
    count_by (is_state_of id) (final_lines ledger) ≡ states_of ledger.entries id

-- 1 for an emission that waits
abbrev pub waiting : Option Entry → ℕ
waiting (Some (entry.Emitted blob hash first last callback)) = 1
waiting other = 0

-- each emission that waits has one line, and no other number has one
abbrev pub QueueTold : Type 0
QueueTold = (ledger : LedgerValue) (number : ℕ) →
    count_by (is_queued number) (final_lines ledger) ≡ waiting (get ledger.entries (key.Emitted number))
