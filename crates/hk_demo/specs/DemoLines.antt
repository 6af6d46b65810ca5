-- The replay that the command `demo` makes (this project's own).
use Rattle.std.specs.Prelude.{ℕ, zero, suc, ◌+◌, ◌*◌, ◌/◌, ◌%◌, ◌==◌, ◌&&◌, nat_lt, if◌then◌else◌, List, [], ◌∷◌, ◌++◌}
use Rattle.std.specs.Prelude.{replicate, codes}
use Rattle.hk_lines.specs.declared.input_line.InputLine.{InputLine}
use Rattle.hk_lines.specs.declared.input_line.InputLine.TheVariants.{Account, Ledger, Tx, End}
use Rattle.hk_lines.specs.declared.verdict.Verdict.TheVariants.{Good}
use Rattle.hk_demo.specs.Codes.{hook_code}
use Rattle.hk_demo.specs.Blobs.{account_of, payment_blob, set_hook_blob}

-- 1,000,000,000,000 drops, and sequence 1
abbrev pub account_line : ℕ → InputLine
account_line k = Account (account_of k) 1000000000000 1

-- so many accounts, from account 0
unfoldable pub accounts : ℕ → List InputLine
accounts zero = []
accounts (suc k) = accounts k ++ account_line k ∷ []

-- time 0, and zeros for the hash of the ledger before
abbrev pub ledger_line : ℕ → InputLine
ledger_line seq = Ledger seq 0 (record { 0 = replicate 32 0 })

-- account k installs the hook that makes the call of a name
abbrev pub set_hook_line : ℕ → List ℕ → InputLine
set_hook_line k name = Tx Good (set_hook_blob k (hook_code name))

-- ten accounts, ledger 1, and the hooks of accounts 0 and 5
unfoldable pub beginning : List InputLine
beginning =
    accounts 10
    ++ ledger_line 1
    ∷ set_hook_line 0 (codes "accept")
    ∷ set_hook_line 5 (codes "rollback")
    ∷ []

abbrev pub sender : ℕ → ℕ
sender i = i % 10

-- the sender's next sequence: its Payments before this one are those of every tenth number, and its SetHook comes
-- before them. Account 0 has its first Payment at 10, and the others have it below
abbrev pub sequence_at : ℕ → ℕ
sequence_at i = i / 10 + (if sender i == 5 then 2 else 1)

-- Payment i, of 1 to 100,000 drops
abbrev pub payment_line : ℕ → InputLine
payment_line i = Tx Good (payment_blob (sequence_at i) (7777 * i % 100000 + 1) (sender i) ((3 * i + 1) % 10))

-- a hundred Payments stand in a ledger
abbrev pub opened_before : ℕ → List InputLine
opened_before i = if nat_lt 1 i && i % 100 == 1 then ledger_line (i / 100 + 1) ∷ [] else []

-- Payments 1 to n, with the lines that open ledgers
unfoldable pub payments : ℕ → List InputLine
payments zero = []
payments (suc i) = payments i ++ opened_before (suc i) ++ payment_line (suc i) ∷ []

abbrev pub demo_lines : ℕ → List InputLine
demo_lines n = beginning ++ payments n ++ End ∷ []
