-- The results that take no fee, in their order, and what fee and sequence make of the entries. This project's own.
use Rattle.std.specs.Prelude.{ℕ, ◌+◌, ◌-◌, Bool, true, false, nat_lt, List, [], ◌∷◌, ◌++◌, Option, Some, None}
use Rattle.xo_object.specs.declared.transaction.Transaction.{Transaction}
use Rattle.hk_base.specs.Rows.{first_row}
use Rattle.hk_lines.specs.declared.verdict.Verdict.{Verdict}
use Rattle.hk_lines.specs.declared.verdict.Verdict.TheVariants.{Good, Bad}
use Rattle.hk_lines.specs.declared.result_name.ResultName.{ResultName}
use Rattle.hk_lines.specs.declared.result_name.ResultName.TheVariants.{BadSignature, NoAccount, PastSequence}
use Rattle.hk_lines.specs.declared.result_name.ResultName.TheVariants.{FutureSequence, Early, Expired, FeeTooSmall}
use Rattle.hk_lines.specs.declared.result_name.ResultName.TheVariants.{FeeUnfunded}
use Rattle.hk_state.specs.declared.entry.Holding.{Holding}
use Rattle.hk_state.specs.Entries.{Entries}
use Rattle.hk_state.specs.Holdings.{holding_at, with_holding}
use Rattle.hk_state.specs.Ledger.{LedgerValue}
use Rattle.hk_events.specs.Engine.{Engine}

-- a transaction was handed in, with a verdict on its signature, or a hook emitted it
pub data Origin : Type 0 where
  handed : Verdict → Origin
  emitted : Origin

abbrev pub is_bad : Verdict → Bool
is_bad Good = false
is_bad Bad = true

-- whether the ledger comes before the first one that takes a transaction, or after the last
abbrev pub is_before : ℕ → Option ℕ → Bool
is_before seq None = false
is_before seq (Some first) = nat_lt seq first

abbrev pub is_after : ℕ → Option ℕ → Bool
is_after seq None = false
is_after seq (Some last) = nat_lt last seq

-- an emission has neither signature nor sequence
abbrev pub signature_rows : Origin → List (Bool × ResultName)
signature_rows (handed verdict) = (is_bad verdict, BadSignature) ∷ []
signature_rows emitted = []

abbrev pub sequence_rows : Origin → Transaction → Holding → List (Bool × ResultName)
sequence_rows (handed verdict) t holding =
    (nat_lt t.sequence holding.sequence, PastSequence) ∷ (nat_lt holding.sequence t.sequence, FutureSequence) ∷ []
sequence_rows emitted t holding = []

-- in the ledger of that sequence number, by the needed fee
abbrev pub window_rows : ℕ → ℕ → Transaction → Holding → List (Bool × ResultName)
window_rows seq needed t holding =
    (is_before seq t.first, Early)
    ∷ (is_after seq t.last, Expired)
    ∷ (nat_lt t.fee needed, FeeTooSmall)
    ∷ (nat_lt holding.balance t.fee, FeeUnfunded)
    ∷ []

abbrev pub account_rows : ℕ → ℕ → Origin → Transaction → Option Holding → List (Bool × ResultName)
account_rows seq needed origin t None = (true, NoAccount) ∷ []
account_rows seq needed origin t (Some holding) = sequence_rows origin t holding ++ window_rows seq needed t holding

abbrev pub refusal_rows : Engine → Entries → LedgerValue → Origin → Transaction → List (Bool × ResultName)
refusal_rows e before ledger origin t =
    signature_rows origin
    ++ account_rows ledger.header.seq (e.needed_fee before t) origin t (holding_at ledger.entries t.account)

-- the first of the results that take no fee and change nothing
abbrev pub refusal : Engine → Entries → LedgerValue → Origin → Transaction → Option ResultName
refusal e before ledger origin t = first_row (refusal_rows e before ledger origin t)

-- an emission leaves the account's sequence
abbrev pub next_sequence : Origin → ℕ → ℕ
next_sequence (handed verdict) sequence = sequence + 1
next_sequence emitted sequence = sequence

-- fee and sequence are taken
abbrev pub paid_from : Entries → Origin → Transaction → Option Holding → Entries
paid_from m origin t None = m
paid_from m origin t (Some holding) =
    with_holding m t.account (holding.balance - t.fee) (next_sequence origin holding.sequence)

abbrev pub paid : Entries → Origin → Transaction → Entries
paid m origin t = paid_from m origin t (holding_at m t.account)
