-- Sums of drops that fit.
use Rattle.std.proofs.Common.{◌≡◌, ℕ, ◌+◌, ◌<◌, ◌≤◌, ◌^◌, sym, arith, Option, Some, None, MatchOption}
use Rattle.hk_base.specs.declared.ids.AccountId.{AccountId}
use Rattle.xo_fields.specs.declared.amount.Amount.{Amount}
use Rattle.xo_object.specs.declared.transaction.Transaction.{Transaction}
use Rattle.hk_state.specs.declared.entry.Holding.{Holding}
use Rattle.hk_state.specs.Entries.{Entries}
use Rattle.hk_state.specs.Holdings.{holding_at}
use Rattle.hk_state.specs.Balances.{balances, held_most}
use Rattle.hk_base.specs.Rows.{first_row}
use Rattle.hk_state.specs.Native.{payment_rows, drops_of}
use Rattle.hk_state.specs.NativeLaws.{payable}

-- what comes to an account fits, where all balances together are few enough
pub receiver_fits : (m : Entries) (t : Transaction) (to : AccountId) (amount : Amount) (sender : Holding) (kept : ℕ)
    (receiver : Option Holding) →
    holding_at m t.account ≡ Some sender → receiver ≡ holding_at m to → balances m ≤ 100000000000000000 →
    first_row (payment_rows t to amount sender kept receiver) ≡ None →
    MatchOption receiver (Unit {0}) (λ holding. holding.balance + drops_of amount < 2 ^ 64)
receiver_fits m t to amount sender kept None at is sum none = tt
receiver_fits m t to amount sender kept (Some receiver) at is sum none =
    let funded = (payable t to amount sender kept (Some receiver) none).funded in
    let sent = held_most m t.account sender at in
    let received = held_most m to receiver (sym is) in
    omega (arith, funded, sent, received)
