-- The rules for Payment, AccountSet and Invoke. Types and fields are the XRPL's; the results, their order, and the
-- reserve are this project's own.
use Rattle.std.specs.Prelude.{ℕ, ◌+◌, ◌-◌, Bool, true, false, ◌&&◌, ◌||◌, ◌==◌, if◌then◌else◌, nat_lt, List, [], ◌∷◌}
use Rattle.std.specs.Prelude.{Option, Some, None, is_none}
use Rattle.std.specs.Str.{bytes_eq}
use Rattle.hk_base.specs.declared.ids.AccountId.{AccountId}
use Rattle.xo_fields.specs.declared.amount.Amount.{Amount}
use Rattle.xo_fields.specs.declared.amount.Amount.TheVariants.{Native, Issued}
use Rattle.xo_object.specs.declared.transaction.Transaction.{Transaction}
use Rattle.hk_lines.specs.declared.result_name.ResultName.{ResultName}
use Rattle.hk_lines.specs.declared.result_name.ResultName.TheVariants.{Unsupported, Redundant, NoDestination, Unfunded}
use Rattle.hk_state.specs.declared.ledger.Header.{Header}
use Rattle.hk_state.specs.declared.entry.Holding.{Holding}
use Rattle.hk_state.specs.Entries.{Entries}
use Rattle.hk_state.specs.Holdings.{holding_at, with_holding}
use Rattle.hk_base.specs.Rows.{first_row}
use Rattle.hk_state.specs.Reserves.{base_reserve, reserve}
use Rattle.hk_state.specs.Rules.{Rules, Effect, keeps, fails}

-- the type of a Payment
abbrev pub payment_kind : ℕ
payment_kind = 0

abbrev pub is_issued : Amount → Bool
is_issued (Native drops) = false
is_issued (Issued value currency issuer) = true

abbrev pub drops_of : Amount → ℕ
drops_of (Native drops) = drops
drops_of (Issued value currency issuer) = 0

-- the results of a Payment that keep fee and sequence alone, by the reserve of its sender
abbrev pub payment_rows : Transaction → AccountId → Amount → Holding → ℕ → Option Holding → List (Bool × ResultName)
payment_rows t to amount sender kept receiver =
    (t.other_amounts || is_issued amount, Unsupported)
    ∷ (bytes_eq to.0 t.account.0, Redundant)
    ∷ (is_none receiver && nat_lt (drops_of amount) base_reserve, NoDestination)
    ∷ (nat_lt sender.balance (drops_of amount + kept), Unfunded)
    ∷ []

-- drops come to an account, which is opened with the ledger's sequence where there is none
abbrev pub received : ℕ → ℕ → Option Holding → Holding
received drops seq None = record { balance = drops; sequence = seq }
received drops seq (Some receiver) = record { balance = receiver.balance + drops; sequence = receiver.sequence }

abbrev pub credited : Header → Entries → AccountId → ℕ → Option Holding → Entries
credited header m to drops receiver =
    with_holding m to (received drops header.seq receiver).balance (received drops header.seq receiver).sequence

abbrev pub debited : Entries → AccountId → ℕ → Holding → Entries
debited m from drops sender = with_holding m from (sender.balance - drops) sender.sequence

abbrev pub unless : Option ResultName → Entries → Effect
unless None m = keeps m
unless (Some name) m = fails name

-- a Payment has an amount and a destination, and its sender has an account
abbrev pub payment : Header → Entries → Transaction → Option AccountId → Option Amount → Option Holding → Effect
payment header m t (Some to) (Some amount) (Some sender) =
    unless (first_row (payment_rows t to amount sender (reserve m t.account) (holding_at m to)))
    (credited header (debited m t.account (drops_of amount) sender) to (drops_of amount) (holding_at m to))
payment header m t to amount sender = keeps m

-- AccountSet and Invoke have no effect of their own
abbrev pub native : Rules
native header m t =
    if t.kind == payment_kind then payment header m t t.destination t.amount (holding_at m t.account) else keeps m
