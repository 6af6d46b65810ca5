-- What a payment's writes make of the entries.
use Rattle.std.proofs.Common.{◌≡◌, ◌∙◌, ℕ, ◌-◌, ap, sym, subst, Some, None}
use Rattle.hk_base.specs.declared.ids.AccountId.{AccountId}
use Rattle.xo_fields.specs.declared.amount.Amount.{Amount}
use Rattle.xo_object.specs.declared.transaction.Transaction.{Transaction}
use Rattle.hk_state.specs.declared.key.Key.TheVariants as key
use Rattle.hk_state.specs.declared.entry.Entry.TheVariants as entry
use Rattle.hk_state.specs.declared.entry.Holding.{Holding}
use Rattle.hk_state.specs.declared.ledger.Header.{Header}
use Rattle.hk_state.specs.declared.transactor.Done.TheVariants.{Kept}
use Rattle.hk_state.specs.Entries.{Entries}
use Rattle.hk_state.specs.Holdings.{holding_at, with_holding}
use Rattle.hk_state.specs.Native.{payment, payment_rows, unless, credited, debited, received, drops_of}
use Rattle.hk_state.specs.Reserves.{reserve}
use Rattle.hk_base.specs.Rows.{first_row}
use Rattle.hk_state.specs.Rules.{Means, state_keys}
use Rattle.hk_state.specs.Writes.{Writes, with_writes, written}
use Rattle.hk_state.proofs.Listed.{account_noted}

-- writes that set an account's balance and sequence, and list its key
pub record Puts (old new : Writes) (id : AccountId) (balance sequence : ℕ) : Type 0 where
  pub written : new ≡ written old (key.Account id) (Some (entry.Account balance sequence))
  pub made : (m : Entries) → with_writes m new ≡ with_holding (with_writes m old) id balance sequence

pub paid : (base : Entries) (header : Header) (old between new : Writes) (t : Transaction) (to : AccountId)
    (amount : Amount) (sender got : Holding) (drops : ℕ) →
    first_row
    (payment_rows t to amount sender (reserve (with_writes base old) t.account) (holding_at (with_writes base old) to))
    ≡ None →
    drops ≡ drops_of amount → got ≡ received (drops_of amount) header.seq (holding_at (with_writes base old) to) →
    Puts old between t.account (sender.balance - drops) sender.sequence → Puts between new to got.balance got.sequence →
    Means base old (Kept new) (payment header (with_writes base old) t (Some to) (Some amount) (Some sender))
paid base header old between new t to amount sender got drops none same gets debit credit =
    let m = with_writes base old in
    let left = λ (d : ℕ). with_holding m t.account (sender.balance - d) sender.sequence in
    subst (λ found.
    Means base old (Kept new) (unless found
    (credited header (debited m t.account (drops_of amount) sender) to (drops_of amount) (holding_at m to)))) (sym none)
    (record {
      entries =
          credit.made base
          ∙ (λ i. with_holding ((debit.made base ∙ ap left same) i) to (gets i).balance (gets i).sequence);
      states =
          ap (λ w. state_keys w.listed) credit.written
          ∙ account_noted between.listed to
          ∙ ap (λ w. state_keys w.listed) debit.written
          ∙ account_noted old.listed t.account;
    })
