-- The contracts of an engine's parts. This project's own.
use Rattle.std.specs.Prelude.{ℕ, ◌≤◌}
use Rattle.hk_base.specs.declared.ids.AccountId.{AccountId}
use Rattle.hk_base.specs.declared.ids.Hash256.{Hash256}
use Rattle.xo_object.specs.declared.transaction.Transaction.{Transaction}
use Rattle.hk_state.specs.declared.ledger.Header.{Header}
use Rattle.hk_state.specs.Entries.{Entries}
use Rattle.hk_state.specs.Rules.{KeepsSum, KeepsOthers, KeepsAccounts}
use Rattle.hk_draft.specs.Draft.{Draft}
use Rattle.hk_draft.specs.Ends.{ChainFits, CallbackFits}
use Rattle.hk_events.specs.Engine.{Engine}

-- chains, on any draft
abbrev pub KeepsChains : Engine → Type 0
KeepsChains e = (header : Header) (next : ℕ) (before : Entries) (t : Transaction) (account : AccountId) (a : Draft) →
    ChainFits e.reads_emitted header.seq before a (e.chain header next before t account a)

abbrev pub KeepsCallbacks : Engine → Type 0
KeepsCallbacks e = (header : Header) (next : ℕ) (before : Entries) (t : Transaction) (account : AccountId)
    (hash : Hash256) (word : ℕ) (a : Draft) →
    CallbackFits e.reads_emitted header.seq before a (e.callback header next before t account hash word a)

pub record IsLawful (e : Engine) : Type 0 where
  pub chains : KeepsChains e
  pub callbacks : KeepsCallbacks e
  pub sums : KeepsSum e.rules
  pub others : KeepsOthers e.rules
  pub accounts : KeepsAccounts e.rules
  pub fees : (m : Entries) (t : Transaction) → 1 ≤ e.needed_fee m t
