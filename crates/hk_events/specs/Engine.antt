-- What the events of a ledger rest on, as one parameter. This project's own.
use Rattle.std.specs.Prelude.{ℕ, List, Option}
use Rattle.hk_base.specs.declared.ids.AccountId.{AccountId}
use Rattle.hk_base.specs.declared.ids.Hash256.{Hash256}
use Rattle.xo_object.specs.declared.transaction.Transaction.{Transaction}
use Rattle.hk_reading.specs.declared.reading.Reading.{Reading}
use Rattle.hk_state.specs.declared.ledger.Header.{Header}
use Rattle.hk_state.specs.Entries.{Entries}
use Rattle.hk_state.specs.Rules.{Rules}
use Rattle.hk_draft.specs.Draft.{Draft}
use Rattle.hk_draft.specs.Ends.{ChainEnd}

-- what the check of a code finds in it: its hash, and the bounds of its exports
pub record Checked : Type 0 where
  pub hash : Hash256
  pub bound_hook : ℕ
  pub bound_cbak : Option ℕ

-- Chains and callbacks take the open ledger's header, the number of the next emission, the entries as the event began,
-- and what the event has written so far.
pub record Engine : Type 0 where
  -- what the bytes of a transaction are, as it is sent and as a hook emits it
  pub reads : List ℕ → Reading
  pub reads_emitted : List ℕ → Reading
  -- in drops
  pub needed_fee : Entries → Transaction → ℕ
  pub reserve : Entries → AccountId → ℕ
  -- a code in a version, where it is accepted
  pub checks : ℕ → List ℕ → Option Checked
  pub rules : Rules
  -- the hooks of an account
  pub chain : Header → ℕ → Entries → Transaction → AccountId → Draft → ChainEnd
  -- the `cbak` of the hook of a hash on an account, with an argument
  pub callback : Header → ℕ → Entries → Transaction → AccountId → Hash256 → ℕ → Draft → ChainEnd
