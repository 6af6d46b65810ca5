-- What the answer to a transaction says by the definitions. This project's own.
use Rattle.std.specs.Prelude.{◌≡◌, Bool, false}
use Rattle.hk_base.specs.declared.ids.AccountId.{AccountId}
use Rattle.xo_object.specs.declared.transaction.Transaction.{Transaction}
use Rattle.hk_reading.specs.declared.reading.Reading.TheVariants as reading
use Rattle.hk_state.specs.Entries.{Entries}
use Rattle.hk_state.specs.Ledger.{LedgerValue}
use Rattle.hk_state.specs.Rules.{Rules}
use Rattle.hk_draft.specs.Draft.{Draft}
use Rattle.hk_draft.specs.Drafted.{draft_of}
use Rattle.hk_draft.specs.Ends.{ChainEnd}
use Rattle.hk_api_parts.specs.declared.setting.Setting.{Setting}
use Rattle.hk_chain.specs.Chain.{chain_of}
use Rattle.hk_events.specs.Results as results
use Rattle.hk_events.specs.Performed.{Performed, transaction}
use Rattle.hk_events.specs.Settled.{without}
use Rattle.hk_engine.specs.Engine.{engine_of}
use Rattle.hk_perform.specs.declared.origin.Origin.{Origin}
use Rattle.hk_perform.specs.declared.origin.Origin.TheVariants.{Handed, Queued}
use Rattle.hk_perform.specs.declared.performed.Performed as declared

abbrev pub origin_of : Origin → results.Origin
origin_of (Handed verdict) = results.handed verdict
origin_of (Queued number) = results.emitted

-- one that was handed in, with a wrong signature
abbrev pub has_bad_signature : Origin → Bool
has_bad_signature (Handed verdict) = results.is_bad verdict
has_bad_signature (Queued number) = false

-- the ledger as the transaction finds it: an emission has left the queue
abbrev pub found_by : LedgerValue → Origin → LedgerValue
found_by ledger (Handed verdict) = ledger
found_by ledger (Queued number) = without ledger number

-- the chain of an account, over the ledger that the event began with
abbrev pub chain_by : LedgerValue → Setting → AccountId → Draft → ChainEnd
chain_by ledger setting account d = chain_of setting ledger.next ledger.entries account d

-- a transaction by these rules, on a ledger that the event began with
abbrev pub transaction_by : Rules → LedgerValue → Origin → Transaction → Performed
transaction_by rules ledger origin t =
    transaction (engine_of rules) ledger.entries (found_by ledger origin) (origin_of origin) (reading.Transaction t)

-- an answer is what the transaction comes to: its overlay and its emissions make the draft
pub record IsPerformed (m : Entries) (p : Performed) (answer : declared.Performed) : Type 0 where
  pub result : answer.result ≡ p.result
  pub fee : answer.fee ≡ p.fee
  pub draft : draft_of m answer.overlay answer.emissions ≡ p.draft
  pub records : answer.records ≡ p.records
