-- The emission that a blob is, as a function.
use Rattle.std.specs.Prelude.{◌≡◌, ◌≢◌, ℕ, ◌+◌, ◌<◌, ◌≤◌, ◌^◌, nat_lt, true, List, length, Option, Some, None, Ok, Err}
use Rattle.std.specs.Prelude.{if◌then◌else◌}
use Rattle.std.specs.Option.{option_and_then}
use Rattle.std.specs.Result.{result_ok}
use Rattle.hk_base.specs.declared.ids.Hash256.{Hash256}
use Rattle.xo_list.specs.Item.{Item}
use Rattle.xo_list.specs.Value.{IsObject}
use Rattle.xo_object.specs.Transaction.{IsTransaction}
use Rattle.hk_reading.specs.Parsing.{fields_of}
use Rattle.hk_reading.specs.Readings.{longest, hook_kind}
use Rattle.hk_reading.specs.Transactions.{transaction_of}
use Rattle.hk_emit.specs.declared.context.EmitContext.{EmitContext}
use Rattle.hk_emit.specs.declared.emission.Emission.{Emission}
use Rattle.hk_emit.specs.declared.fault.EmitFault.TheVariants as faults
use Rattle.hk_emit.specs.Accept.{OrFault, judged, nonce_of}

-- the emission that an object's fields are
abbrev pub accepted_fields : List ℕ → EmitContext → List Hash256 → List Item → Option Emission
accepted_fields blob context nonces fields = result_ok (judged context nonces fields (transaction_of true fields blob))

unfoldable pub accepted : List ℕ → EmitContext → List Hash256 → Option Emission
accepted blob context nonces =
    if nat_lt longest (length blob) then None
    else option_and_then (accepted_fields blob context nonces) (fields_of blob)

-- a call answers the emission where there is one, and a fault where there is none
abbrev pub Accepts : List ℕ → EmitContext → List Hash256 → OrFault Emission → Type 0
Accepts blob context nonces (Ok emission) = accepted blob context nonces ≡ Some emission
Accepts blob context nonces (Err faults.NoMemory) = Unit {0}
Accepts blob context nonces (Err fault) = accepted blob context nonces ≡ None

-- what the ledger may rest on: the blob reads as an emitted transaction of the hook's account, which changes no hooks,
-- with this execution's details, and waits for a window of ledgers above the open one
pub record IsEmission (blob : List ℕ) (context : EmitContext) (nonces : List Hash256) (e : Emission) : Type 0 where
  pub short : length blob ≤ longest
  pub fields : List Item
  pub object : IsObject fields blob
  pub is : IsTransaction fields blob true e.transaction
  pub other : e.transaction.kind ≢ hook_kind
  pub own : e.transaction.account ≡ context.account
  pub nonce : nonce_of context nonces fields ≡ Some e.nonce
  pub first : e.transaction.first ≡ Some e.first
  pub last : e.transaction.last ≡ Some e.last
  pub later : context.seq < e.first
  pub order : e.first ≤ e.last
  pub window : e.last ≤ e.first + 5
  pub few : e.transaction.generation ≤ 10
  pub generation : context.generation < 2 ^ 32 → e.transaction.generation ≡ context.generation
  pub burden : context.burden < 2 ^ 64 → e.transaction.burden ≡ context.burden

abbrev pub AcceptedReads : Type 0
AcceptedReads =
    (blob : List ℕ) (context : EmitContext) (nonces : List Hash256) (e : Emission) →
    accepted blob context nonces ≡ Some e → IsEmission blob context nonces e
