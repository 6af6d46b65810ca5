-- What a hook that is run alone runs on: a ledger of one account, on which it is installed at position 0, and an Invoke
-- of that account. This project's own.
use Rattle.std.specs.Prelude.{ℕ, List, [], ◌∷◌, ◌++◌, replicate, Option, Some, None, is_some, true, false}
use Rattle.std.specs.FinMap.{insert, empty}
use Rattle.hk_base.specs.declared.ids.AccountId.{AccountId}
use Rattle.hk_base.specs.declared.ids.Hash256.{Hash256}
use Rattle.hk_base.specs.Hashes.{tx_id}
use Rattle.xo_object.specs.declared.transaction.Transaction.{Transaction}
use Rattle.hk_bound.specs.Checks.{Held}
use Rattle.hk_state.specs.declared.entry.Entry.{Entry}
use Rattle.hk_state.specs.declared.entry.Entry.TheVariants as entry
use Rattle.hk_state.specs.declared.key.Key.TheVariants as key
use Rattle.hk_state.specs.Entries.{Entries}
use Rattle.hk_state.specs.Ledger.{LedgerValue}
use Rattle.hk_draft.specs.Draft.{draft_on}
use Rattle.hk_api_parts.specs.declared.setting.Setting.{Setting}
use Rattle.hk_api_parts.specs.declared.place.Place.{Place}
use Rattle.hk_api_parts.specs.declared.chain_state.ChainState.{ChainState}
use Rattle.hk_api.specs.HostState.{HostState, begun}

abbrev pub zeros : Hash256
zeros = record { 0 = replicate 32 0 }

-- 19 bytes of zeros, and 01
unfoldable pub account : AccountId
account = record { 0 = replicate 19 0 ++ 1 ∷ [] }

-- TransactionType 99, Sequence 1, a Fee of 10 drops, an empty SigningPubKey, and the Account
abbrev pub invoke_bytes : List ℕ
invoke_bytes =
    0x12 ∷ 0x00 ∷ 0x63 ∷ 0x24 ∷ 0x00 ∷ 0x00 ∷ 0x00 ∷ 0x01 ∷
    0x68 ∷ 0x40 ∷ 0x00 ∷ 0x00 ∷ 0x00 ∷ 0x00 ∷ 0x00 ∷ 0x00 ∷ 0x0A ∷ 0x73 ∷ 0x00 ∷ 0x81 ∷ 0x14 ∷
    replicate 19 0 ++ 1 ∷ []

-- an Invoke of the account with these bytes
abbrev pub invoke_of : List ℕ → Transaction
invoke_of bytes = record {
  kind = 99;
  account = account;
  destination = None;
  sequence = 1;
  fee = 10;
  first = None;
  last = None;
  amount = None;
  parameters = [];
  hooks = [];
  other_amounts = false;
  generation = 0;
  burden = 1;
  blob = bytes;
  id = tx_id bytes;
}

unfoldable pub blob : List ℕ
blob = invoke_bytes

-- what these bytes read as
unfoldable pub invoke : Transaction
invoke = invoke_of invoke_bytes

abbrev pub setting : Setting
setting = record { transaction = invoke; header = record { seq = 1; time = 0; last_hash = zeros } }

-- an account of 100,000,000,000 drops, the hook of a hash that is installed there, and its Definition
abbrev pub with_hook : AccountId → Hash256 → Entry → Entries
with_hook owner hash definition =
    insert (insert (insert empty
    (key.Account owner) (entry.Account 100000000000 2))
    (key.Install owner 0) (entry.Install hash zeros zeros [] []))
    (key.Definition hash) definition

unfoldable pub entries : List ℕ → ℕ → Hash256 → ℕ → Option ℕ → Entries
entries code version hash bound_hook bound_cbak =
    with_hook account hash (entry.Definition code version bound_hook bound_cbak)

abbrev pub entries_of : List ℕ → Held → Entries
entries_of code held = entries code held.version held.hash held.bound_hook held.bound_cbak

abbrev pub ledger : List ℕ → Held → LedgerValue
ledger code held = record { entries = entries_of code held; header = setting.header; next = 1; burnt = 0 }

abbrev pub place : Held → Place
place held = record {
  account = account;
  position = 0;
  hash = held.hash;
  namespace = zeros;
  callback = false;
  has_cbak = is_some held.bound_cbak;
  version = held.version;
}

-- the host as a run begins: nothing was written, and no hook ran before
unfoldable pub first_host : Setting → Place → LedgerValue → HostState
first_host setting place ledger =
    begun setting place ledger (draft_on ledger.entries) (record { skipped = []; overrides = [] })

abbrev pub host : List ℕ → Held → HostState
host code held = first_host setting (place held) (ledger code held)
