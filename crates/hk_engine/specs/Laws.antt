-- What the engine keeps, and what its ledgers keep of what its chains need. This project's own.
use Rattle.std.specs.Prelude.{ℕ, ◌<◌, ◌≤◌, ◌^◌, Bool, List, length}
use Rattle.xo_list.specs.Item.{Item}
use Rattle.xo_list.specs.Value.{IsObject}
use Rattle.xo_object.specs.declared.transaction.Transaction.{Transaction}
use Rattle.xo_object.specs.Transaction.{IsTransaction}
use Rattle.hk_reading.specs.Readings.{longest}
use Rattle.hk_state.specs.Entries.{Entries}
use Rattle.hk_state.specs.Fees.{needed_fee}
use Rattle.hk_state.specs.Rules.{Rules, KeepsSum, KeepsOthers, KeepsAccounts}
use Rattle.hk_api.specs.Fits.{FeesFit}
use Rattle.hk_api.specs.HostState.{HostState}
use Rattle.hk_chain.specs.Calls.{hook_answers}
use Rattle.hk_chain.specs.Programs.{AreStored}
use Rattle.hk_events.specs.Complete.{IsCareful, IsComplete}
use Rattle.hk_events.specs.Lawful.{IsLawful}
use Rattle.hk_events.specs.Limits.{IsMeasured}
use Rattle.hk_items.specs.Checks.{checked_in}
use Rattle.hk_engine.specs.Engine.{engine_of}
use Rattle.hk_engine.specs.Kept.{CallKeeps}

-- by rules with the laws of rules, its parts keep their contracts
abbrev pub EnginesLawful : Type 0
EnginesLawful = (rules : Rules) → KeepsSum rules → KeepsOthers rules → KeepsAccounts rules → IsLawful (engine_of rules)

-- by any rules, its parts keep what a complete ledger asks of them
abbrev pub EnginesCareful : Type 0
EnginesCareful = (rules : Rules) → IsCareful (engine_of rules)

-- and what the limits of ledgers ask
abbrev pub EnginesMeasured : Type 0
EnginesMeasured = (rules : Rules) → IsMeasured (engine_of rules)

-- whatever a hook calls keeps the limits
abbrev pub CallsKeep : Type 0
CallsKeep = (h : HostState) (row : ℕ) (arguments memory : List ℕ) →
    CallKeeps h (hook_answers h row arguments memory).after

-- a complete ledger stores the bounds that runs go by
abbrev pub CompleteStores : Type 0
CompleteStores = (m : Entries) → IsComplete checked_in m → AreStored m

-- and its fees are small
abbrev pub StoredFees : Type 0
StoredFees = (m : Entries) → AreStored m → FeesFit m

-- so is the fee that a transaction of bytes needs
abbrev pub NeededFees : Type 0
NeededFees = (m : Entries) (fields : List Item) (emitted : Bool) (t : Transaction) → AreStored m →
    IsObject fields t.blob → IsTransaction fields t.blob emitted t → length t.blob ≤ longest → needed_fee m t < 2 ^ 63
