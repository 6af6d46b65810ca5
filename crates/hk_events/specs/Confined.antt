-- Confinement: who may have changed a State entry in an event. It speaks of the ledgers before and after, and of the
-- report alone. This project's own.
use Rattle.std.specs.Prelude.{◌≡◌, ◌≢◌, ℕ, ◌⊎◌, Some}
use Rattle.std.specs.FinMap.{get}
use Rattle.hk_base.specs.declared.ids.AccountId.{AccountId}
use Rattle.hk_base.specs.declared.ids.Hash256.{Hash256}
use Rattle.xo_object.specs.declared.transaction.HookItem.{HookItem}
use Rattle.xo_object.specs.declared.transaction.HookItem.TheVariants.{DeleteNamespace}
use Rattle.xo_object.specs.declared.transaction.Transaction.{Transaction}
use Rattle.hk_lines.specs.declared.result_name.ResultName.TheVariants.{Success}
use Rattle.hk_reading.specs.declared.reading.Reading.{Reading}
use Rattle.hk_reading.specs.declared.reading.Reading.TheVariants as readings
use Rattle.hk_reading.specs.Readings.{hook_kind}
use Rattle.hk_state.specs.declared.key.StateKey.{StateKey}
use Rattle.hk_state.specs.Keys.{as_key}
use Rattle.hk_state.specs.Ledger.{LedgerValue}
use Rattle.hk_draft.specs.Lists.{SomeOf}
use Rattle.hk_draft.specs.Writers.{IsWriter, HookRan, CallbackRan}
use Rattle.hk_events.specs.Events.{Event}

-- the line of a hook that accepted, where the result is success, or of a callback that accepted
abbrev pub HasKept : Event → AccountId → ℕ → Type 0
HasKept event account position =
    ((event.result ≡ Some Success) × HookRan event.lines account position) ⊎ CallbackRan event.lines account position

abbrev pub IsDeletion : Hash256 → HookItem → Type 0
IsDeletion namespace (DeleteNamespace space) = space ≡ namespace
IsDeletion namespace other = ⊥

-- a change of hooks of the owner, with an item that deletes the namespace
abbrev pub DeletesBy : Transaction → StateKey → Type 0
DeletesBy t q = (t.kind ≡ hook_kind) × ((t.account ≡ q.owner) × SomeOf (IsDeletion q.namespace) t.hooks)

-- and it succeeds
abbrev pub Deletes : Reading → Event → StateKey → Type 0
Deletes (readings.Transaction t) event q = (event.result ≡ Some Success) × DeletesBy t q
Deletes other event q = ⊥

-- a State entry that differs was written by a hook that may write it and whose line is kept, by its Install in the
-- ledger before; or its owner deleted its namespace
abbrev pub IsConfined : LedgerValue → Event → (StateKey → Type 0) → Type 0
IsConfined before event Deleted = (q : StateKey) → get event.ledger.entries (as_key q) ≢ get before.entries (as_key q) →
    IsWriter before.entries (HasKept event) q ⊎ Deleted q
