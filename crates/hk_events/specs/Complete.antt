-- What a ledger keeps of its hooks and their state. This project's own.
use Rattle.std.specs.Prelude.{◌≡◌, ℕ, ◌<◌, ◌≤◌, Bool, List, [], length, Option, Some, None, IsSome}
use Rattle.std.specs.FinMap.{get}
use Rattle.hk_base.specs.declared.ids.AccountId.{AccountId}
use Rattle.hk_base.specs.declared.ids.Hash256.{Hash256}
use Rattle.xo_object.specs.declared.transaction.Grant.{Grant}
use Rattle.xo_object.specs.declared.transaction.HookItem.{HookItem}
use Rattle.xo_object.specs.declared.transaction.HookItem.TheVariants as item
use Rattle.xo_object.specs.declared.transaction.Parameter.{Parameter}
use Rattle.xo_object.specs.declared.transaction.Transaction.{Transaction}
use Rattle.xo_object.specs.Transaction.{AllDiffer, IsTransaction}
use Rattle.xo_list.specs.Item.{Item}
use Rattle.hk_reading.specs.declared.reading.Reading.{Reading}
use Rattle.hk_reading.specs.declared.reading.Reading.TheVariants as readings
use Rattle.hk_state.specs.declared.entry.Entry.{Entry}
use Rattle.hk_state.specs.declared.entry.Entry.TheVariants as entry
use Rattle.hk_state.specs.declared.key.Key.TheVariants as key
use Rattle.hk_state.specs.declared.key.StateKey.{StateKey}
use Rattle.hk_state.specs.declared.ledger.Header.{Header}
use Rattle.hk_state.specs.Keys.{as_key}
use Rattle.hk_state.specs.Entries.{Entries}
use Rattle.hk_state.specs.Fees.{positions}
use Rattle.hk_state.specs.Holdings.{holding_at}
use Rattle.hk_draft.specs.Lists.{Each}
use Rattle.hk_draft.specs.Draft.{Draft}
use Rattle.hk_draft.specs.Ends.{ChainEnd, kept, rejected}
use Rattle.hk_events.specs.Engine.{Engine, Checked}

-- accepted in its version, with the hash under which it stands and the bounds that it has
abbrev pub IsDefinition : (ℕ → List ℕ → Option Checked) → Hash256 → Entry → Type 0
IsDefinition checks hash (entry.Definition code version bound_hook bound_cbak) =
    (version ≤ 1)
    × (checks version code ≡ Some (record { hash = hash; bound_hook = bound_hook; bound_cbak = bound_cbak }))
IsDefinition checks hash other = ⊥

-- a name of 1 to 32 bytes, and a value of at most 256
pub record ParameterFits (p : Parameter) : Type 0 where
  pub some : 1 ≤ length p.name
  pub name : length p.name ≤ 32
  pub value : length p.value ≤ 256

-- at most 16 parameters, of different names
pub record ParametersFit (parameters : List Parameter) : Type 0 where
  pub few : length parameters ≤ 16
  pub each : Each ParameterFits parameters
  pub differ : AllDiffer [] parameters

-- at most 16 grants
abbrev pub GrantsFit : List Grant → Type 0
GrantsFit grants = length grants ≤ 16

-- at one of ten positions of an account, with a Definition that is there
pub record Installs (m : Entries) (owner : AccountId) (position : ℕ) (hash : Hash256) (parameters : List Parameter)
    (grants : List Grant) : Type 0 where
  pub low : position < positions
  pub known : IsSome (get m (key.Definition hash))
  pub owned : IsSome (holding_at m owner)
  pub values : ParametersFit parameters
  pub leave : GrantsFit grants

abbrev pub IsInstall : Entries → AccountId → ℕ → Entry → Type 0
IsInstall m owner position (entry.Install hash on namespace parameters grants) =
    Installs m owner position hash parameters grants
IsInstall m owner position other = ⊥

-- the most bytes of a State entry
abbrev pub most_bytes : ℕ
most_bytes = 2048

-- a State entry of 1 to so many bytes
abbrev pub IsSized : Entry → Type 0
IsSized (entry.State bytes) = (1 ≤ length bytes) × (length bytes ≤ most_bytes)
IsSized other = ⊥

-- of an account that is there
abbrev pub IsState : Entries → AccountId → Entry → Type 0
IsState m owner x = IsSized x × IsSome (holding_at m owner)

pub record IsComplete (checks : ℕ → List ℕ → Option Checked) (m : Entries) : Type 0 where
  pub definitions : (hash : Hash256) (x : Entry) → get m (key.Definition hash) ≡ Some x → IsDefinition checks hash x
  pub installs : (owner : AccountId) (position : ℕ) (x : Entry) → get m (key.Install owner position) ≡ Some x →
      IsInstall m owner position x
  pub states : (q : StateKey) (x : Entry) → get m (as_key q) ≡ Some x → IsState m q.owner x

-- an item of a change of hooks says no more than an Install may have
abbrev pub IfGiven : {X : Type 0} → (X → Type 0) → Option X → Type 0
IfGiven P None = Unit {0}
IfGiven P (Some x) = P x

abbrev pub ItemFits : HookItem → Type 0
ItemFits (item.Create code version on namespace parameters grants replace) =
    (version ≤ 1) × (ParametersFit parameters × GrantsFit grants)
ItemFits (item.Install hash on namespace parameters grants replace) = ParametersFit parameters × GrantsFit grants
ItemFits (item.Update on namespace parameters grants) = IfGiven ParametersFit parameters × IfGiven GrantsFit grants
ItemFits other = Unit {0}

-- one for each position at most
abbrev pub ItemsFit : Reading → Type 0
ItemsFit (readings.Transaction t) = (length t.hooks ≤ positions) × Each ItemFits t.hooks
ItemsFit other = Unit {0}

-- State entries that are sized stay so
abbrev pub AreSized : Entries → Type 0
AreSized m = (q : StateKey) (x : Entry) → get m (as_key q) ≡ Some x → IsSized x

abbrev pub SizesFit : Draft → ChainEnd → Type 0
SizesFit a (kept b records) = AreSized a.entries → AreSized b.entries
SizesFit a (rejected records) = Unit {0}

-- what else an engine's parts keep
pub record IsCareful (e : Engine) : Type 0 where
  pub reads : (blob : List ℕ) → ItemsFit (e.reads blob)
  pub reads_emitted : (blob : List ℕ) → ItemsFit (e.reads_emitted blob)
  pub chains : (header : Header) (next : ℕ) (before : Entries) (t : Transaction) (account : AccountId) (a : Draft) →
      SizesFit a (e.chain header next before t account a)
  pub callbacks : (header : Header) (next : ℕ) (before : Entries) (t : Transaction) (account : AccountId)
      (hash : Hash256) (word : ℕ) (a : Draft) →
      SizesFit a (e.callback header next before t account hash word a)

-- what the fields of a transaction are says no more
abbrev pub TransactionsFit : Type 0
TransactionsFit = (fields : List Item) (bytes : List ℕ) (sent_by_hook : Bool) (t : Transaction) →
    IsTransaction fields bytes sent_by_hook t → ItemsFit (readings.Transaction t)
