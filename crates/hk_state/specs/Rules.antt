-- What the rules for transactions of a type do, and the laws that they keep. This project's own.
use Rattle.std.specs.Prelude.{◌≡◌, ◌≢◌, Bool, true, false, List, Option, Some, None, IsSome}
use Rattle.std.specs.List.{filter_map}
use Rattle.std.specs.FinMap.{get}
use Rattle.hk_base.specs.declared.ids.AccountId.{AccountId}
use Rattle.xo_list.specs.Item.{Item}
use Rattle.xo_list.specs.Value.{IsObject}
use Rattle.xo_object.specs.declared.transaction.Transaction.{Transaction}
use Rattle.xo_object.specs.Transaction.{IsTransaction}
use Rattle.hk_lines.specs.declared.result_name.ResultName.{ResultName}
use Rattle.hk_lines.specs.declared.result_name.ResultName.TheVariants.{Unsupported, Redundant, NoDestination, Unfunded}
use Rattle.hk_lines.specs.declared.result_name.ResultName.TheVariants.{Occupied, HookRefused, NoDefinition, NoInstall}
use Rattle.hk_lines.specs.declared.result_name.ResultName.TheVariants.{Reserve}
use Rattle.hk_state.specs.declared.key.Key.{Key}
use Rattle.hk_state.specs.declared.key.Key.TheVariants as key
use Rattle.hk_state.specs.declared.key.StateKey.{StateKey}
use Rattle.hk_state.specs.declared.ledger.Header.{Header}
use Rattle.hk_state.specs.declared.transactor.Done.{Done}
use Rattle.hk_state.specs.declared.transactor.Done.TheVariants.{Kept, Failed}
use Rattle.hk_state.specs.Entries.{Entries}
use Rattle.hk_state.specs.Writes.{Writes, with_writes}
use Rattle.hk_state.specs.Holdings.{holding_at}
use Rattle.hk_state.specs.Balances.{balances}
use Rattle.hk_state.specs.Firing.{hook_kind}
use Rattle.hk_state.specs.Reserves.{may_change}

-- a transaction is what its bytes read as, as it is sent or as a hook emits it, and is no change of hooks
pub record IsOfItsBytes (t : Transaction) : Type 0 where
  pub emitted : Bool
  pub fields : List Item
  pub object : IsObject fields t.blob
  pub is : IsTransaction fields t.blob emitted t
  pub kind : t.kind ≢ hook_kind

-- the entries that a transaction leaves, or why it fails
pub data Effect : Type 0 where
  keeps : Entries → Effect
  fails : ResultName → Effect

-- from the header, and from the entries once fee and sequence are taken
abbrev pub Rules : Type 0
Rules = Header → Entries → Transaction → Effect

abbrev pub as_state_key : Key → Option StateKey
as_state_key (key.State owner namespace k) = Some (record { owner = owner; namespace = namespace; key = k })
as_state_key other = None

-- the State keys of a list, in order
abbrev pub state_keys : List Key → List StateKey
state_keys keys = filter_map as_state_key keys

-- writes that make these entries, and that list the same State keys as those before
pub record Keeps (base : Entries) (old new : Writes) (m : Entries) : Type 0 where
  pub entries : with_writes base new ≡ m
  pub states : state_keys new.listed ≡ state_keys old.listed

-- the effect of an answer: what its writes make of the entries, or the same failure
abbrev pub Means : Entries → Writes → Done → Effect → Type 0
Means base old (Kept new) (keeps m) = Keeps base old new m
Means base old (Failed name) (fails other) = name ≡ other
Means base old done effect = ⊥

-- no drop comes or goes
abbrev pub KeepsSum : Rules → Type 0
KeepsSum rules =
    (header : Header) (m n : Entries) (t : Transaction) → rules header m t ≡ keeps n → balances n ≡ balances m

-- accounts and other entries alone change
abbrev pub KeepsOthers : Rules → Type 0
KeepsOthers rules = (header : Header) (m n : Entries) (t : Transaction) (q : Key) →
    rules header m t ≡ keeps n → may_change q ≡ false → get n q ≡ get m q

-- no account goes
abbrev pub KeepsAccounts : Rules → Type 0
KeepsAccounts rules = (header : Header) (m n : Entries) (t : Transaction) (id : AccountId) →
    rules header m t ≡ keeps n → IsSome (holding_at m id) → IsSome (holding_at n id)

-- the failures of a transaction itself
abbrev pub is_failure : ResultName → Bool
is_failure Unsupported = true
is_failure Redundant = true
is_failure NoDestination = true
is_failure Unfunded = true
is_failure Occupied = true
is_failure HookRefused = true
is_failure NoDefinition = true
is_failure NoInstall = true
is_failure Reserve = true
is_failure other = false

abbrev pub NamesFailures : Rules → Type 0
NamesFailures rules =
    (header : Header) (m : Entries) (t : Transaction) (name : ResultName) → rules header m t ≡ fails name →
    is_failure name ≡ true
