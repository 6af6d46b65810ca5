-- The items of a change of hooks, SetHook: the item at place k is about the hook at position k. This project's own.
use Rattle.std.specs.Prelude.{ℕ, ◌+◌, ◌&&◌, Bool, false, not, nat_lt, if◌then◌else◌, List, [], ◌∷◌, replicate, Option}
use Rattle.std.specs.Prelude.{Some, None, is_some, unwrap_or}
use Rattle.std.specs.List.{filter_map}
use Rattle.std.specs.Str.{bytes_eq}
use Rattle.std.specs.FinMap.{get, insert, remove, entries}
use Rattle.hk_base.specs.declared.ids.AccountId.{AccountId}
use Rattle.hk_base.specs.declared.ids.Hash256.{Hash256}
use Rattle.xo_object.specs.declared.transaction.Grant.{Grant}
use Rattle.xo_object.specs.declared.transaction.HookItem.{HookItem}
use Rattle.xo_object.specs.declared.transaction.HookItem.TheVariants as item
use Rattle.xo_object.specs.declared.transaction.Parameter.{Parameter}
use Rattle.hk_lines.specs.declared.result_name.ResultName.{ResultName}
use Rattle.hk_lines.specs.declared.result_name.ResultName.TheVariants.{Occupied, HookRefused, NoDefinition, NoInstall}
use Rattle.hk_lines.specs.declared.result_name.ResultName.TheVariants.{Reserve}
use Rattle.hk_state.specs.declared.entry.Entry.{Entry}
use Rattle.hk_state.specs.declared.entry.Entry.TheVariants as entry
use Rattle.hk_state.specs.declared.entry.Holding.{Holding}
use Rattle.hk_state.specs.declared.key.Key.{Key}
use Rattle.hk_state.specs.declared.key.Key.TheVariants as key
use Rattle.hk_state.specs.declared.key.StateKey.{StateKey}
use Rattle.hk_state.specs.Entries.{Entries}
use Rattle.hk_state.specs.Holdings.{holding_at}
use Rattle.hk_state.specs.Reserves.{is_own}
use Rattle.hk_state.specs.Rules.{as_state_key}
use Rattle.hk_draft.specs.Draft.{Draft, erased}
use Rattle.hk_events.specs.Engine.{Engine, Checked}

-- what items leave, or the result of the first that fails
pub data ItemEnd : Type 0 where
  leaves : Draft → ItemEnd
  stops : ResultName → ItemEnd

-- an entry that isn't State, put or removed: it isn't listed
abbrev pub put_entry : Key → Entry → Draft → Draft
put_entry k x d = record { entries = insert d.entries k x; written = d.written; emissions = d.emissions }

abbrev pub put_install : AccountId → ℕ → Entry → Draft → Draft
put_install owner position x d = put_entry (key.Install owner position) x d

abbrev pub cut_entry : Key → Draft → Draft
cut_entry k d = record { entries = remove d.entries k; written = d.written; emissions = d.emissions }

-- the least key of an account's state in a namespace
abbrev pub first_in : AccountId → Hash256 → Key
first_in owner namespace = key.State owner namespace (record { 0 = replicate 32 0 })

abbrev pub is_in : AccountId → Hash256 → Key → Bool
is_in owner namespace (key.State id space k) =
    is_own (first_in owner namespace) (key.State id space k) && bytes_eq space.0 namespace.0
is_in owner namespace other = false

abbrev pub key_in : AccountId → Hash256 → Key → Option StateKey
key_in owner namespace k = if is_in owner namespace k then as_state_key k else None

-- the State keys of an account in a namespace, in order
abbrev pub keys_in : AccountId → Hash256 → Entries → List StateKey
keys_in owner namespace m = filter_map (λ e. key_in owner namespace e.0) (entries m)

abbrev pub all_erased : List StateKey → Draft → Draft
all_erased [] d = d
all_erased (q ∷ qs) d = all_erased qs (erased q d)

-- a namespace without its entries
abbrev pub emptied : AccountId → Hash256 → Draft → Draft
emptied owner namespace d = all_erased (keys_in owner namespace d.entries) d

abbrev pub has_entry : Draft → Key → Bool
has_entry d k = is_some (get d.entries k)

-- an Install without leave to replace it
abbrev pub is_occupied : AccountId → ℕ → Bool → Draft → Bool
is_occupied owner position replace d = has_entry d (key.Install owner position) && not replace

-- a code's Definition, where its hash has none: the first one stays
abbrev pub defined : ℕ → List ℕ → Checked → Draft → Draft
defined version code c d =
    if has_entry d (key.Definition c.hash) then d
    else put_entry (key.Definition c.hash) (entry.Definition code version c.bound_hook c.bound_cbak) d

-- a new code: it is checked in its version
abbrev pub created : AccountId → ℕ → ℕ → List ℕ → (Hash256 → Entry) → Draft → Option Checked → ItemEnd
created owner position version code install d None = stops HookRefused
created owner position version code install d (Some c) =
    leaves (put_install owner position (install c.hash) (defined version code c d))

-- what is given replaces what the Install has
abbrev pub updated : AccountId → ℕ → Option Hash256 → Option Hash256 → Option (List Parameter) → Option (List Grant) →
    Draft → Option Entry → ItemEnd
updated owner position on namespace parameters grants d (Some (entry.Install hash mask space values leave)) =
    leaves (put_install owner position
    (entry.Install hash (unwrap_or on mask) (unwrap_or namespace space) (unwrap_or parameters values)
    (unwrap_or grants leave)) d)
updated owner position on namespace parameters grants d other = stops NoInstall

-- one item of an account, at its position
abbrev pub item_end : Engine → AccountId → ℕ → HookItem → Draft → ItemEnd
item_end e owner position item.Noop d = leaves d
item_end e owner position (item.DeleteNamespace namespace) d = leaves (emptied owner namespace d)
item_end e owner position item.Delete d = leaves (cut_entry (key.Install owner position) d)
item_end e owner position (item.Create code version on namespace parameters grants replace) d =
    if is_occupied owner position replace d then stops Occupied
    else created owner position version code (λ hash. entry.Install hash on namespace parameters grants) d
    (e.checks version code)
item_end e owner position (item.Install hash on namespace parameters grants replace) d =
    if is_occupied owner position replace d then stops Occupied
    else if has_entry d (key.Definition hash)
    then leaves (put_install owner position (entry.Install hash on namespace parameters grants) d)
    else stops NoDefinition
item_end e owner position (item.Update on namespace parameters grants) d =
    updated owner position on namespace parameters grants d (get d.entries (key.Install owner position))

abbrev pub then_items : ItemEnd → (Draft → ItemEnd) → ItemEnd
then_items (leaves d) later = later d
then_items (stops name) later = stops name

-- in order, each on what the earlier ones left
abbrev pub items_end : Engine → AccountId → ℕ → List HookItem → Draft → ItemEnd
items_end e owner position [] d = leaves d
items_end e owner position (i ∷ is) d = then_items (item_end e owner position i d) (items_end e owner (position + 1) is)

abbrev pub balance_of : Option Holding → ℕ
balance_of None = 0
balance_of (Some holding) = holding.balance

-- the balance is below the reserve
abbrev pub is_short : Engine → AccountId → Entries → Bool
is_short e owner m = nat_lt (balance_of (holding_at m owner)) (e.reserve m owner)

abbrev pub reserved : Engine → AccountId → ItemEnd → ItemEnd
reserved e owner (leaves d) = if is_short e owner d.entries then stops Reserve else leaves d
reserved e owner (stops name) = stops name

-- all items, and then the reserve
abbrev pub hooks_end : Engine → AccountId → List HookItem → Draft → ItemEnd
hooks_end e owner items d = reserved e owner (items_end e owner 0 items d)
