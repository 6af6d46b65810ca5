-- Rows 54 to 57 of the table of calls: what hooks keep on the ledger (this project's own, after the XRPL Hooks).
use Rattle.std.specs.Prelude.{ℕ, ◌+◌, ◌-◌, ◌*◌, ◌==◌, ◌&&◌, ◌||◌, not, nat_lt, Bool, ℤ, pos, List, length, Option, Some}
use Rattle.std.specs.Prelude.{None, Ok, if◌then◌else◌}
use Rattle.std.specs.Option.{option_map_or}
use Rattle.std.specs.FinMap.{get}
use Rattle.hk_base.specs.declared.ids.AccountId.{AccountId}
use Rattle.hk_base.specs.declared.ids.Hash256.{Hash256}
use Rattle.hk_calls.specs.declared.arguments.Pair.{Pair}
use Rattle.hk_calls.specs.declared.code.Code.TheVariants as code
use Rattle.hk_calls.specs.Outputs.{Output, writes_or_number}
use Rattle.hk_calls.specs.Rules.{OrCode, ◌>>=◌, ◌>>◌, refuse, inside, read, key, found}
use Rattle.hk_state.specs.declared.entry.Entry.{Entry}
use Rattle.hk_state.specs.declared.entry.Entry.TheVariants as entry
use Rattle.hk_state.specs.declared.key.StateKey.{StateKey}
use Rattle.hk_state.specs.Keys.{as_key}
use Rattle.hk_state.specs.Entries.{Entries}
use Rattle.hk_state.specs.Grants.{may_write}
use Rattle.hk_state.specs.Holdings.{holding_at}
use Rattle.hk_state.specs.Reserves.{reserve, units, units_in, unit_reserve}
use Rattle.hk_api_parts.specs.declared.place.Place.{Place}
use Rattle.hk_api.specs.HostState.{HostState, StateWrite}

-- a key of the hook's own account and namespace
abbrev pub own_key : Place → Hash256 → StateKey
own_key place k = record { owner = place.account; namespace = place.namespace; key = k }

abbrev pub as_state : Option Entry → Option (List ℕ)
as_state (Some (entry.State bytes)) = Some bytes
as_state other = None

abbrev pub state_at : Entries → StateKey → Option (List ℕ)
state_at m q = as_state (get m (as_key q))

-- the most bytes that a hook of a version may keep in an entry
abbrev pub most_bytes : ℕ → ℕ
most_bytes version = if version == 1 then 2048 else 256

-- an account's balance so far, 0 where there is no such account
abbrev pub balance_at : Entries → AccountId → ℕ
balance_at m id = option_map_or (λ h. h.balance) (holding_at m id) 0

-- the units that bytes are more than what stands there
abbrev pub added_units : Option Entry → List ℕ → ℕ
added_units there bytes = units (length bytes) - option_map_or units_in there 0

-- the owner's balance doesn't reach for its reserve and the units that come
unfoldable pub lacks_reserve : Entries → AccountId → ℕ → Bool
lacks_reserve m owner added = nat_lt 0 added && nat_lt (balance_at m owner) (reserve m owner + unit_reserve * added)

-- bytes put at a State key
abbrev pub stored : HostState → StateKey → List ℕ → OrCode (ℤ × StateWrite)
stored s q bytes = do
  refuse (lacks_reserve s.draft.entries q.owner (added_units (get s.draft.entries (as_key q)) bytes))
      code.ReserveInsufficient
  Ok (pos (length bytes), record { at = q; bytes = bytes })

-- the owner and the namespace that bytes name: no bytes name the hook's own
abbrev pub owner_of : Place → List ℕ → AccountId
owner_of place bytes = if length bytes == 0 then place.account else record { 0 = bytes }

abbrev pub namespace_of : Place → List ℕ → Hash256
namespace_of place bytes = if length bytes == 0 then place.namespace else record { 0 = bytes }

abbrev pub foreign_key : Place → List ℕ → List ℕ → Hash256 → StateKey
foreign_key place account namespace k =
    record { owner = owner_of place account; namespace = namespace_of place namespace; key = k }

-- a pair for so many bytes, or for none
abbrev pub is_sized : ℕ → Pair → Bool
is_sized size pair = pair.count == 0 || pair.count == size

-- 54: the pairs are wp wl and kp kl
abbrev pub state : HostState → List ℕ → Pair → Pair → OrCode Output
state s m write at = do
  inside m write
  bytes ← read m at
  k ← key bytes
  value ← found (state_at s.draft.entries (own_key s.place k))
  Ok (writes_or_number value)

-- 55: the pairs are rp rl and kp kl
abbrev pub state_set : HostState → List ℕ → Pair → Pair → OrCode (ℤ × StateWrite)
state_set s m from at = do
  value ← read m from
  bytes ← read m at
  k ← key bytes
  refuse (nat_lt (most_bytes s.place.version) from.count) code.TooBig
  stored s (own_key s.place k) value

-- 56: the pairs are wp wl, kp kl, np nl and ap al
abbrev pub state_foreign : HostState → List ℕ → Pair → Pair → Pair → Pair → OrCode Output
state_foreign s m write at space of = do
  inside m write
  bytes ← read m at
  namespace ← read m space
  account ← read m of
  k ← key bytes
  refuse (not (is_sized 32 space && is_sized 20 of)) code.InvalidArgument
  value ← found (state_at s.draft.entries (foreign_key s.place account namespace k))
  Ok (writes_or_number value)

-- whether the hook may write the key: grants are read as the event began
abbrev pub may_write_at : HostState → StateKey → Bool
may_write_at s q = may_write s.before s.place.hash s.place.account q.owner q.namespace

-- 57: the pairs are rp rl, kp kl, np nl and ap al
abbrev pub state_foreign_set : HostState → List ℕ → Pair → Pair → Pair → Pair → OrCode (ℤ × StateWrite)
state_foreign_set s m from at space of = do
  value ← read m from
  bytes ← read m at
  namespace ← read m space
  account ← read m of
  k ← key bytes
  refuse (not (is_sized 32 space && is_sized 20 of)) code.InvalidArgument
  refuse (nat_lt (most_bytes s.place.version) from.count) code.TooBig
  refuse (not (may_write_at s (foreign_key s.place account namespace k))) code.NotAuthorized
  stored s (foreign_key s.place account namespace k) value
