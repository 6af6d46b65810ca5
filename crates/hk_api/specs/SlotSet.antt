-- Row 46 of the table of calls: the transaction and the ledger's entries in slots (this project's own, after the XRPL
-- Hooks).
use Rattle.std.specs.Prelude.{ℕ, ◌==◌, ◌||◌, ◌&&◌, not, ℤ, List, length, drop, Option, Some, None, if◌then◌else◌}
use Rattle.std.specs.Option.{option_and_then}
use Rattle.std.specs.Str.{bytes_eq}
use Rattle.hk_calls.specs.declared.arguments.Pair.{Pair}
use Rattle.hk_calls.specs.declared.code.Code.TheVariants as code
use Rattle.hk_calls.specs.Rules.{OrCode, ◌>>=◌, ◌>>◌, refuse, read, found}
use Rattle.hk_slots.specs.Slots.{SlotMap}
use Rattle.hk_state.specs.Entries.{Entries}
use Rattle.hk_api_parts.specs.declared.setting.Setting.{Setting}
use Rattle.hk_api_parts.specs.SlotRows.{put_object}
use Rattle.hk_api.specs.HostState.{HostState}
use Rattle.hk_api.specs.Keylets.{is_keylet, first_key, entry_at}
use Rattle.hk_api.specs.Shown.{shown}

-- the object that an entry shows, by its keylet
abbrev pub entry_object : Entries → List ℕ → Option (List ℕ)
entry_object m keylet = option_and_then (λ e. shown m e.0 e.1) (entry_at m (first_key keylet) (drop 2 keylet))

-- the transaction, by its id
abbrev pub transaction_object : Setting → List ℕ → Option (List ℕ)
transaction_object setting id =
    if bytes_eq setting.transaction.id.0 id then Some setting.transaction.blob else None

-- the object that bytes name: the transaction by its id, or an entry by its keylet
abbrev pub named_object : HostState → List ℕ → Option (List ℕ)
named_object s bytes =
    if length bytes == 32 then transaction_object s.setting bytes else
    entry_object s.draft.entries bytes

-- the object that was found, put into a slot
abbrev pub put_found : SlotMap → Option (List ℕ) → ℕ → OrCode (ℤ × SlotMap)
put_found slots object into = found object >>= put_object slots into

-- 46: the pair is rp rl, and the slot
abbrev pub slot_set : HostState → List ℕ → Pair → ℕ → OrCode (ℤ × SlotMap)
slot_set s m from into = do
  bytes ← read m from
  refuse (not (from.count == 32 || from.count == 34)) code.InvalidArgument
  refuse (from.count == 34 && not (is_keylet bytes)) code.NoSuchKeylet
  put_found s.slots (named_object s bytes) into
