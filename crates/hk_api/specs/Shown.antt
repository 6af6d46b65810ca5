-- The objects that entries of the ledger show to hooks (this project's own, after the ledger objects of xrpl.org).
use Rattle.std.specs.Prelude.{ℕ, ◌^◌, nat_lt, nat_le, List, [], ◌∷◌, length, Option, Some, None, if◌then◌else◌}
use Rattle.std.specs.Int.{w32, to_be_bytes}
use Rattle.hk_base.specs.declared.ids.AccountId.{AccountId}
use Rattle.hk_base.specs.declared.ids.Hash256.{Hash256}
use Rattle.xo_fields.specs.declared.amount.Amount.TheVariants.{Native}
use Rattle.xo_fields.specs.declared.field.FieldId.{FieldId}
use Rattle.xo_fields.specs.Amount.{amount_bytes}
use Rattle.xo_list.specs.Item.{Item, spell}
use Rattle.xo_object.specs.Names as names
use Rattle.hk_state.specs.declared.entry.Entry.{Entry}
use Rattle.hk_state.specs.declared.entry.Entry.TheVariants as entry
use Rattle.hk_state.specs.declared.key.Key.{Key}
use Rattle.hk_state.specs.declared.key.Key.TheVariants as key
use Rattle.hk_state.specs.Entries.{Entries}
use Rattle.hk_api.specs.Keylets.{account_space, state_space, owner_count}

abbrev pub ledger_entry_type : FieldId
ledger_entry_type = names.field 1 1

abbrev pub owner_count_field : FieldId
owner_count_field = names.field 2 13

abbrev pub balance_field : FieldId
balance_field = names.field 6 2

abbrev pub hook_state_key : FieldId
hook_state_key = names.field 5 30

abbrev pub hook_state_data : FieldId
hook_state_data = names.field 7 22

abbrev pub item : FieldId → List ℕ → Item
item f value = record { field = f; value = value }

abbrev pub account_fields : AccountId → ℕ → ℕ → ℕ → List Item
account_fields id balance sequence owned =
    item ledger_entry_type account_space
    ∷ item names.flags (0 ∷ 0 ∷ 0 ∷ 0 ∷ [])
    ∷ item names.sequence (to_be_bytes w32 sequence)
    ∷ item owner_count_field (to_be_bytes w32 owned)
    ∷ item balance_field (amount_bytes (Native balance))
    ∷ item names.account id.0
    ∷ []

abbrev pub state_fields : Hash256 → List ℕ → List Item
state_fields k bytes =
    item ledger_entry_type state_space
    ∷ item hook_state_key k.0
    ∷ item hook_state_data bytes
    ∷ []

-- the object that an entry shows; a balance and bytes that no field can have show none
unfoldable pub shown : Entries → Key → Entry → Option (List ℕ)
shown m (key.Account id) (entry.Account balance sequence) =
    if nat_lt balance (2 ^ 62) then Some (spell (account_fields id balance sequence (owner_count m id))) else None
shown m (key.State id namespace k) (entry.State bytes) =
    if nat_le (length bytes) 918744 then Some (spell (state_fields k bytes)) else None
shown m k e = None
