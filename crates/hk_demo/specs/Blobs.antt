-- The transactions of the demo, as they are spelled (xrpl.org, "Serialization Format" and "Transaction Common Fields").
use Rattle.std.specs.Prelude.{ℕ, ◌+◌, List, [], ◌∷◌, ◌++◌, replicate}
use Rattle.std.specs.Int.{w16, w32, to_be_bytes}
use Rattle.hk_base.specs.declared.ids.AccountId.{AccountId}
use Rattle.xo_fields.specs.declared.field.FieldId.{FieldId}
use Rattle.xo_fields.specs.declared.amount.Amount.TheVariants.{Native}
use Rattle.xo_fields.specs.Amount.{amount_bytes}
use Rattle.xo_list.specs.Item.{Item, spell}
use Rattle.xo_object.specs.Names as names

-- account k is twenty bytes k + 1
abbrev pub account_of : ℕ → AccountId
account_of k = record { 0 = replicate 20 (k + 1) }

abbrev pub item : FieldId → List ℕ → Item
item field value = record { field = field; value = value }

-- a Payment of drops from one account to another, with a fee of 1,000 drops
abbrev pub payment_fields : ℕ → ℕ → ℕ → ℕ → List Item
payment_fields sequence drops from to =
    item names.transaction_type (to_be_bytes w16 0)
    ∷ item names.sequence (to_be_bytes w32 sequence)
    ∷ item names.amount (amount_bytes (Native drops))
    ∷ item names.fee (amount_bytes (Native 1000))
    ∷ item names.signing_pub_key []
    ∷ item names.account (account_of from).0
    ∷ item names.destination (account_of to).0
    ∷ []

unfoldable pub payment_blob : ℕ → ℕ → ℕ → ℕ → List ℕ
payment_blob sequence drops from to = spell (payment_fields sequence drops from to)

-- every bit 1 but bits 0 and 22, those of Payment and SetHook: the hook fires on Payments alone
abbrev pub on_payments : List ℕ
on_payments = replicate 29 0xFF ++ 0xBF ∷ 0xFF ∷ 0xFE ∷ []

-- the item that creates a hook of a code, with a namespace of zeros
abbrev pub created : List ℕ → List Item
created code =
    item names.hook_api_version (to_be_bytes w16 0)
    ∷ item names.hook_on on_payments
    ∷ item names.hook_namespace (replicate 32 0)
    ∷ item names.create_code code
    ∷ []

-- the first transaction of an account, a SetHook that creates the hook at position 0, with a fee of 10,000 drops
abbrev pub set_hook_fields : ℕ → List ℕ → List Item
set_hook_fields k code =
    item names.transaction_type (to_be_bytes w16 22)
    ∷ item names.sequence (to_be_bytes w32 1)
    ∷ item names.fee (amount_bytes (Native 10000))
    ∷ item names.signing_pub_key []
    ∷ item names.account (account_of k).0
    ∷ item names.hooks (spell (item names.hook (spell (created code)) ∷ []))
    ∷ []

unfoldable pub set_hook_blob : ℕ → List ℕ → List ℕ
set_hook_blob k code = spell (set_hook_fields k code)
