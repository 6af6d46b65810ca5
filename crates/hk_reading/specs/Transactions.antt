-- The transaction that fields are, as a function: it is guessed from the fields, and taken where each rule holds of it.
use Rattle.std.specs.Prelude.{ℕ, ℤ, pos, negsuc, ◌==◌, ◌&&◌, ◌||◌, not, nat_lt, nat_le, Bool, true, false, List, []}
use Rattle.std.specs.Prelude.{Option, Some, None, is_some, unwrap_or}
use Rattle.std.specs.Option.{option_and_then, option_map}
use Rattle.hk_base.specs.declared.ids.AccountId.{AccountId}
use Rattle.hk_base.specs.Hashes.{tx_id}
use Rattle.xo_fields.specs.declared.amount.Amount.{Amount}
use Rattle.xo_fields.specs.declared.amount.Amount.TheVariants.{Native, Issued}
use Rattle.xo_object.specs.declared.transaction.HookItem.{HookItem}
use Rattle.xo_object.specs.declared.transaction.Parameter.{Parameter}
use Rattle.xo_object.specs.declared.transaction.Transaction.{Transaction}
use Rattle.xo_list.specs.Item.{Item, lookup}
use Rattle.xo_object.specs.Names as names
use Rattle.xo_object.specs.Transaction.{number16, number32}
use Rattle.hk_reading.specs.Amounts.{only_if, amount_of}
use Rattle.hk_reading.specs.Details.{Said, said_for, is_numbered}
use Rattle.hk_reading.specs.HookItems.{hooks_in}
use Rattle.hk_reading.specs.Lists.{bytes_in, account_of, parameters_of}

abbrev pub drops_in : Option Amount → ℕ
drops_in None = 0
drops_in (Some (Native drops)) = drops
drops_in (Some (Issued value currency issuer)) = 0

abbrev pub is_native : Option Amount → Bool
is_native None = false
is_native (Some (Native drops)) = true
is_native (Some (Issued value currency issuer)) = false

-- the amount of a field that may be absent
abbrev pub amount_in : Option (List ℕ) → Option Amount
amount_in value = option_and_then amount_of value

abbrev pub is_absent_or_amount : Option (List ℕ) → Bool
is_absent_or_amount None = true
is_absent_or_amount (Some value) = is_some (amount_of value)

abbrev pub is_great : ℤ → Bool
is_great (pos bits) = nat_le 4611686018427387904 bits
is_great (negsuc n) = false

abbrev pub is_positive : Amount → Bool
is_positive (Native drops) = nat_lt 0 drops
is_positive (Issued value currency issuer) = is_great value

abbrev pub is_payment : ℕ → Option AccountId → Option Amount → Bool
is_payment kind None amount = not (kind == 0)
is_payment kind (Some account) None = not (kind == 0)
is_payment kind (Some account) (Some amount) = not (kind == 0) || is_positive amount

-- what a transaction says in lists and details
pub record Parts : Type 0 where
  pub parameters : List Parameter
  pub hooks : List HookItem
  pub said : Said

-- the items of type 22, and none of another type
abbrev pub hooks_for : Bool → Option (List ℕ) → Option (List HookItem)
hooks_for false bytes = Some []
hooks_for true bytes = option_and_then hooks_in bytes

abbrev pub kind_in : List Item → ℕ
kind_in fields = unwrap_or (number16 names.transaction_type fields) 0

abbrev pub parts_of : Bool → List Item → Option Parts
parts_of emitted fields =
    option_and_then (λ parameters.
    option_and_then (λ hooks. option_map (λ said. record { parameters = parameters; hooks = hooks; said = said })
    (said_for emitted (lookup names.emit_details fields)))
    (hooks_for (kind_in fields == 22) (lookup names.hooks fields)))
    (parameters_of (lookup names.hook_parameters fields))

abbrev pub guess : List Item → List ℕ → Parts → Transaction
guess fields bytes parts = record {
  kind = kind_in fields;
  account = account_of (bytes_in names.account fields);
  destination = option_map account_of (lookup names.destination fields);
  sequence = unwrap_or (number32 names.sequence fields) 0;
  fee = drops_in (amount_in (lookup names.fee fields));
  first = number32 names.first_ledger_sequence fields;
  last = number32 names.last_ledger_sequence fields;
  amount = amount_in (lookup names.amount fields);
  parameters = parts.parameters;
  hooks = parts.hooks;
  other_amounts = is_some (lookup names.send_max fields) || is_some (lookup names.deliver_min fields);
  generation = parts.said.0;
  burden = parts.said.1;
  blob = bytes;
  id = tx_id bytes;
}

-- the fields that each transaction has are there
abbrev pub has_all : List Item → Bool
has_all fields =
    is_some (number16 names.transaction_type fields) &&
    (is_some (lookup names.account fields) &&
    (is_some (number32 names.sequence fields) &&
    (is_native (amount_in (lookup names.fee fields)) && is_some (lookup names.signing_pub_key fields))))

-- a known type, amounts that are some, and a number as it must be
abbrev pub is_right : Bool → List Item → Transaction → Bool
is_right emitted fields t =
    (t.kind == 0 || t.kind == 3 || t.kind == 22 || t.kind == 99) && (is_absent_or_amount (lookup names.amount fields)
    && (is_payment t.kind t.destination t.amount && is_numbered emitted t.sequence))

abbrev pub tested : Bool → List Item → Transaction → Option Transaction
tested emitted fields t = only_if (has_all fields && is_right emitted fields t) (Some t)

-- the transaction that fields are, emitted or not
unfoldable pub transaction_of : Bool → List Item → List ℕ → Option Transaction
transaction_of emitted fields bytes =
    option_and_then (λ parts. tested emitted fields (guess fields bytes parts)) (parts_of emitted fields)
