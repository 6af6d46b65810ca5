-- The fields of transactions and of the items that install hooks (xrpl.org, "Transaction Common Fields", and this
-- project's own for hooks).
use Rattle.std.specs.Prelude.{ℕ}
use Rattle.xo_fields.specs.declared.field.FieldId.{FieldId}

abbrev pub field : ℕ → ℕ → FieldId
field kind code = record { kind = kind; code = code }

abbrev pub transaction_type : FieldId
transaction_type = field 1 2

abbrev pub hook_api_version : FieldId
hook_api_version = field 1 20

abbrev pub flags : FieldId
flags = field 2 2

abbrev pub sequence : FieldId
sequence = field 2 4

abbrev pub first_ledger_sequence : FieldId
first_ledger_sequence = field 2 26

abbrev pub last_ledger_sequence : FieldId
last_ledger_sequence = field 2 27

abbrev pub emit_generation : FieldId
emit_generation = field 2 46

abbrev pub emit_burden : FieldId
emit_burden = field 3 13

abbrev pub emit_parent : FieldId
emit_parent = field 5 11

abbrev pub emit_nonce : FieldId
emit_nonce = field 5 12

abbrev pub emit_hook_hash : FieldId
emit_hook_hash = field 5 13

abbrev pub hook_on : FieldId
hook_on = field 5 20

abbrev pub hook_hash : FieldId
hook_hash = field 5 31

abbrev pub hook_namespace : FieldId
hook_namespace = field 5 32

abbrev pub amount : FieldId
amount = field 6 1

abbrev pub fee : FieldId
fee = field 6 8

abbrev pub send_max : FieldId
send_max = field 6 9

abbrev pub deliver_min : FieldId
deliver_min = field 6 10

abbrev pub signing_pub_key : FieldId
signing_pub_key = field 7 3

abbrev pub create_code : FieldId
create_code = field 7 11

abbrev pub parameter_name : FieldId
parameter_name = field 7 24

abbrev pub parameter_value : FieldId
parameter_value = field 7 25

abbrev pub account : FieldId
account = field 8 1

abbrev pub destination : FieldId
destination = field 8 3

abbrev pub authorize : FieldId
authorize = field 8 5

abbrev pub emit_callback : FieldId
emit_callback = field 8 10

abbrev pub emit_details : FieldId
emit_details = field 14 13

abbrev pub hook : FieldId
hook = field 14 14

abbrev pub hook_parameter : FieldId
hook_parameter = field 14 23

abbrev pub hook_grant : FieldId
hook_grant = field 14 24

abbrev pub hooks : FieldId
hooks = field 15 11

abbrev pub hook_parameters : FieldId
hook_parameters = field 15 19

abbrev pub hook_grants : FieldId
hook_grants = field 15 20
