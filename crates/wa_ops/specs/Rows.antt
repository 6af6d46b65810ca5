-- The table of API calls (this project's own): the call with the number n is row n, counted from 0.
use Rattle.std.specs.Prelude.{ℕ, ◌==◌, List, [], ◌∷◌, ◌++◌, Bool, ◌||◌, Option, Some, None, if◌then◌else◌, codes}
use Rattle.std.specs.Prelude.{replicate, slice_get}
use Rattle.std.specs.List.{position}
use Rattle.std.specs.Option.{option_map_or}
use Rattle.std.specs.Str.{bytes_eq}
use Rattle.wa_ops.specs.declared.op.ValueType.{ValueType}
use Rattle.wa_ops.specs.declared.op.ValueType.TheVariants.{I32, I64}
use Rattle.wa_ops.specs.declared.rows.ApiCall as table
use Rattle.wa_ops.specs.Opcodes.{among}

-- a call: its name, the types of what it takes, in order, and the type of its answer
pub record ApiCall : Type 0 where
  pub name : List ℕ
  pub parameters : List ValueType
  pub answer : ValueType

-- a row of the table in the code
abbrev pub shown : table.ApiCall → ApiCall
shown call = record { name = call.0.now; parameters = call.1.now; answer = call.2 }

abbrev pub narrow : ℕ → List ValueType
narrow count = replicate count I32

abbrev pub wide : ℕ → List ValueType
wide count = replicate count I64

-- a call that answers an i64, as all do but the guard's
abbrev pub call : List ℕ → List ValueType → ApiCall
call name parameters = record { name = name; parameters = parameters; answer = I64 }

unfoldable pub api_calls : List ApiCall
api_calls =
    record { name = codes "_g"; parameters = narrow 2; answer = I32 } ∷
    call (codes "accept") (narrow 2 ++ wide 1) ∷
    call (codes "rollback") (narrow 2 ++ wide 1) ∷
    call (codes "util_sha512h") (narrow 4) ∷
    call (codes "util_keylet") (narrow 9) ∷
    call (codes "sto_subfield") (narrow 3) ∷
    call (codes "sto_subarray") (narrow 3) ∷
    call (codes "sto_emplace") (narrow 7) ∷
    call (codes "sto_erase") (narrow 5) ∷
    call (codes "sto_validate") (narrow 2) ∷
    call (codes "float_one") [] ∷
    call (codes "float_set") (narrow 1 ++ wide 1) ∷
    call (codes "float_multiply") (wide 2) ∷
    call (codes "float_mulratio") (wide 1 ++ narrow 3) ∷
    call (codes "float_divide") (wide 2) ∷
    call (codes "float_invert") (wide 1) ∷
    call (codes "float_sum") (wide 2) ∷
    call (codes "float_negate") (wide 1) ∷
    call (codes "float_compare") (wide 2 ++ narrow 1) ∷
    call (codes "float_mantissa") (wide 1) ∷
    call (codes "float_sign") (wide 1) ∷
    call (codes "float_int") (wide 1 ++ narrow 2) ∷
    call (codes "float_sto") (narrow 6 ++ wide 1 ++ narrow 1) ∷
    call (codes "float_sto_set") (narrow 2) ∷
    call (codes "trace") (narrow 5) ∷
    call (codes "trace_num") (narrow 2 ++ wide 1) ∷
    call (codes "trace_float") (narrow 2 ++ wide 1) ∷
    call (codes "fee_base") [] ∷
    call (codes "ledger_seq") [] ∷
    call (codes "ledger_last_time") [] ∷
    call (codes "ledger_last_hash") (narrow 2) ∷
    call (codes "ledger_nonce") (narrow 2) ∷
    call (codes "hook_account") (narrow 2) ∷
    call (codes "hook_hash") (narrow 3) ∷
    call (codes "hook_pos") [] ∷
    call (codes "hook_param") (narrow 4) ∷
    call (codes "hook_param_set") (narrow 6) ∷
    call (codes "hook_skip") (narrow 3) ∷
    call (codes "otxn_type") [] ∷
    call (codes "otxn_id") (narrow 3) ∷
    call (codes "otxn_field") (narrow 3) ∷
    call (codes "otxn_slot") (narrow 1) ∷
    call (codes "otxn_param") (narrow 4) ∷
    call (codes "otxn_burden") [] ∷
    call (codes "otxn_generation") [] ∷
    call (codes "slot") (narrow 3) ∷
    call (codes "slot_set") (narrow 3) ∷
    call (codes "slot_clear") (narrow 1) ∷
    call (codes "slot_count") (narrow 1) ∷
    call (codes "slot_size") (narrow 1) ∷
    call (codes "slot_subfield") (narrow 3) ∷
    call (codes "slot_subarray") (narrow 3) ∷
    call (codes "slot_type") (narrow 2) ∷
    call (codes "slot_float") (narrow 1) ∷
    call (codes "state") (narrow 4) ∷
    call (codes "state_set") (narrow 4) ∷
    call (codes "state_foreign") (narrow 8) ∷
    call (codes "state_foreign_set") (narrow 8) ∷
    call (codes "etxn_reserve") (narrow 1) ∷
    call (codes "etxn_burden") [] ∷
    call (codes "etxn_generation") [] ∷
    call (codes "etxn_nonce") (narrow 2) ∷
    call (codes "etxn_details") (narrow 2) ∷
    call (codes "etxn_fee_base") (narrow 2) ∷
    call (codes "emit") (narrow 4) ∷
    []

-- how many rows there are: the number that no row has
abbrev pub row_count : ℕ
row_count = 65

-- the calls that this machine treats itself: the guard `_g`, and the two that end a run
abbrev pub guard_row : ℕ
guard_row = 0

abbrev pub accept_row : ℕ
accept_row = 1

abbrev pub rollback_row : ℕ
rollback_row = 2

-- the row of this name
unfoldable pub row_named : List ℕ → Option ℕ
row_named name = position (λ call. bytes_eq call.name name) api_calls

unfoldable pub row_parameters : ℕ → List ValueType
row_parameters row = option_map_or (λ call. call.parameters) (slice_get api_calls row) []

unfoldable pub row_answer : ℕ → ValueType
row_answer row = option_map_or (λ call. call.answer) (slice_get api_calls row) I64
