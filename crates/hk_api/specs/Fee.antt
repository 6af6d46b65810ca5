-- Row 63 of the table of calls: the fee that an emission needs (this project's own, after the XRPL Hooks).
use Rattle.std.specs.Prelude.{ℕ, ◌-◌, ◌*◌, ◌^◌, ◌==◌, nat_lt, true, false, ℤ, pos, List, Option, ok_or, Ok}
use Rattle.std.specs.Option.{option_and_then, option_or}
use Rattle.xo_list.specs.Item.{Item}
use Rattle.xo_object.specs.declared.transaction.Transaction.{Transaction}
use Rattle.hk_reading.specs.Parsing.{fields_of}
use Rattle.hk_reading.specs.Transactions.{transaction_of}
use Rattle.hk_calls.specs.declared.arguments.Pair.{Pair}
use Rattle.hk_calls.specs.declared.code.Code.TheVariants as code
use Rattle.hk_calls.specs.Rules.{OrCode, ◌>>=◌, ◌>>◌, refuse, read}
use Rattle.hk_state.specs.Fees.{needed_fee}
use Rattle.hk_api_parts.specs.Emitting.{own_burden}
use Rattle.hk_api.specs.HostState.{HostState}

-- the transaction that an object's fields are, as it is sent or as a hook emits it
abbrev pub either_of : List ℕ → List Item → Option Transaction
either_of bytes fields = option_or (transaction_of false fields bytes) (transaction_of true fields bytes)

unfoldable pub transaction_in : List ℕ → Option Transaction
transaction_in bytes = option_and_then (either_of bytes) (fields_of bytes)

-- 63: the pair is rp rl
abbrev pub etxn_fee_base : HostState → List ℕ → Pair → OrCode ℤ
etxn_fee_base s m from = do
  blob ← read m from
  refuse (s.emitting.reserved == 0) code.PrerequisiteNotMet
  t ← ok_or (transaction_in blob) code.InvalidTxn
  b ← own_burden s.setting s.emitting
  refuse (nat_lt (2 ^ 63 - 1) (needed_fee s.before t * b)) code.FeeTooLarge
  Ok (pos (needed_fee s.before t * b))
