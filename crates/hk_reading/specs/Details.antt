-- What a transaction says of its emission, as a function of the details.
use Rattle.std.specs.Prelude.{ℕ, ◌&&◌, ◌==◌, nat_lt, Bool, true, false, List, [], ◌∷◌, Option, Some, None, is_some}
use Rattle.std.specs.Prelude.{unwrap_or}
use Rattle.std.specs.Option.{option_and_then}
use Rattle.xo_list.specs.Item.{Item, lookup}
use Rattle.xo_object.specs.Names as names
use Rattle.xo_object.specs.Transaction.{number32, number64, only}
use Rattle.hk_reading.specs.Amounts.{only_if}
use Rattle.hk_reading.specs.Parsing.{fields_of}

-- what EmitDetails must have
abbrev pub is_details : List Item → Bool
is_details fields =
    only
    (names.emit_generation ∷ names.emit_burden ∷ names.emit_parent ∷ names.emit_nonce ∷ names.emit_hook_hash ∷
    names.emit_callback ∷ []) fields
    && (is_some (number32 names.emit_generation fields) && (is_some (number64 names.emit_burden fields)
    && (is_some (lookup names.emit_parent fields) &&
    (is_some (lookup names.emit_nonce fields) && is_some (lookup names.emit_hook_hash fields)))))

-- a generation and a burden
abbrev pub Said : Type 0
Said = ℕ × ℕ

abbrev pub said_in : List Item → Said
said_in fields = (unwrap_or (number32 names.emit_generation fields) 0, unwrap_or (number64 names.emit_burden fields) 0)

abbrev pub said_by : List Item → Option Said
said_by fields = only_if (is_details fields) (Some (said_in fields))

abbrev pub said_of : List ℕ → Option Said
said_of bytes = option_and_then said_by (fields_of bytes)

-- a transaction that wasn't emitted has no details, is of generation 0 and has burden 1; an emitted one has them
abbrev pub said_for : Bool → Option (List ℕ) → Option Said
said_for false None = Some (0, 1)
said_for false (Some details) = None
said_for true None = None
said_for true (Some details) = said_of details

-- the number of a transaction that wasn't emitted can be counted; that of an emitted one is 0
abbrev pub is_numbered : Bool → ℕ → Bool
is_numbered false sequence = nat_lt 0 sequence && nat_lt sequence 4294967295
is_numbered true sequence = sequence == 0
