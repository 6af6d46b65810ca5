-- What the bytes of a transaction read as (this project's own limit).
use Rattle.std.specs.Prelude.{ℕ, ◌<◌, ◌≤◌, false, List, length}
use Rattle.xo_object.specs.declared.transaction.Transaction.{Transaction}
use Rattle.xo_list.specs.Item.{Item}
use Rattle.xo_object.specs.Transaction.{IsTransaction}
use Rattle.xo_list.specs.Value.{IsObject, HasFields}
use Rattle.hk_reading.specs.declared.reading.Reading.{Reading}
use Rattle.hk_reading.specs.declared.reading.Reading.TheVariants as reading

-- the most bytes of a transaction
abbrev pub longest : ℕ
longest = 1000000

-- the type that changes hooks
abbrev pub hook_kind : ℕ
hook_kind = 22

-- an object's fields are no transaction
pub record IsMalformed (bytes : List ℕ) : Type 0 where
  pub fields : List Item
  pub object : IsObject fields bytes
  pub wrong : (t : Transaction) → IsTransaction fields bytes false t → ⊥

-- an object's fields are this transaction
pub record IsRead (bytes : List ℕ) (t : Transaction) : Type 0 where
  pub fields : List Item
  pub object : IsObject fields bytes
  pub is : IsTransaction fields bytes false t

abbrev pub Reads : List ℕ → Reading → Type 0
Reads bytes reading.TooLong = longest < length bytes
Reads bytes reading.Unparsed = (length bytes ≤ longest) × (HasFields bytes → ⊥)
Reads bytes reading.Malformed = (length bytes ≤ longest) × IsMalformed bytes
Reads bytes (reading.Transaction t) = (length bytes ≤ longest) × IsRead bytes t

-- the next sequence number after the transaction's fits
abbrev pub IsCountable : Reading → Type 0
IsCountable reading.TooLong = Unit {0}
IsCountable reading.Unparsed = Unit {0}
IsCountable reading.Malformed = Unit {0}
IsCountable (reading.Transaction t) = t.sequence < 4294967295
