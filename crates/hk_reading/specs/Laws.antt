-- The function and the relation of readings are one.
use Rattle.std.specs.Prelude.{◌≡◌, ◌↔◌, ℕ, Bool, List, Some}
use Rattle.xo_list.specs.Item.{Item}
use Rattle.xo_object.specs.declared.transaction.Transaction.{Transaction}
use Rattle.xo_object.specs.Transaction.{IsTransaction}
use Rattle.hk_reading.specs.declared.reading.Reading.{Reading}
use Rattle.hk_reading.specs.Reading.{reading}
use Rattle.hk_reading.specs.Readings.{Reads}
use Rattle.hk_reading.specs.Transactions.{transaction_of}

abbrev pub ReadsSo : Type 0
ReadsSo = (bytes : List ℕ) → Reads bytes (reading bytes)

abbrev pub ReadsOnlySo : Type 0
ReadsOnlySo = (bytes : List ℕ) (r : Reading) → Reads bytes r → r ≡ reading bytes

-- the function finds exactly the one transaction that fields are, of each type, emitted or not
abbrev pub TransactionsFound : Type 0
TransactionsFound =
    (emitted : Bool) (fields : List Item) (bytes : List ℕ) (t : Transaction) →
    (transaction_of emitted fields bytes ≡ Some t) ↔ IsTransaction fields bytes emitted t
