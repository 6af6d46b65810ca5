-- What the bytes of a transaction read as, as a function.
use Rattle.std.specs.Prelude.{ℕ, nat_lt, false, List, length, Option, Some, None, if◌then◌else◌}
use Rattle.xo_object.specs.declared.transaction.Transaction.{Transaction}
use Rattle.xo_list.specs.Item.{Item}
use Rattle.hk_reading.specs.declared.reading.Reading.{Reading}
use Rattle.hk_reading.specs.declared.reading.Reading.TheVariants as readings
use Rattle.hk_reading.specs.Parsing.{fields_of}
use Rattle.hk_reading.specs.Readings.{longest}
use Rattle.hk_reading.specs.Transactions.{transaction_of}

abbrev pub of_transaction : Option Transaction → Reading
of_transaction None = readings.Malformed
of_transaction (Some t) = readings.Transaction t

abbrev pub of_fields : List ℕ → Option (List Item) → Reading
of_fields bytes None = readings.Unparsed
of_fields bytes (Some fields) = of_transaction (transaction_of false fields bytes)

unfoldable pub reading : List ℕ → Reading
reading bytes = if nat_lt longest (length bytes) then readings.TooLong else of_fields bytes (fields_of bytes)
