-- What the bytes of an emitted transaction read as, as a function (this project's own; the limit is its own too).
use Rattle.std.specs.Prelude.{ℕ, nat_lt, true, List, length, Option, Some, None, if◌then◌else◌}
use Rattle.xo_list.specs.Item.{Item}
use Rattle.hk_reading.specs.declared.reading.Reading.{Reading}
use Rattle.hk_reading.specs.declared.reading.Reading.TheVariants as readings
use Rattle.hk_reading.specs.Parsing.{fields_of}
use Rattle.hk_reading.specs.Reading.{of_transaction}
use Rattle.hk_reading.specs.Readings.{longest}
use Rattle.hk_reading.specs.Transactions.{transaction_of}

abbrev pub of_emitted_fields : List ℕ → Option (List Item) → Reading
of_emitted_fields bytes None = readings.Unparsed
of_emitted_fields bytes (Some fields) = of_transaction (transaction_of true fields bytes)

unfoldable pub reads_emitted : List ℕ → Reading
reads_emitted bytes =
    if nat_lt longest (length bytes) then readings.TooLong else of_emitted_fields bytes (fields_of bytes)
