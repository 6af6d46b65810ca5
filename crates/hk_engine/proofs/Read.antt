-- What is read as a transaction, as it is sent or as a hook emits it, has items within the limits of Installs.
use Rattle.std.proofs.Common.{◌≡◌, refl, ℕ, Bool, true, false, List, length, Option, Some, None, nat_lt, if◌then◌else◌}
use Rattle.xo_list.specs.Item.{Item}
use Rattle.xo_object.specs.declared.transaction.Transaction.{Transaction}
use Rattle.hk_reading.specs.declared.reading.Reading.{Reading}
use Rattle.hk_reading.specs.declared.reading.Reading.TheVariants as readings
use Rattle.hk_reading.specs.Laws.{ReadsSo, TransactionsFound}
use Rattle.hk_reading.specs.Parsing.{fields_of}
use Rattle.hk_reading.specs.Reading.{of_transaction, reading}
use Rattle.hk_reading.specs.Readings.{Reads, longest}
use Rattle.hk_reading.specs.Transactions.{transaction_of}
use Rattle.hk_draft.specs.Reads.{reads_emitted, of_emitted_fields}
use Rattle.hk_events.specs.Complete.{ItemsFit, TransactionsFit}

module _ (fit : TransactionsFit) (blob : List ℕ) where
  so_fits : (r : Reading) → Reads blob r → ItemsFit r
  so_fits readings.TooLong reads = tt
  so_fits readings.Unparsed reads = tt
  so_fits readings.Malformed reads = tt
  so_fits (readings.Transaction t) reads = fit reads.1.fields blob false t reads.1.is

  pub sent_fits : ReadsSo → ItemsFit (reading blob)
  sent_fits so = so_fits (reading blob) (so blob)

  module _ (found : TransactionsFound) where
    found_fits : (fields : List Item) (o : Option Transaction) → transaction_of true fields blob ≡ o →
        ItemsFit (of_transaction o)
    found_fits fields None is = tt
    found_fits fields (Some t) is = fit fields blob true t ((found true fields blob t).0 is)

    fields_fit : (o : Option (List Item)) → ItemsFit (of_emitted_fields blob o)
    fields_fit None = tt
    fields_fit (Some fields) = found_fits fields (transaction_of true fields blob) refl

    short_fits : (long : Bool) → ItemsFit (if long then readings.TooLong else of_emitted_fields blob (fields_of blob))
    short_fits true = tt
    short_fits false = fields_fit (fields_of blob)

    pub emitted_fits : ItemsFit (reads_emitted blob)
    unfolding reads_emitted
    emitted_fits = short_fits (nat_lt longest (length blob))
