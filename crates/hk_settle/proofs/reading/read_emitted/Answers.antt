use Rattle.std.proofs.Common.{◌≡◌, ◌∙◌, ap, sym, true, Err}
use Rattle.xo_list.specs.Span.{items}
use Rattle.xo_object.specs.Transaction.{IsTransaction}
use Rattle.hk_reading.specs.Transactions.{transaction_of}
use Rattle.hk_reading.proofs.Finding.{unfound}
use Rattle.hk_reading.proofs.OneReading.{at_some}
use Rattle.hk_reading.proofs.TransactionsFound.{transaction_found}
use Rattle.hk_settle.proofs.Finding.{object_read}
use Rattle.hk_settle.proofs.reading.read_emitted.Goals as goal

pub returns : goal.returns
returns c =
    let object = c.in-Some.object in
    let bytes = c.args.bytes.now in
    record {
      found =
          sym (unfound (IsTransaction (items object) object.bytes true)
          (transaction_of true (items object) object.bytes) (transaction_found true (items object) object.bytes)
          (c.in-Err-Malformed.ensures.malformed (ap Err c.in-Err-Malformed.field-0-is)))
          ∙ object_read bytes c.in_ok-object.field-0 c.in_ok-object.ensures.found object c.in-Some.is
          (at_some (λ found. found.bytes ≡ bytes) c.in_ok-object.field-0 object c.in-Some.is
          c.in_ok-object.ensures.same);
    }
