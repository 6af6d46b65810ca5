-- What is accepted as an emission may wait in the queue.
use Rattle.std.proofs.Common.{◌≡◌, ℕ, ◌≤◌, true, false, List, length, ap, ◌∙◌, arith, Some, nat_lt, if◌then◌else◌}
use Rattle.std.proofs.lemmas.Bool.Decides.{nat_tests}
use Rattle.xo_fields.specs.Laws.{OneHeader}
use Rattle.xo_list.specs.Item.{Item}
use Rattle.xo_object.specs.declared.transaction.Transaction.{Transaction}
use Rattle.hk_reading.specs.Parsing.{fields_of}
use Rattle.hk_reading.specs.Reading.{of_transaction}
use Rattle.hk_reading.specs.Readings.{longest}
use Rattle.hk_reading.specs.Transactions.{transaction_of}
use Rattle.hk_reading.specs.declared.reading.Reading.TheVariants as readings
use Rattle.hk_reading.proofs.FieldsFound.{fields_found}
use Rattle.hk_reading.proofs.TransactionsFound.{transaction_found}
use Rattle.hk_emit.specs.Accepted.{IsEmission}
use Rattle.hk_emit.proofs.Judging.{accepted_emission}
use Rattle.hk_draft.specs.Reads.{reads_emitted, of_emitted_fields}
use Rattle.hk_draft.specs.Laws.{AcceptedEmits}

reads_so : (blob : List ℕ) (fields : List Item) (t : Transaction) → length blob ≤ longest →
    fields_of blob ≡ Some fields →
    transaction_of true fields blob ≡ Some t → reads_emitted blob ≡ readings.Transaction t
unfolding reads_emitted
reads_so blob fields t short found is =
    ap (λ b. if b then readings.TooLong else of_emitted_fields blob (fields_of blob))
    (let fits : nat_lt longest (length blob) ≡ false = grind (arith, nat_tests) in fits)
    ∙ ap (of_emitted_fields blob) found ∙ ap of_transaction is

pub accepted_waits : OneHeader → AcceptedEmits
accepted_waits one blob context nonces e some small light h =
    let r : IsEmission blob context nonces e = accepted_emission one blob context nonces e h in
    let found : transaction_of true r.fields blob ≡ Some e.transaction =
    (transaction_found true r.fields blob).complete e.transaction r.is in
    record {
      well = record {
        transaction = e.transaction;
        reads_so =
            ap reads_emitted r.is.blob
            ∙ reads_so blob r.fields e.transaction r.short ((fields_found blob).complete r.fields r.object) found;
        other = r.other;
        emitted = omega (arith, r.generation small, some);
        generation = r.few;
        burden = let same = r.burden (omega (arith, light)) in omega (arith, same, light);
        order = r.order;
      };
      later = r.later;
    }
