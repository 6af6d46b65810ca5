-- Bytes read as the function says, and as nothing else.
use Rattle.std.proofs.Common.{◌≡◌, ℕ, ◌<◌, ◌≤◌, Bool, true, false, List, length, refl, sym, ap, subst, ◌∙◌, arith}
use Rattle.std.proofs.Common.{Result, Ok, Err, IfOk, IfSome, Option, Some, None, if◌then◌else◌, nat_lt}
use Rattle.std.proofs.lemmas.Bool.Decides.{nat_tests}
use Rattle.xo_fields.proofs.Cases.{pick, none_some}
use Rattle.xo_object.specs.declared.transaction.Transaction.{Transaction}
use Rattle.xo_list.specs.Item.{Item}
use Rattle.xo_object.specs.Transaction.{IsTransaction}
use Rattle.xo_list.specs.Value.{IsObject, HasFields}
use Rattle.hk_reading.specs.declared.reading.Reading.{Reading}
use Rattle.hk_reading.specs.declared.reading.Reading.TheVariants as readings
use Rattle.std.specs.declared.alloc.AllocError.{AllocError}
use Rattle.hk_reading.specs.Laws.{ReadsSo, ReadsOnlySo, TransactionsFound}
use Rattle.hk_reading.specs.Parsing.{fields_of}
use Rattle.hk_reading.specs.Reading.{reading, of_fields, of_transaction}
use Rattle.hk_reading.specs.Readings.{Reads, IsMalformed, longest}
use Rattle.hk_reading.specs.Transactions.{transaction_of}
use Rattle.hk_reading.proofs.FieldsFound.{fields_found}
use Rattle.hk_reading.proofs.TransactionsFound.{transaction_found}

pub transactions_found : TransactionsFound
transactions_found emitted fields bytes t =
    ((transaction_found emitted fields bytes).sound t, (transaction_found emitted fields bytes).complete t)

module _ (bytes : List ℕ) (fits : length bytes ≤ longest) where
  -- an object's fields are malformed where no transaction is found
  found_reads : (fields : List Item) → IsObject fields bytes → (found : Option Transaction) →
      transaction_of false fields bytes ≡ found → Reads bytes (of_transaction found)
  found_reads fields object None e = (
    fits,
    record {
      fields = fields;
      object = object;
      wrong = λ t is. none_some t (sym e ∙ (transaction_found false fields bytes).complete t is);
    },
  )
  found_reads fields object (Some t) e =
      (fits, record { fields = fields; object = object; is = (transaction_found false fields bytes).sound t e })

  fields_read : (found : Option (List Item)) → fields_of bytes ≡ found → Reads bytes (of_fields bytes found)
  fields_read None e = (fits, λ (items, object). none_some items (sym e ∙ (fields_found bytes).complete items object))
  fields_read (Some fields) e =
      found_reads fields ((fields_found bytes).sound fields e) (transaction_of false fields bytes) refl

  -- what is read otherwise
  malformed_only : (fields : List Item) → ((t : Transaction) → IsTransaction fields bytes false t → ⊥) →
      (found : Option Transaction) → transaction_of false fields bytes ≡ found →
      of_transaction found ≡ readings.Malformed
  malformed_only fields never None e = refl
  malformed_only fields never (Some t) e = absurd (never t ((transaction_found false fields bytes).sound t e))

  unparsed_only : (HasFields bytes → ⊥) → (found : Option (List Item)) → fields_of bytes ≡ found → found ≡ None
  unparsed_only never None e = refl
  unparsed_only never (Some fields) e = absurd (never (fields, (fields_found bytes).sound fields e))

  of_fields_again : (fields : List Item) → IsObject fields bytes →
      of_fields bytes (fields_of bytes) ≡ of_transaction (transaction_of false fields bytes)
  of_fields_again fields object = ap (of_fields bytes) ((fields_found bytes).complete fields object)

reading_short : (bytes : List ℕ) → length bytes ≤ longest → reading bytes ≡ of_fields bytes (fields_of bytes)
unfolding reading
reading_short bytes fits =
    ap (λ b. if b then readings.TooLong else of_fields bytes (fields_of bytes))
    (let no_more : nat_lt longest (length bytes) ≡ false = grind (arith, nat_tests) in no_more)

reading_long : (bytes : List ℕ) → longest < length bytes → reading bytes ≡ readings.TooLong
unfolding reading
reading_long bytes long =
    ap (λ b. if b then readings.TooLong else of_fields bytes (fields_of bytes))
    (let more : nat_lt longest (length bytes) ≡ true = grind (arith, nat_tests) in more)

pub reads_so : ReadsSo
unfolding reading
reads_so bytes =
    pick (Reads bytes) (nat_lt longest (length bytes)) _ _ (λ e. grind (arith, nat_tests))
    (λ e. fields_read bytes (grind (arith, nat_tests)) (fields_of bytes) refl)

pub reads_only_so : ReadsOnlySo
reads_only_so bytes readings.TooLong long = sym (reading_long bytes long)
reads_only_so bytes readings.Unparsed (fits, never) =
    sym (reading_short bytes fits ∙ ap (of_fields bytes) (unparsed_only bytes fits never (fields_of bytes) refl))
reads_only_so bytes readings.Malformed (fits, h) =
    sym (reading_short bytes fits
    ∙ of_fields_again bytes fits h.fields h.object
    ∙ malformed_only bytes fits h.fields h.wrong (transaction_of false h.fields bytes) refl)
reads_only_so bytes (readings.Transaction t) (fits, h) =
    sym (reading_short bytes fits
    ∙ of_fields_again bytes fits h.fields h.object
    ∙ ap of_transaction ((transaction_found false h.fields bytes).complete t h.is))

-- what is read by the relation is what the function says
pub read_so : (bytes : List ℕ) (result : Result Reading AllocError) → IfOk result (λ r. Reads bytes r) →
    IfOk result (λ r. r ≡ reading bytes)
read_so bytes (Ok r) h = reads_only_so bytes r h
read_so bytes (Err fault) h = tt

-- a refused transaction
pub refused : (bytes other : List ℕ) (fields : List Item) → length bytes ≤ longest → IsObject fields bytes →
    other ≡ bytes → ((t : Transaction) → IsTransaction fields other false t → ⊥) → IsMalformed bytes
refused bytes other fields fits object same never = record {
  fields = fields;
  object = object;
  wrong = λ t is. never t (subst (λ b. IsTransaction fields b false t) (sym same) is);
}

pub at_some : {A : Type 0} (P : A → Type 0) (found : Option A) (x : A) → found ≡ Some x → IfSome found P → P x
at_some P found x e h = subst (λ o. IfSome o P) e h
