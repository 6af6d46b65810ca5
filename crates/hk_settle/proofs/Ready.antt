-- What waits in the queue reads as its transaction, and may be performed.
use Rattle.std.proofs.Common.{◌≡◌, ◌∙◌, ℕ, ◌+◌, ◌<◌, ◌≤◌, ◌^◌, Bool, true, false, List, length, arith, refl, sym, ap}
use Rattle.std.proofs.Common.{subst, Option, Some, None}
use Rattle.std.proofs.Common.{nat_lt, if◌then◌else◌}
use Rattle.std.specs.Option.{option_and_then, unwrap_or}
use Rattle.std.specs.FinMap.{get}
use Rattle.std.proofs.lemmas.Bool.{ltb-false}
use Rattle.xo_list.specs.Item.{Item, lookup}
use Rattle.xo_list.specs.Value.{IsObject}
use Rattle.xo_object.specs.declared.transaction.Transaction.{Transaction}
use Rattle.xo_object.specs.Names as names
use Rattle.xo_object.specs.Transaction.{EmissionIs, IsTransaction}
use Rattle.hk_reading.specs.declared.reading.Reading.{Reading}
use Rattle.hk_reading.specs.declared.reading.Reading.TheVariants as readings
use Rattle.hk_reading.specs.Parsing.{fields_of}
use Rattle.hk_reading.specs.Reading.{of_transaction}
use Rattle.hk_reading.specs.Readings.{longest}
use Rattle.hk_reading.specs.Transactions.{transaction_of}
use Rattle.hk_reading.proofs.FieldsFound.{fields_found}
use Rattle.hk_reading.proofs.TransactionsFound.{transaction_found}
use Rattle.hk_state.specs.declared.entry.Entry.{Entry}
use Rattle.hk_state.specs.declared.entry.Entry.TheVariants as entry
use Rattle.hk_state.specs.declared.key.Key.TheVariants as key
use Rattle.hk_state.specs.declared.ledger.Header.{Header}
use Rattle.hk_state.specs.Ledger.{LedgerValue}
use Rattle.hk_base.specs.declared.ids.AccountId.{AccountId}
use Rattle.hk_base.specs.declared.ids.Hash256.{Hash256}
use Rattle.hk_draft.specs.Extends.{IsEmission}
use Rattle.hk_draft.specs.Reads.{reads_emitted, of_emitted_fields}
use Rattle.hk_events.specs.Good.{IsGood}
use Rattle.hk_events.specs.Laws.{DueAt}
use Rattle.hk_events.specs.Settled.{is_due, passes}
use Rattle.hk_perform.specs.Needs.{IsOfBytes, IsReady}
use Rattle.hk_settle.specs.declared.waiting.Waiting.{Waiting}
use Rattle.hk_settle.specs.Needs.{IsSteady}
use Rattle.hk_settle.specs.Waits.{Waits, read_as}

-- fields and transaction of bytes that read as an emission
record IsReadBy (blob : List ℕ) (t : Transaction) : Type 0 where
  pub short : length blob ≤ longest
  pub fields : List Item
  pub found : fields_of blob ≡ Some fields
  pub is : transaction_of true fields blob ≡ Some t

abbrev transaction_or : Transaction → Reading → Transaction
transaction_or t (readings.Transaction s) = s
transaction_or t other = t

found_by : (o : Option Transaction) (t : Transaction) → of_transaction o ≡ readings.Transaction t → o ≡ Some t
found_by None t h = cc
found_by (Some s) t h = ap (λ r. Some (transaction_or t r)) h

module _ (blob : List ℕ) (t : Transaction) where
  fields_by : length blob ≤ longest → (o : Option (List Item)) → fields_of blob ≡ o →
      of_emitted_fields blob o ≡ readings.Transaction t → IsReadBy blob t
  fields_by short None found h = cc
  fields_by short (Some fields) found h = record {
    short = short;
    fields = fields;
    found = found;
    is = found_by (transaction_of true fields blob) t h;
  }

  short_by : (long : Bool) → nat_lt longest (length blob) ≡ long →
      (if long then readings.TooLong else of_emitted_fields blob (fields_of blob)) ≡ readings.Transaction t →
      IsReadBy blob t
  short_by true long h = cc
  short_by false long h = fields_by (ltb-false longest (length blob) long) (fields_of blob) refl h

  read_by : reads_emitted blob ≡ readings.Transaction t → IsReadBy blob t
  unfolding reads_emitted
  read_by h = short_by (nat_lt longest (length blob)) refl h

  pub reads_as : reads_emitted blob ≡ readings.Transaction t → read_as blob ≡ Some t
  reads_as h =
      let r = read_by h in ap (option_and_then (λ fields. transaction_of true fields blob)) r.found ∙ r.is

-- the number of an emission is 0
none_sent : (details : Option (List ℕ)) (sequence generation burden : ℕ) →
    EmissionIs true details sequence generation burden → sequence < 4294967295
none_sent None sequence generation burden is = absurd is
none_sent (Some details) sequence generation burden is = let none = is.0 in omega (arith, none)

module _ (blob : List ℕ) (first last : ℕ) (e : IsEmission reads_emitted blob first last) where
  pub emission_found : read_as blob ≡ Some e.transaction
  emission_found = reads_as blob e.transaction e.reads_so

  -- what is read is the emission
  module _ (t : Transaction) (is : Some t ≡ read_as blob) where
    same : t ≡ e.transaction
    same = ap (λ o. unwrap_or o t) (is ∙ emission_found)

    abbrev r : IsReadBy blob e.transaction
    r = read_by blob e.transaction e.reads_so

    is_transaction : IsTransaction r.fields blob true e.transaction
    is_transaction = (transaction_found true r.fields blob).sound e.transaction r.is

    pub bytes : t.blob ≡ blob
    bytes = ap (λ (s : Transaction). s.blob) same ∙ is_transaction.blob

    pub reads_back : reads_emitted t.blob ≡ readings.Transaction t
    reads_back = ap reads_emitted bytes ∙ e.reads_so ∙ ap readings.Transaction (sym same)

    of_bytes : IsOfBytes e.transaction
    of_bytes =
        record {
          emitted = true;
          fields = r.fields;
          object = subst (IsObject r.fields) (sym is_transaction.blob) ((fields_found blob).sound r.fields r.found);
          is = subst (λ b. IsTransaction r.fields b true e.transaction) (sym is_transaction.blob) is_transaction;
          short = let one = ap length is_transaction.blob in let two = r.short in omega (arith, one, two);
          burden = e.burden;
          sequence =
              none_sent (lookup names.emit_details r.fields) e.transaction.sequence e.transaction.generation
              e.transaction.burden is_transaction.emission;
        }

    pub of_its_bytes : IsOfBytes t
    of_its_bytes = subst IsOfBytes (sym same) of_bytes

-- what is due is an emission
pub record IsThere (ledger : LedgerValue) (number : ℕ) : Type 0 where
  pub blob : List ℕ
  pub hash : Hash256
  pub first : ℕ
  pub last : ℕ
  pub callback : Option AccountId
  pub at : get ledger.entries (key.Emitted number) ≡ Some (entry.Emitted blob hash first last callback)

there_by : (ledger : LedgerValue) (number : ℕ) (found : Option Entry) →
    get ledger.entries (key.Emitted number) ≡ found →
    passes (is_due ledger.header.seq) found ≡ true → IsThere ledger number
there_by ledger number None at due = cc
there_by ledger number (Some (entry.Emitted blob hash first last callback)) at due = record {
  blob = blob;
  hash = hash;
  first = first;
  last = last;
  callback = callback;
  at = at;
}
there_by ledger number (Some other) at due = cc

pub due_there : (ledger : LedgerValue) (number : ℕ) → DueAt ledger number → IsThere ledger number
due_there ledger number due = there_by ledger number (get ledger.entries (key.Emitted number)) refl due

-- what perform needs to have
pub ready : (ledger : LedgerValue) (number : ℕ) (w : Waiting) → IsSteady ledger → Waits ledger number w →
    IsReady ledger w.setting
ready ledger number w steady waits = record {
  sum = steady.sum;
  reserves = steady.reserves;
  next = steady.next;
  header = waits.header;
  read = waits.read;
}

module _ (ledger : LedgerValue) (number : ℕ) (blob : List ℕ) (hash : Hash256) (first last : ℕ)
    (callback : Option AccountId) (good : IsGood reads_emitted ledger)
    (at : get ledger.entries (key.Emitted number) ≡ Some (entry.Emitted blob hash first last callback)) where
  well : IsEmission reads_emitted blob first last
  well = (good number (entry.Emitted blob hash first last callback) at).1

  pub never_none : None ≡ read_as blob → ⊥
  never_none none = let bad : None ≡ Some well.transaction = none ∙ emission_found blob first last well in cc

  pub waits_so : (t : Transaction) (header : Header) → Some t ≡ read_as blob → header ≡ ledger.header →
      Waits ledger number (record {
        setting = record { transaction = t; header = header };
        hash = hash;
        first = first;
        last = last;
        callback = callback;
      })
  waits_so t header is same = record {
    there =
        at ∙ ap (λ b. Some (entry.Emitted b hash first last callback)) (sym (bytes blob first last well t is));
    header = same;
    reads = reads_back blob first last well t is;
    read = of_its_bytes blob first last well t is;
  }
