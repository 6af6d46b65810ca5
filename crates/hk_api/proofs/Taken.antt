-- What bytes are taken for, by what a reader answers.
use Rattle.std.proofs.Common.{◌≡◌, ℕ, true, false, List, sym, ap, ◌∙◌, Option, Some, None}
use Rattle.std.specs.Option.{option_and_then, option_or, option_map}
use Rattle.xo_list.specs.Item.{Item}
use Rattle.xo_list.specs.Span.{Seen, items}
use Rattle.xo_object.specs.declared.transaction.Transaction.{Transaction}
use Rattle.hk_reading.specs.Parsing.{fields_of}
use Rattle.hk_reading.specs.Transactions.{transaction_of}
use Rattle.hk_api.specs.Fee.{either_of, transaction_in}

by_fields : (bytes : List ℕ) (o : Option (List Item)) → fields_of bytes ≡ o →
    transaction_in bytes ≡ option_and_then (either_of bytes) o
unfolding transaction_in
by_fields bytes o e = ap (option_and_then (either_of bytes)) e

module _ (bytes : List ℕ) (found : Option Seen) (read : option_map items found ≡ fields_of bytes) where
  pub none_read : found ≡ None → transaction_in bytes ≡ None
  none_read none = by_fields bytes None (sym read ∙ ap (option_map items) none)

  module _ (object : Seen) (some : found ≡ Some object) (same : object.bytes ≡ bytes) where
    by_object : transaction_in bytes ≡
        option_or (transaction_of false (items object) object.bytes) (transaction_of true (items object) object.bytes)
    by_object =
        by_fields bytes (Some (items object)) (sym read ∙ ap (option_map items) some)
        ∙ ap (λ b. option_or (transaction_of false (items object) b) (transaction_of true (items object) b)) (sym same)

    pub sent_read : (sent : Option Transaction) (t : Transaction) →
        sent ≡ transaction_of false (items object) object.bytes →
        sent ≡ Some t → transaction_in bytes ≡ Some t
    sent_read sent t is there =
        by_object ∙ ap (λ o. option_or o (transaction_of true (items object) object.bytes)) (sym is ∙ there)

    pub emitted_read : (sent emitted : Option Transaction) → sent ≡ transaction_of false (items object) object.bytes →
        sent ≡ None → emitted ≡ transaction_of true (items object) object.bytes → transaction_in bytes ≡ emitted
    emitted_read sent emitted is none also =
        by_object ∙ ap (λ o. option_or o (transaction_of true (items object) object.bytes)) (sym is ∙ none) ∙ sym also
