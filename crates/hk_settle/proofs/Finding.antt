-- What bytes are taken for, by what a reader answers.
use Rattle.std.proofs.Common.{◌≡◌, true, List, ℕ, sym, ap, ◌∙◌, Option, Some, None}
use Rattle.std.specs.Option.{option_and_then, option_map}
use Rattle.xo_list.specs.Item.{Item}
use Rattle.xo_list.specs.Span.{Seen, items}
use Rattle.xo_object.specs.declared.transaction.Transaction.{Transaction}
use Rattle.hk_reading.specs.Parsing.{fields_of}
use Rattle.hk_reading.specs.Transactions.{transaction_of}
use Rattle.hk_settle.specs.Waits.{read_as}

module _ (bytes : List ℕ) (found : Option Seen) (read : option_map items found ≡ fields_of bytes) where
  abbrev after : Option (List Item) → Option Transaction
  after fields = option_and_then (λ fs. transaction_of true fs bytes) fields

  pub none_read : found ≡ None → None ≡ read_as bytes
  none_read none = sym (ap after (sym read ∙ ap (option_map items) none))

  pub object_read : (object : Seen) → found ≡ Some object → object.bytes ≡ bytes →
      transaction_of true (items object) object.bytes ≡ read_as bytes
  object_read object some same =
      ap (λ b. transaction_of true (items object) b) same
      ∙ sym (ap after (sym read ∙ ap (option_map items) some))
