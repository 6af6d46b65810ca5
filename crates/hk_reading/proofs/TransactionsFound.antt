-- The transaction that fields are is found.
use Rattle.std.proofs.Common.{◌≡◌, ℕ, ◌≤◌, ◌==◌, ◌||◌, ◌⊎◌, inl, inr, Bool, true, false, not, List, [], refl, sym, ap}
use Rattle.std.proofs.Common.{subst, ◌∙◌, arith, Option, Some, None, is_some, IsTrue}
use Rattle.std.specs.Prelude.{ℤ, pos, negsuc, Decides, unwrap_or}
use Rattle.std.specs.Option.{option_and_then, option_map}
use Rattle.std.proofs.lemmas.Bool.Decides.{Decides-and, Decides-or, Decides-not, Decides-like}
use Rattle.hk_base.specs.declared.ids.AccountId.{AccountId}
use Rattle.xo_fields.specs.declared.amount.Amount.{Amount}
use Rattle.xo_fields.specs.declared.amount.Amount.TheVariants.{Native, Issued}
use Rattle.xo_fields.proofs.Cases.{some_same}
use Rattle.xo_object.specs.declared.transaction.HookItem.{HookItem}
use Rattle.xo_object.specs.declared.transaction.Parameter.{Parameter}
use Rattle.xo_object.specs.declared.transaction.Transaction.{Transaction}
use Rattle.xo_list.specs.Item.{Item, lookup}
use Rattle.xo_object.specs.Names as names
use Rattle.xo_object.specs.Transaction.{number16, number32, IsAmountOf, IsPositive, PaymentIs, HooksFor, HooksAre}
use Rattle.xo_object.specs.Transaction.{IsTransaction}
use Rattle.hk_reading.specs.Amounts.{amount_of}
use Rattle.hk_reading.specs.Details.{Said, said_for}
use Rattle.hk_reading.specs.Lists.{bytes_in, account_of}
use Rattle.hk_reading.specs.Transactions.{drops_in, is_native, amount_in, is_absent_or_amount, is_great, is_positive}
use Rattle.hk_reading.specs.Transactions.{is_payment, Parts, hooks_for, kind_in, parts_of, guess, has_all, is_right}
use Rattle.hk_reading.specs.Transactions.{tested, transaction_of}
use Rattle.hk_reading.proofs.AmountsFound.{amount_found}
use Rattle.hk_reading.proofs.DetailsFound.{Says, says_found, IsNumbered, numbered_so, emission_there, emission_again}
use Rattle.hk_reading.proofs.Finding.{Finds, finds_one, finds_then, finds_map, finds_none, nat_same, nat_below}
use Rattle.hk_reading.proofs.Finding.{nat_up_to}
use Rattle.hk_reading.proofs.HookItemsFound.{hooks_found}
use Rattle.hk_reading.proofs.ListsFound.{itself, some_value, value_of, is_there, account_there, account_again, AreGiven}
use Rattle.hk_reading.proofs.ListsFound.{given_parameters_found}

-- amounts
fee_there : (value : Option (List ℕ)) → is_native (amount_in value) ≡ true →
    IsAmountOf value (Some (Native (drops_in (amount_in value))))
fee_there None e = absurd cc
fee_there (Some value) e = there (amount_of value) refl e
  where
    there : (o : Option Amount) → amount_of value ≡ o → is_native o ≡ true →
        IsAmountOf (Some value) (Some (Native (drops_in o)))
    there None h native = absurd cc
    there (Some (Native drops)) h native = (amount_found value).sound (Native drops) h
    there (Some (Issued v currency issuer)) h native = absurd cc

amount_there : (value : Option (List ℕ)) → is_absent_or_amount value ≡ true → IsAmountOf value (amount_in value)
amount_there None e = tt
amount_there (Some value) e = there (amount_of value) refl e
  where
    there : (o : Option Amount) → amount_of value ≡ o → is_some o ≡ true → IsAmountOf (Some value) o
    there None h some = absurd cc
    there (Some a) h some = (amount_found value).sound a h

amount_again : (value : Option (List ℕ)) (amount : Option Amount) → IsAmountOf value amount → amount_in value ≡ amount
amount_again None None h = refl
amount_again None (Some a) h = absurd h
amount_again (Some value) None h = absurd h
amount_again (Some value) (Some a) h = (amount_found value).complete a h

amount_is_some : (value : Option (List ℕ)) (amount : Option Amount) → IsAmountOf value amount →
    is_absent_or_amount value ≡ true
amount_is_some None amount h = refl
amount_is_some (Some value) None h = absurd h
amount_is_some (Some value) (Some a) h = ap (λ (o : Option Amount). is_some o) ((amount_found value).complete a h)

-- payments
great_so : (value : ℤ) → Decides (is_great value) ((bits : ℕ) × (value ≡ pos bits) × (4611686018427387904 ≤ bits))
great_so (pos bits) = (
  λ e.
      (bits, refl, (nat_up_to 4611686018427387904 bits).0 e),
  λ (b, e, h). (nat_up_to 4611686018427387904 bits).1 (let same : bits ≡ b = cc in omega arith),
)
great_so (negsuc n) = (λ e. absurd cc, λ (b, e, h). absurd cc)

positive_so : (amount : Amount) → Decides (is_positive amount) (IsPositive amount)
positive_so (Native drops) = nat_below 0 drops
positive_so (Issued value currency issuer) = great_so value

either_way : (kind : ℕ) (P : Type 0) → (kind ≡ 0 → P) → ((kind ≡ 0 → ⊥) ⊎ P)
either_way kind P h = there (kind == 0) refl
  where
    there : (b : Bool) → (kind == 0) ≡ b → (kind ≡ 0 → ⊥) ⊎ P
    there true e = inr (h ((nat_same kind 0).0 e))
    there false e = inl (λ z. let yes_is : (kind == 0) ≡ true = (nat_same kind 0).1 z in absurd cc)

from_either : (kind : ℕ) (P : Type 0) → ((kind ≡ 0 → ⊥) ⊎ P) → kind ≡ 0 → P
from_either kind P (inl n) e = absurd (n e)
from_either kind P (inr p) e = p

payment_so : (kind : ℕ) (destination : Option AccountId) (amount : Option Amount) →
    Decides (is_payment kind destination amount) (PaymentIs kind destination amount)
payment_so kind None amount = Decides-not (kind == 0) (nat_same kind 0)
payment_so kind (Some account) None = Decides-not (kind == 0) (nat_same kind 0)
payment_so kind (Some account) (Some amount) =
    Decides-like (not (kind == 0) || is_positive amount) (from_either kind (IsPositive amount))
    (either_way kind (IsPositive amount))
    (Decides-or _ _ (Decides-not (kind == 0) (nat_same kind 0)) (positive_so amount))

-- types
abbrev pub IsKnown : ℕ → Type 0
IsKnown kind = IsTrue (kind == 0 || kind == 3 || kind == 22 || kind == 99)

items_found : (is_set : Bool) (bytes : Option (List ℕ)) → Finds (HooksFor is_set bytes) (hooks_for is_set bytes)
items_found false bytes = record {
  sound = λ items e. sym (some_same [] items e);
  complete = λ items e. ap Some (sym e);
}
items_found true None = finds_none (HooksFor true None) (λ items h. h)
items_found true (Some bytes) = hooks_found bytes

-- the tests of the fields, and of the transaction
abbrev pub HasAll : List Item → Type 0
HasAll fields =
    (is_some (number16 names.transaction_type fields) ≡ true) × ((is_some (lookup names.account fields) ≡ true)
    × ((is_some (number32 names.sequence fields) ≡ true)
    × ((is_native (amount_in (lookup names.fee fields)) ≡ true)
    × (is_some (lookup names.signing_pub_key fields) ≡ true))))

abbrev pub IsRight : Bool → List Item → Transaction → Type 0
IsRight emitted fields t =
    IsKnown t.kind
    × ((is_absent_or_amount (lookup names.amount fields) ≡ true)
    × (PaymentIs t.kind t.destination t.amount × IsNumbered emitted t.sequence))

has_all_so : (fields : List Item) → Decides (has_all fields) (HasAll fields)
has_all_so fields =
    Decides-and _ _ (itself (is_some (number16 names.transaction_type fields))) (Decides-and _ _
    (itself (is_some (lookup names.account fields))) (Decides-and _ _
    (itself (is_some (number32 names.sequence fields)))
    (Decides-and _ _ (itself (is_native (amount_in (lookup names.fee fields))))
    (itself (is_some (lookup names.signing_pub_key fields))))))

is_right_so : (emitted : Bool) (fields : List Item) (t : Transaction) →
    Decides (is_right emitted fields t) (IsRight emitted fields t)
is_right_so emitted fields t =
    Decides-and _ _ (itself (t.kind == 0 || t.kind == 3 || t.kind == 22 || t.kind == 99)) (Decides-and _ _
    (itself (is_absent_or_amount (lookup names.amount fields)))
    (Decides-and _ _ (payment_so t.kind t.destination t.amount) (numbered_so emitted t.sequence)))

module _ (emitted : Bool) (fields : List Item) (bytes : List ℕ) where
  -- lists and details
  pub record PartsAre (parts : Parts) : Type 0 where
    pub parameters : AreGiven (lookup names.hook_parameters fields) parts.parameters
    pub hooks : HooksAre (kind_in fields) (lookup names.hooks fields) parts.hooks
    pub said : Says emitted (lookup names.emit_details fields) parts.said

  abbrev pub WithSaid : List Parameter → List HookItem → Parts → Type 0
  WithSaid parameters hooks parts =
      Says emitted (lookup names.emit_details fields) parts.said
      × ((parameters ≡ parts.parameters) × (hooks ≡ parts.hooks))

  abbrev pub WithHooks : List Parameter → Parts → Type 0
  WithHooks parameters parts =
      HooksAre (kind_in fields) (lookup names.hooks fields) parts.hooks
      × (Says emitted (lookup names.emit_details fields) parts.said × (parameters ≡ parts.parameters))

  parts_with : List Parameter → List HookItem → Said → Parts
  parts_with parameters hooks said = record { parameters = parameters; hooks = hooks; said = said }

  said_too : (parameters : List Parameter) (hooks : List HookItem) →
      Finds (WithSaid parameters hooks) (option_map
      (λ said. record { parameters = parameters; hooks = hooks; said = said })
      (said_for emitted (lookup names.emit_details fields)))
  said_too parameters hooks =
      finds_map (Says emitted (lookup names.emit_details fields)) (WithSaid parameters hooks)
      (said_for emitted (lookup names.emit_details fields))
      (λ said. record { parameters = parameters; hooks = hooks; said = said })
      (says_found emitted (lookup names.emit_details fields)) (λ said h. (h, (refl, refl)))
      (λ parts (h, (p, k)). (parts.said, h, λ i. record { parameters = p i; hooks = k i; said = parts.said }))

  hooks_too : (parameters : List Parameter) →
      Finds (WithHooks parameters) (option_and_then (λ hooks.
      option_map (λ said. record { parameters = parameters; hooks = hooks; said = said })
      (said_for emitted (lookup names.emit_details fields)))
      (hooks_for (kind_in fields == 22) (lookup names.hooks fields)))
  hooks_too parameters =
      finds_then (HooksAre (kind_in fields) (lookup names.hooks fields)) (WithSaid parameters) (WithHooks parameters) _
      _ (items_found (kind_in fields == 22) (lookup names.hooks fields)) (λ hooks h. said_too parameters hooks)
      (λ hooks parts h (s, (p, k)). (subst (HooksAre (kind_in fields) (lookup names.hooks fields)) k h, (s, p)))
      (λ parts (h, (s, p)). (parts.hooks, h, (s, (p, refl))))

  parts_found : Finds PartsAre (parts_of emitted fields)
  parts_found =
      finds_then (AreGiven (lookup names.hook_parameters fields)) WithHooks PartsAre _ _
      (given_parameters_found (lookup names.hook_parameters fields)) (λ parameters h. hooks_too parameters)
      (λ parameters parts g (h, (s, p)).
      record { parameters = subst (AreGiven (lookup names.hook_parameters fields)) p g; hooks = h; said = s })
      (λ parts h. (parts.parameters, h.parameters, (h.hooks, (h.said, refl))))

  guess_there : (parts : Parts) → PartsAre parts → HasAll fields → IsRight emitted fields (guess fields bytes parts) →
      IsTransaction fields bytes emitted (guess fields bytes parts)
  guess_there parts are (kind, (account, (sequence, (fee, key)))) (known, (amount, (payment, numbered))) =
      let t : Transaction = guess fields bytes parts in record {
        common = record {
          kind_is = some_value (number16 names.transaction_type fields) 0 kind;
          known = known;
          account_is = some_value (lookup names.account fields) [] account;
          sequence_is = some_value (number32 names.sequence fields) 0 sequence;
          fee_is = fee_there (lookup names.fee fields) fee;
          key = key;
        };
        paid = record {
          destination_is = account_there (lookup names.destination fields);
          amount_is = amount_there (lookup names.amount fields) amount;
          payment = payment;
        };
        first = refl;
        last = refl;
        other_amounts = refl;
        hooks = are.hooks;
        given = are.parameters.0;
        given_parameters = are.parameters.1;
        parameters = sym are.parameters.2;
        emission = emission_there emitted (lookup names.emit_details fields) t.sequence parts.said numbered are.said;
        blob = refl;
        id = refl;
      }

  has_all_of : (t : Transaction) → IsTransaction fields bytes emitted t → HasAll fields
  has_all_of t h = (
    is_there (number16 names.transaction_type fields) t.kind h.common.kind_is,
    (
      is_there (lookup names.account fields) t.account.0 h.common.account_is,
      (
        is_there (number32 names.sequence fields) t.sequence h.common.sequence_is,
        (ap is_native (amount_again (lookup names.fee fields) (Some (Native t.fee)) h.common.fee_is), h.common.key),
      ),
    ),
  )

  abbrev pub parts_in : Transaction → Parts
  parts_in t = record { parameters = t.parameters; hooks = t.hooks; said = (t.generation, t.burden) }

  kind_again : (t : Transaction) → IsTransaction fields bytes emitted t → kind_in fields ≡ t.kind
  kind_again t h = value_of (number16 names.transaction_type fields) 0 t.kind h.common.kind_is

  parts_again : (t : Transaction) → IsTransaction fields bytes emitted t → PartsAre (parts_in t)
  parts_again t h = record {
    parameters = (h.given, h.given_parameters, sym h.parameters);
    hooks = subst (λ kind. HooksAre kind (lookup names.hooks fields) t.hooks) (sym (kind_again t h)) h.hooks;
    said = (emission_again emitted (lookup names.emit_details fields) t.sequence t.generation t.burden h.emission).1;
  }

  right_of : (t : Transaction) → IsTransaction fields bytes emitted t → IsRight emitted fields t
  right_of t h = (
    h.common.known,
    (
      amount_is_some (lookup names.amount fields) t.amount h.paid.amount_is,
      (
        h.paid.payment,
        (emission_again emitted (lookup names.emit_details fields) t.sequence t.generation t.burden h.emission).0,
      ),
    ),
  )

  guess_again : (t : Transaction) → IsTransaction fields bytes emitted t → guess fields bytes (parts_in t) ≡ t
  guess_again t h =
      let account : bytes_in names.account fields ≡ t.account.0 =
      value_of (lookup names.account fields) [] t.account.0 h.common.account_is in
      let destination : option_map account_of (lookup names.destination fields) ≡ t.destination =
      ap (option_map account_of) h.paid.destination_is ∙ account_again t.destination in
      let sequence : unwrap_or (number32 names.sequence fields) 0 ≡ t.sequence =
      value_of (number32 names.sequence fields) 0 t.sequence h.common.sequence_is in
      let fee : drops_in (amount_in (lookup names.fee fields)) ≡ t.fee =
      ap drops_in (amount_again (lookup names.fee fields) (Some (Native t.fee)) h.common.fee_is) in
      let amount : amount_in (lookup names.amount fields) ≡ t.amount =
      amount_again (lookup names.amount fields) t.amount h.paid.amount_is in
      λ i. record {
        kind = kind_again t h i;
        account = account_of (account i);
        destination = destination i;
        sequence = sequence i;
        fee = fee i;
        first = h.first i;
        last = h.last i;
        amount = amount i;
        parameters = t.parameters;
        hooks = t.hooks;
        other_amounts = sym h.other_amounts i;
        generation = t.generation;
        burden = t.burden;
        blob = sym h.blob i;
        id = sym h.id i;
      }

  abbrev pub IsGuess : Parts → Transaction → Type 0
  IsGuess parts t = (HasAll fields × IsRight emitted fields (guess fields bytes parts)) × (guess fields bytes parts ≡ t)

  tested_found : (parts : Parts) → Finds (IsGuess parts) (tested emitted fields (guess fields bytes parts))
  tested_found parts =
      finds_one (IsGuess parts) _ _
      (Decides-and _ _ (has_all_so fields) (is_right_so emitted fields (guess fields bytes parts))) (λ h. (h, refl))
      (λ t h. h)

  found_again : (t : Transaction) → IsTransaction fields bytes emitted t →
      (parts : Parts) × PartsAre parts × IsGuess parts t
  found_again t h =
      let same : guess fields bytes (parts_in t) ≡ t = guess_again t h in
      (parts_in t, parts_again t h, ((has_all_of t h, subst (IsRight emitted fields) (sym same) (right_of t h)), same))

  pub transaction_found : Finds (IsTransaction fields bytes emitted) (transaction_of emitted fields bytes)
  unfolding transaction_of
  transaction_found =
      finds_then PartsAre IsGuess (IsTransaction fields bytes emitted) _ _ parts_found (λ parts h. tested_found parts)
      (λ parts t are ((all, right), same).
      subst (IsTransaction fields bytes emitted) same (guess_there parts are all right)) found_again
