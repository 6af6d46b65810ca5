-- Values of an object's fields fit their kinds.
use Rattle.std.proofs.Common.{◌≡◌, ℕ, Bool, true, false, List, [], ◌∷◌, ◌++◌, refl, sym, ap, subst, ◌∙◌, arith}
use Rattle.std.proofs.Common.{append-nil, drop, Option, Some, None, Result, Err, if◌then◌else◌}
use Rattle.std.proofs.lemmas.Bool.Decides.{nat_tests}
use Rattle.xo_fields.specs.declared.field.FieldId.{FieldId}
use Rattle.xo_fields.specs.declared.form.Form.{Form}
use Rattle.xo_fields.specs.declared.amount.Amount.{Amount}
use Rattle.xo_fields.specs.declared.amount.AmountRead.TheVariants as amounts
use Rattle.xo_fields.specs.Amount.{IsAmount, AmountGives, IsValid, amount_bytes}
use Rattle.xo_fields.specs.Field.{number}
use Rattle.xo_fields.specs.Laws.{OneAmount}
use Rattle.xo_fields.specs.Spelling.{Begins}
use Rattle.xo_fields.proofs.Cases.{some_same, none_some}
use Rattle.hk_base.specs.declared.ids.AccountId.{AccountId}
use Rattle.std.specs.Option.{option_map}
use Rattle.xo_object.specs.Transaction.{IsAmountOf, PaymentIs}
use Rattle.std.proofs.lemmas.List.{take-append-drop}
use Rattle.xo_fields.specs.Form.{form_at}
use Rattle.xo_object.specs.declared.reading.TransactionFault.{TransactionFault}
use Rattle.xo_list.specs.Item.{Item, lookup, is_same}
use Rattle.xo_list.specs.List.{ListFits}
use Rattle.xo_list.specs.Value.{IsValue, IsObject}
use Rattle.xo_list.proofs.ListLemmas.{listed}

abbrev pub account_id : List ℕ → AccountId
account_id bytes = record { 0 = bytes }

kind_same : (f g : FieldId) → is_same f g ≡ true → f.kind ≡ g.kind
kind_same f g e = grind (arith, nat_tests)

value_fits : (last : ℕ) (fields : List Item) (f : FieldId) (form : Form) (v : List ℕ) →
    ListFits (IsValue 10) false last fields → form_at f.kind ≡ Some form → lookup f fields ≡ Some v → IsValue 10 form v
value_fits last [] f form v h k e = absurd (cc)
value_fits last (x ∷ xs) f form v (g, h) k e =
    ways (is_same x.field f) refl e (λ later. value_fits (number x.field) xs f form v h k later)
  where
    ways : (same : Bool) → is_same x.field f ≡ same → (if same then Some x.value else lookup f xs) ≡ Some v →
        (lookup f xs ≡ Some v → IsValue 10 form v) → IsValue 10 form v
    ways true s found later =
        let kinds : x.field.kind ≡ f.kind = kind_same x.field f s in
        let forms : g.form ≡ form = some_same g.form form (sym g.known ∙ ap form_at kinds ∙ k) in
        subst (IsValue 10 form) (some_same x.value v found) (subst (λ o. IsValue 10 o x.value) forms g.value)
    ways false s found later = later found

pub lookup_fits : (bytes : List ℕ) (fields : List Item) (f : FieldId) (form : Form) (v : List ℕ) →
    IsObject fields bytes → form_at f.kind ≡ Some form → lookup f fields ≡ Some v → IsValue 10 form v
lookup_fits bytes fields f form v h k e =
    value_fits 0 fields f form v (listed (IsValue 10) false 0 fields bytes h).0 k e

-- the amount that bytes are
pub amount_of : OneAmount → (value : List ℕ) (a : Amount) (size : ℕ) → IsAmount value →
    AmountGives value (amounts.Amount a size) → IsValid a × (value ≡ amount_bytes a)
amount_of one value a size (b, valid, is) h =
    let rest : (a ≡ b) × (drop size value ≡ []) =
    one a b (drop size value) [] h.0 valid
    (ap (λ x. x ++ drop size value) (sym h.2) ∙ take-append-drop size value ∙ is ∙ sym (append-nil (amount_bytes b))) in
    (h.0, is ∙ sym (ap amount_bytes rest.0))

pub amount_begins : (value : List ℕ) → IsAmount value → Begins IsAmount value
amount_begins value is = (value, [], is, sym (append-nil value))

pub given_amount : (found : Option (List ℕ)) (value : List ℕ) (a : Amount) → found ≡ Some value →
    IsValid a × (value ≡ amount_bytes a) → IsAmountOf found (Some a)
given_amount found value a e h = subst (λ o. IsAmountOf o (Some a)) (sym e) h

-- what a field says is one account, and one amount
pub same_account : (a b : Option AccountId) (found : Option (List ℕ)) → found ≡ option_map (λ (x : AccountId). x.0) a →
    found ≡ option_map (λ (x : AccountId). x.0) b → a ≡ b
same_account None None found h k = refl
same_account None (Some y) found h k = none_some y.0 (sym h ∙ k)
same_account (Some x) None found h k = none_some x.0 (sym k ∙ h)
same_account (Some x) (Some y) found h k = ap (λ bytes. Some (account_id bytes)) (some_same x.0 y.0 (sym h ∙ k))

pub same_amount : OneAmount → (found : Option (List ℕ)) (a b : Option Amount) → IsAmountOf found a →
    IsAmountOf found b → a ≡ b
same_amount one None None None h k = refl
same_amount one None None (Some b) h k = absurd k
same_amount one None (Some a) b h k = absurd h
same_amount one (Some v) None b h k = absurd h
same_amount one (Some v) (Some a) None h k = absurd k
same_amount one (Some v) (Some a) (Some b) h k =
    let same : (a ≡ b) × ([] ≡ []) =
    one a b [] [] h.0 k.0 (append-nil (amount_bytes a) ∙ sym h.1 ∙ k.1 ∙ sym (append-nil (amount_bytes b))) in
    ap Some same.0

pub number_same : (found : Option ℕ) (m n : ℕ) → found ≡ Some m → found ≡ Some n → m ≡ n
number_same found m n h k = some_same m n (sym h ∙ k)

pub paid_same : (kind other : ℕ) (a b : Option AccountId) (x y : Option Amount) → kind ≡ other → a ≡ b → x ≡ y →
    PaymentIs other b y → PaymentIs kind a x
paid_same kind other a b x y k e f h =
    subst (λ n. PaymentIs n a x) (sym k)
    (subst (λ c. PaymentIs other c x) (sym e) (subst (λ z. PaymentIs other b z) (sym f) h))

-- a refusal that is handed on
pub same_refusal : (A B : Type 0) (f g : TransactionFault) → ◌≡◌ {A = Result A TransactionFault} (Err f) (Err g) →
    ◌≡◌ {A = Result B TransactionFault} (Err f) (Err g)
same_refusal A B f g e = let same : f ≡ g = cc in ap Err same
