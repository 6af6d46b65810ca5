-- New code is a part of the transaction that brings it, so the fee for it is at most 10 drops for each of its bytes.
use Rattle.std.proofs.Common.{◌≡◌, ap, sym, subst, refl, arith, ℕ, ◌+◌, ◌*◌, ◌≤◌, ◌==◌, Bool, true, false}
use Rattle.std.proofs.Common.{if◌then◌else◌, List, [], ◌∷◌, ◌++◌, length, length-append, Option, Some, None}
use Rattle.std.specs.Option.{unwrap_or}
use Rattle.xo_fields.specs.declared.field.FieldId.{FieldId}
use Rattle.xo_fields.specs.declared.form.Form.{Form}
use Rattle.xo_fields.specs.declared.form.Form.TheVariants.{Fixed, Money, Blob, Account, Object, Array}
use Rattle.xo_fields.specs.Form.{form_at}
use Rattle.xo_fields.specs.Header.{header}
use Rattle.xo_fields.specs.Length.{prefix}
use Rattle.xo_list.specs.Item.{Item, body_of, spell, is_same, lookup}
use Rattle.xo_list.specs.Value.{IsObject}
use Rattle.xo_list.proofs.ListLemmas.{spelling_one, array_one}
use Rattle.xo_object.specs.declared.transaction.HookItem.{HookItem}
use Rattle.xo_object.specs.declared.transaction.Transaction.{Transaction}
use Rattle.xo_object.specs.Names as names
use Rattle.xo_object.specs.Transaction.{Each, IsElement, Which, noop, delete, create, install, delete_namespace, update}
use Rattle.xo_object.specs.Transaction.{which, Form as HookForm, HookIs, HooksFor, IsTransaction}
use Rattle.hk_reading.specs.Readings.{longest}
use Rattle.hk_state.specs.Fees.{item_fee, code_fee}
use Rattle.hk_items.specs.Needs.{CodesFit}

in_body : (form : Option Form) (value : List ℕ) → length value ≤ length (body_of form value)
in_body None value = omega arith
in_body (Some (Fixed n)) value = omega arith
in_body (Some Money) value = omega arith
in_body (Some Blob) value = omega (arith, length-append (prefix (length value)) value)
in_body (Some Account) value = omega (arith, length-append (prefix (length value)) value)
in_body (Some Object) value = omega (arith, length-append value (225 ∷ []))
in_body (Some Array) value = omega (arith, length-append value (241 ∷ []))

-- a list of fields is longer by at least the value of each one
spelled_more : (x : Item) (xs : List Item) → length x.value + length (spell xs) ≤ length (spell (x ∷ xs))
spelled_more x xs =
    let front = length-append (header x.field) (body_of (form_at x.field.kind) x.value ++ spell xs) in
    let rest = length-append (body_of (form_at x.field.kind) x.value) (spell xs) in
    let within = in_body (form_at x.field.kind) x.value in
    omega (arith, front, rest, within)

looked_up : (f : FieldId) (xs : List Item) (value : List ℕ) → lookup f xs ≡ Some value →
    length value ≤ length (spell xs)
looked_up f [] value is = cc
looked_up f (x ∷ xs) value is =
    let more = spelled_more x xs in
    elim (is_same x.field f) as (λ b. (if b then Some x.value else lookup f xs) ≡ Some value →
    length value ≤ length (spell (x ∷ xs))) [
      | true ↦ λ here. let same : length x.value ≡ length value = ap (λ o. length (unwrap_or o [])) here in
          omega (arith, more, same)
      | false ↦ λ later. let less = looked_up f xs value later in omega (arith, more, less)
    ] is

form_fee : (w : Which) (fields : List Item) (h : HookItem) → HookForm w fields h →
    item_fee h ≤ 10 * length (spell fields)
form_fee create fields h is =
    let less = looked_up names.create_code fields is.code is.coded in
    subst (λ i. item_fee i ≤ 10 * length (spell fields)) (sym is.is) (omega (arith, less))
form_fee noop fields h is = subst (λ i. item_fee i ≤ 10 * length (spell fields)) (sym is) (omega arith)
form_fee delete fields h is = subst (λ i. item_fee i ≤ 10 * length (spell fields)) (sym is.is) (omega arith)
form_fee install fields h is = subst (λ i. item_fee i ≤ 10 * length (spell fields)) (sym is.is) (omega arith)
form_fee delete_namespace fields h is = subst (λ i. item_fee i ≤ 10 * length (spell fields)) (sym is.is) (omega arith)
form_fee update fields h is = subst (λ i. item_fee i ≤ 10 * length (spell fields)) (sym is.is) (omega arith)

items_fee : (xs : List Item) (hs : List HookItem) → Each (IsElement names.hook HookIs) xs hs →
    code_fee hs ≤ 10 * length (spell xs)
items_fee [] [] each = omega arith
items_fee (x ∷ xs) (h ∷ hs) each =
    let is = each.0 in
    let spelled : length x.value ≡ length (spell is.fields) =
    ap length (spelling_one.0 is.fields x.value is.object).1 in
    let one = form_fee (which is.fields) is.fields h is.is in
    let others = items_fee xs hs each.1 in
    let more = spelled_more x xs in
    omega (arith, spelled, one, others, more)
items_fee [] (h ∷ hs) each = absurd each
items_fee (x ∷ xs) [] each = absurd each

hooks_fee : (b : Bool) (fields : List Item) (found : Option (List ℕ)) (hs : List HookItem) →
    lookup names.hooks fields ≡ found →
    HooksFor b found hs → code_fee hs ≤ 10 * length (spell fields)
hooks_fee false fields found hs at are = subst (λ is. code_fee is ≤ 10 * length (spell fields)) (sym are) (omega arith)
hooks_fee true fields None hs at are = absurd are
hooks_fee true fields (Some bytes) hs at are =
    let array = are.0 in
    let less = looked_up names.hooks fields bytes at in
    let spelled : length bytes ≡ length (spell array.elements) =
    ap length (array_one array.elements bytes array.array) in
    let all = items_fee array.elements hs array.each in
    omega (arith, less, spelled, all)

pub codes_fit : CodesFit
codes_fit fields bytes emitted t object is =
    let spelled : length bytes ≡ length (spell fields) = ap length (spelling_one.0 fields bytes object).1 in
    let all = hooks_fee (t.kind == 22) fields (lookup names.hooks fields) t.hooks refl is.hooks in
    omega (arith, spelled, all)

-- of a transaction that is short enough to be read
pub short_codes_fit : (fields : List Item) (bytes : List ℕ) (emitted : Bool) (t : Transaction) → IsObject fields bytes →
    IsTransaction fields bytes emitted t → length bytes ≤ longest → code_fee t.hooks ≤ 100000000
short_codes_fit fields bytes emitted t object is short =
    let all = codes_fit fields bytes emitted t object is in omega (arith, all, short)
