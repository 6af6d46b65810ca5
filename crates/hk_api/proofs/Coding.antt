-- The fee for the code of a transaction's hooks is small: there are ten items at most, and a field's bytes are few.
use Rattle.std.proofs.Common.{ℕ, ◌*◌, ◌≤◌, ◌<◌, ◌^◌, ◌==◌, Bool, true, false, List, [], ◌∷◌, length, refl, ap, arith}
use Rattle.std.proofs.Common.{Option, Some, None}
use Rattle.xo_fields.specs.declared.form.Form.TheVariants.{Blob}
use Rattle.xo_list.specs.Item.{Item, lookup}
use Rattle.xo_object.specs.declared.transaction.HookItem.{HookItem}
use Rattle.xo_object.specs.declared.transaction.Transaction.{Transaction}
use Rattle.xo_object.specs.Names as names
use Rattle.xo_object.specs.Transaction.{Each, IsElement, HookIs, which, Which, noop, delete, create, install}
use Rattle.xo_object.specs.Transaction.{delete_namespace, update, HooksFor, IsTransaction}
use Rattle.xo_object.specs.Transaction as transactions
use Rattle.xo_object.proofs.Values.{lookup_fits}
use Rattle.hk_state.specs.Fees.{item_fee, code_fee}

item_fits : (x : Item) (h : HookItem) → IsElement names.hook HookIs x h → item_fee h ≤ 9187440
item_fits x h e = by_kind (which e.fields) e.is
  where
    by_kind : (w : Which) → transactions.Form w e.fields h → item_fee h ≤ 9187440
    by_kind noop is = let none = ap item_fee is in omega (arith, none)
    by_kind delete is = let none = ap item_fee is.is in omega (arith, none)
    by_kind create is =
        let fee = ap item_fee is.is in
        let few : length is.code ≤ 918744 =
        lookup_fits x.value e.fields names.create_code Blob is.code e.object refl is.coded in
        omega (arith, fee, few)
    by_kind install is = let none = ap item_fee is.is in omega (arith, none)
    by_kind delete_namespace is = let none = ap item_fee is.is in omega (arith, none)
    by_kind update is = let none = ap item_fee is.is in omega (arith, none)

each_fits : (xs : List Item) (items : List HookItem) → Each (IsElement names.hook HookIs) xs items →
    code_fee items ≤ length xs * 9187440
each_fits [] [] each = omega arith
each_fits (x ∷ xs) (h ∷ hs) each =
    let one = item_fits x h each.0 in
    let rest = each_fits xs hs each.1 in
    omega (arith, one, rest)
each_fits [] (h ∷ hs) each = absurd each
each_fits (x ∷ xs) [] each = absurd each

hooks_fit : (b : Bool) (bytes : Option (List ℕ)) (items : List HookItem) → HooksFor b bytes items →
    code_fee items < 2 ^ 62
hooks_fit false bytes items none = let fee = ap code_fee none in omega (arith, fee)
hooks_fit true None items none = absurd none
hooks_fit true (Some bytes) items are =
    let fee = each_fits are.0.elements items are.0.each in
    let few = are.0.few in
    omega (arith, fee, few)

pub code_fits : (fields : List Item) (bytes : List ℕ) (emitted : Bool) (t : Transaction) →
    IsTransaction fields bytes emitted t →
    code_fee t.hooks < 2 ^ 62
code_fits fields bytes emitted t is = hooks_fit (t.kind == 22) (lookup names.hooks fields) t.hooks is.hooks
