-- How many bytes an object has.
use Rattle.std.proofs.Common.{◌≡◌, ℕ, ◌+◌, ◌≤◌, ◌<◌, ◌^◌, Bool, true, false, List, [], ◌∷◌, ◌++◌, length, arith, Option}
use Rattle.std.proofs.Common.{Some, None, nat_lt, nat_le, if◌then◌else◌}
use Rattle.std.proofs.lemmas.List.{length-append}
use Rattle.xo_fields.specs.declared.field.FieldId.{FieldId}
use Rattle.xo_fields.specs.declared.form.Form.{Form}
use Rattle.xo_fields.specs.declared.form.Form.TheVariants.{Fixed, Money, Blob, Account, Object, Array}
use Rattle.xo_fields.specs.Form.{form_at}
use Rattle.xo_fields.specs.Header.{header}
use Rattle.xo_fields.specs.Length.{prefix}
use Rattle.xo_list.specs.Item.{Item, body_of, spell}
use Rattle.xo_object.specs.Names as names
use Rattle.std.specs.Int.{w32, to_be_bytes}
use Rattle.hk_base.specs.declared.ids.AccountId.{AccountId}
use Rattle.hk_base.specs.declared.ids.Hash256.{Hash256}
use Rattle.xo_fields.specs.declared.amount.Amount.TheVariants.{Native}
use Rattle.xo_fields.specs.Amount.{amount_bytes}
use Rattle.hk_api.specs.Keylets.{account_space, state_space}
use Rattle.hk_api.specs.Shown.{item, ledger_entry_type, owner_count_field, balance_field, hook_state_key}
use Rattle.hk_api.specs.Shown.{hook_state_data, account_fields, state_fields}

few_by : (a b : Bool) (x y : List ℕ) (u v : List ℕ) → length x ≤ 3 → length y ≤ 3 → length u ≤ 3 → length v ≤ 3 →
    length (if a then (if b then x else y) else (if b then u else v)) ≤ 3
few_by true true x y u v p q r s = p
few_by true false x y u v p q r s = q
few_by false true x y u v p q r s = r
few_by false false x y u v p q r s = s

header_few : (f : FieldId) → length (header f) ≤ 3
header_few f =
    few_by (nat_lt f.kind 16) (nat_lt f.code 16) _ _ _ _ (omega arith) (omega arith) (omega arith) (omega arith)

prefix_by : (a b : Bool) (x y z : List ℕ) → length x ≤ 3 → length y ≤ 3 → length z ≤ 3 →
    length (if a then x else if b then y else z) ≤ 3
prefix_by true b x y z p q r = p
prefix_by false true x y z p q r = q
prefix_by false false x y z p q r = r

prefix_few : (n : ℕ) → length (prefix n) ≤ 3
prefix_few n = prefix_by (nat_le n 192) (nat_le n 12480) _ _ _ (omega arith) (omega arith) (omega arith)

body_few : (form : Option Form) (v : List ℕ) → length (body_of form v) ≤ 3 + length v
body_few None v = omega arith
body_few (Some (Fixed n)) v = omega arith
body_few (Some Money) v = omega arith
body_few (Some Blob) v =
    let few = prefix_few (length v) in let sum = length-append (prefix (length v)) v in omega (arith, few, sum)
body_few (Some Account) v =
    let few = prefix_few (length v) in let sum = length-append (prefix (length v)) v in omega (arith, few, sum)
body_few (Some Object) v = let sum = length-append v (225 ∷ []) in omega (arith, sum)
body_few (Some Array) v = let sum = length-append v (241 ∷ []) in omega (arith, sum)

-- a field adds six bytes to its value at most
pub spell_few : (x : Item) (xs : List Item) → length (spell (x ∷ xs)) ≤ 6 + length x.value + length (spell xs)
spell_few x xs =
    let head = header_few x.field in
    let value = body_few (form_at x.field.kind) x.value in
    let all = length-append (header x.field) (body_of (form_at x.field.kind) x.value ++ spell xs) in
    let rest = length-append (body_of (form_at x.field.kind) x.value) (spell xs) in
    omega (arith, head, value, all, rest)

pub account_short : (id : AccountId) (balance sequence owned : ℕ) → length id.0 ≡ 20 →
    length (spell (account_fields id balance sequence owned)) < 2 ^ 32
account_short id balance sequence owned size =
    let x6 = item names.account id.0 in
    let x5 = item balance_field (amount_bytes (Native balance)) in
    let x4 = item owner_count_field (to_be_bytes w32 owned) in
    let x3 = item names.sequence (to_be_bytes w32 sequence) in
    let x2 = item names.flags (0 ∷ 0 ∷ 0 ∷ 0 ∷ []) in
    let s6 = spell_few x6 [] in
    let s5 = spell_few x5 (x6 ∷ []) in
    let s4 = spell_few x4 (x5 ∷ x6 ∷ []) in
    let s3 = spell_few x3 (x4 ∷ x5 ∷ x6 ∷ []) in
    let s2 = spell_few x2 (x3 ∷ x4 ∷ x5 ∷ x6 ∷ []) in
    let s1 = spell_few (item ledger_entry_type account_space) (x2 ∷ x3 ∷ x4 ∷ x5 ∷ x6 ∷ []) in
    omega (arith, s1, s2, s3, s4, s5, s6, size)

pub state_short : (k : Hash256) (bytes : List ℕ) → length k.0 ≡ 32 → length bytes ≤ 918744 →
    length (spell (state_fields k bytes)) < 2 ^ 32
state_short k bytes size few =
    let x3 = item hook_state_data bytes in
    let x2 = item hook_state_key k.0 in
    let s3 = spell_few x3 [] in
    let s2 = spell_few x2 (x3 ∷ []) in
    let s1 = spell_few (item ledger_entry_type state_space) (x2 ∷ x3 ∷ []) in
    omega (arith, s1, s2, s3, size, few)
