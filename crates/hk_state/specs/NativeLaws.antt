-- The laws of the rules for Payment, AccountSet and Invoke. This project's own.
use Rattle.std.specs.Prelude.{◌≡◌, ℕ, ◌+◌, ◌-◌, ◌≤◌, Bool, true, false, ◌==◌, cond, List, [], ◌∷◌, Option, Some, None}
use Rattle.std.specs.Prelude.{IsSome, refl}
use Rattle.std.proofs.Common.{◌∙◌, ap, sym, subst, arith}
use Rattle.std.specs.FinMap.{get}
use Rattle.std.proofs.lemmas.Bool.{ltb-false}
use Rattle.std.proofs.lemmas.Map.Text.{is_eq-slice_cmp}
use Rattle.hk_base.specs.declared.ids.AccountId.{AccountId}
use Rattle.xo_fields.specs.declared.amount.Amount.{Amount}
use Rattle.xo_object.specs.declared.transaction.Transaction.{Transaction}
use Rattle.hk_lines.specs.declared.result_name.ResultName.{ResultName}
use Rattle.hk_state.specs.declared.key.Key.{Key}
use Rattle.hk_state.specs.declared.key.Key.TheVariants as key
use Rattle.hk_state.specs.declared.ledger.Header.{Header}
use Rattle.hk_state.specs.declared.entry.Holding.{Holding}
use Rattle.hk_state.specs.Keys.{is_key}
use Rattle.hk_state.specs.Entries.{Entries}
use Rattle.hk_state.specs.Holdings.{as_holding, holding_at, get-with_holding, stays}
use Rattle.hk_state.specs.Balances.{balances, sum_with, sum_new}
use Rattle.hk_base.specs.Rows.{first_row}
use Rattle.hk_state.specs.Rows.{none_applies}
use Rattle.hk_state.specs.Rules.{keeps, fails, KeepsSum, KeepsOthers, KeepsAccounts, NamesFailures, is_failure}
use Rattle.hk_state.specs.Reserves.{reserve, may_change}
use Rattle.hk_state.specs.Native.{native, payment, payment_kind, payment_rows, unless, credited, debited, drops_of}

-- the entries that an effect keeps
kept : {m n : Entries} → keeps m ≡ keeps n → m ≡ n
kept e = cc

unless_keeps : (found : Option ResultName) (m n : Entries) → unless found m ≡ keeps n → (found ≡ None) × (m ≡ n)
unless_keeps None m n e = (refl, kept e)
unless_keeps (Some name) m n e = cc

unless_fails : (found : Option ResultName) (m : Entries) (name : ResultName) → unless found m ≡ fails name →
    found ≡ Some name
unless_fails None m name e = cc
unless_fails (Some other) m name e = cc

credit_sum : (header : Header) (m : Entries) (to : AccountId) (drops : ℕ) (receiver : Option Holding) →
    holding_at m to ≡ receiver → balances (credited header m to drops receiver) ≡ balances m + drops
credit_sum header m to drops None at = sum_new m to drops header.seq at
credit_sum header m to drops (Some receiver) at =
    let put = sum_with m to receiver (receiver.balance + drops) receiver.sequence at in omega (arith, put)

-- what a Payment that fails by no row meets
pub record Payable (t : Transaction) (to : AccountId) (amount : Amount) (sender : Holding) (kept : ℕ) : Type 0 where
  pub other : is_key (key.Account to) (key.Account t.account) ≡ false
  pub funded : drops_of amount + kept ≤ sender.balance

pub payable : (t : Transaction) (to : AccountId) (amount : Amount) (sender : Holding) (kept : ℕ)
    (receiver : Option Holding) →
    first_row (payment_rows t to amount sender kept receiver) ≡ None → Payable t to amount sender kept
payable t to amount sender kept receiver h =
    let none = none_applies (payment_rows t to amount sender kept receiver) h in
    record {
      other = is_eq-slice_cmp to.0 t.account.0 ∙ none.1.0;
      funded = ltb-false sender.balance (drops_of amount + kept) none.1.1.1.0;
    }

pays_sum : (header : Header) (m n : Entries) (t : Transaction) (to : AccountId) (amount : Amount) (sender : Holding) →
    holding_at m t.account ≡ Some sender → payment header m t (Some to) (Some amount) (Some sender) ≡ keeps n →
    balances n ≡ balances m
pays_sum header m n t to amount sender at e =
    let drops = drops_of amount in
    let k = unless_keeps (first_row (payment_rows t to amount sender (reserve m t.account) (holding_at m to))) _ n e in
    let can = payable t to amount sender (reserve m t.account) (holding_at m to) k.0 in
    let funded = can.funded in
    let debit = sum_with m t.account sender (sender.balance - drops) sender.sequence at in
    let same =
    ap as_holding (get-with_holding m t.account (sender.balance - drops) sender.sequence (key.Account to) can.other) in
    let credit = credit_sum header (debited m t.account drops sender) to drops (holding_at m to) same in
    let sums = ap balances k.1 in
    omega (arith, funded, debit, credit, sums)

payment_sum : (header : Header) (m n : Entries) (t : Transaction) (to : Option AccountId) (amount : Option Amount)
    (sender : Option Holding) →
    holding_at m t.account ≡ sender → payment header m t to amount sender ≡ keeps n → balances n ≡ balances m
payment_sum header m n t (Some to) (Some amount) (Some sender) at e = pays_sum header m n t to amount sender at e
payment_sum header m n t to amount sender at e = ap balances (sym (kept e))

pub native_sum : KeepsSum native
native_sum header m n t e =
    elim (t.kind == payment_kind) as (λ b.
    cond b (payment header m t t.destination t.amount (holding_at m t.account)) (keeps m) ≡ keeps n →
    balances n ≡ balances m) [
      | true ↦ payment_sum header m n t t.destination t.amount (holding_at m t.account) refl
      | false ↦ λ same. ap balances (sym (kept same))
    ] e

credit_stays : (header : Header) (m : Entries) (to : AccountId) (drops : ℕ) (receiver : Option Holding) (id : AccountId)
    →
    IsSome (holding_at m id) → IsSome (holding_at (credited header m to drops receiver) id)
credit_stays header m to drops None id is = stays m to drops header.seq id is
credit_stays header m to drops (Some receiver) id is = stays m to (receiver.balance + drops) receiver.sequence id is

payment_stays : (header : Header) (m n : Entries) (t : Transaction) (to : Option AccountId) (amount : Option Amount)
    (sender : Option Holding) (id : AccountId) →
    payment header m t to amount sender ≡ keeps n → IsSome (holding_at m id) → IsSome (holding_at n id)
payment_stays header m n t (Some to) (Some amount) (Some sender) id e is =
    let k = unless_keeps (first_row (payment_rows t to amount sender (reserve m t.account) (holding_at m to))) _ n e in
    subst (λ p. IsSome (holding_at p id)) k.1
    (credit_stays header (debited m t.account (drops_of amount) sender) to (drops_of amount) (holding_at m to) id
    (stays m t.account (sender.balance - drops_of amount) sender.sequence id is))
payment_stays header m n t to amount sender id e is = subst (λ p. IsSome (holding_at p id)) (kept e) is

pub native_accounts : KeepsAccounts native
native_accounts header m n t id e is =
    elim (t.kind == payment_kind) as (λ b.
    cond b (payment header m t t.destination t.amount (holding_at m t.account)) (keeps m) ≡ keeps n →
    IsSome (holding_at n id)) [
      | true ↦ λ pays. payment_stays header m n t t.destination t.amount (holding_at m t.account) id pays is
      | false ↦ λ same. subst (λ p. IsSome (holding_at p id)) (kept same) is
    ] e

-- a key that rules for transactions don't change is no account's
pub other_key : (q : Key) (id : AccountId) → may_change q ≡ false → is_key q (key.Account id) ≡ false
other_key (key.Account owner) id h = cc
other_key (key.Other bytes) id h = cc
other_key (key.Install owner position) id h = refl
other_key (key.Definition hash) id h = refl
other_key (key.State owner namespace k) id h = refl
other_key (key.Emitted number) id h = refl

credit_others : (header : Header) (m : Entries) (to : AccountId) (drops : ℕ) (receiver : Option Holding) (q : Key) →
    may_change q ≡ false → get (credited header m to drops receiver) q ≡ get m q
credit_others header m to drops None q h = get-with_holding m to drops header.seq q (other_key q to h)
credit_others header m to drops (Some receiver) q h =
    get-with_holding m to (receiver.balance + drops) receiver.sequence q (other_key q to h)

payment_others : (header : Header) (m n : Entries) (t : Transaction) (to : Option AccountId) (amount : Option Amount)
    (sender : Option Holding) (q : Key) →
    payment header m t to amount sender ≡ keeps n → may_change q ≡ false → get n q ≡ get m q
payment_others header m n t (Some to) (Some amount) (Some sender) q e h =
    let k = unless_keeps (first_row (payment_rows t to amount sender (reserve m t.account) (holding_at m to))) _ n e in
    ap (λ p. get p q) (sym k.1)
    ∙ credit_others header (debited m t.account (drops_of amount) sender) to (drops_of amount) (holding_at m to) q h
    ∙ get-with_holding m t.account (sender.balance - drops_of amount) sender.sequence q (other_key q t.account h)
payment_others header m n t to amount sender q e h = ap (λ p. get p q) (sym (kept e))

pub native_others : KeepsOthers native
native_others header m n t q e h =
    elim (t.kind == payment_kind) as (λ b.
    cond b (payment header m t t.destination t.amount (holding_at m t.account)) (keeps m) ≡ keeps n →
    get n q ≡ get m q) [
      | true ↦ λ pays. payment_others header m n t t.destination t.amount (holding_at m t.account) q pays h
      | false ↦ λ same. ap (λ p. get p q) (sym (kept same))
    ] e

abbrev AreFailures : List (Bool × ResultName) → Type 0
AreFailures [] = Unit {0}
AreFailures (row ∷ rows) = (is_failure row.1 ≡ true) × AreFailures rows

named : (rows : List (Bool × ResultName)) (name : ResultName) → AreFailures rows → first_row rows ≡ Some name →
    is_failure name ≡ true
named [] name are e = cc
named (row ∷ rows) name are e =
    elim row.0 as (λ b. cond b (Some row.1) (first_row rows) ≡ Some name → is_failure name ≡ true) [
      | true ↦ λ is. let same : row.1 ≡ name = cc in sym (ap is_failure same) ∙ are.0
      | false ↦ λ is. named rows name are.1 is
    ] e

payment_fails : (header : Header) (m : Entries) (t : Transaction) (to : Option AccountId) (amount : Option Amount)
    (sender : Option Holding) (name : ResultName) →
    payment header m t to amount sender ≡ fails name → is_failure name ≡ true
payment_fails header m t (Some to) (Some amount) (Some sender) name e =
    named (payment_rows t to amount sender (reserve m t.account) (holding_at m to)) name
    (refl, (refl, (refl, (refl, tt)))) (unless_fails _ _ name e)
payment_fails header m t to amount sender name e = cc

pub native_failures : NamesFailures native
native_failures header m t name e =
    elim (t.kind == payment_kind) as (λ b.
    cond b (payment header m t t.destination t.amount (holding_at m t.account)) (keeps m) ≡ fails name →
    is_failure name ≡ true) [
      | true ↦ payment_fails header m t t.destination t.amount (holding_at m t.account) name
      | false ↦ λ bad. cc
    ] e
