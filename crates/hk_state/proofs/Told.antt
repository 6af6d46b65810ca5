-- What an answer tells.
use Rattle.std.proofs.Common.{◌≡◌, ◌∙◌, ap, sym, subst, refl, true, false, cond, Option, Some, None, is_some, IsSome}
use Rattle.std.proofs.Common.{MatchOption, Result, Ok, Err, OnOk, OnErr}
use Rattle.std.specs.FinMap.{get, insert, get-insert}
use Rattle.hk_state.specs.declared.key.Key.{Key}
use Rattle.hk_state.specs.declared.entry.Entry.{Entry}
use Rattle.hk_state.specs.Keys.{is_key, keys_total, itself, exact}
use Rattle.hk_state.specs.Entries.{Entries, change_or}
use Rattle.hk_state.specs.Writes.{Writes, with_writes, get-with_writes}

-- a call that is refused only where there is nothing isn't refused
pub certain : {X E A P : Type 0} (r : Result X E) (found : Option A) → OnOk r P → OnErr r (found ≡ None) →
    IsSome found → P
certain (Ok x) found ok err there = ok
certain (Err e) None ok err there = cc
certain (Err e) (Some a) ok err there = cc

pub given_some : (A B : Type 0) {X : Type 0} (found : Option X) (x : X) → Some x ≡ found → B →
    MatchOption found A (λ _. B)
given_some A B found x is b = subst (λ o. MatchOption o A (λ _. B)) is b

pub is_none : {X : Type 0} (found : Option X) → is_some found ≡ false → found ≡ None
is_none None h = refl
is_none (Some x) h = cc

-- a put at a new key, whether it is refused or not
module _ {X E : Type 0} (r : Result X E) (m n : Entries) (key : Key) (e : Entry) (ok : OnOk r (n ≡ insert m key e))
    (err : OnErr r (n ≡ m)) where
  pub others : (q : Key) → is_key q key ≡ false → get n q ≡ get m q
  others q apart = by r ok err
    where
      by : (answer : Result X E) → OnOk answer (n ≡ insert m key e) → OnErr answer (n ≡ m) → get n q ≡ get m q
      by (Ok x) done none =
          ap (λ p. get p q) done ∙ get-insert keys_total m key e q ∙ ap (λ b. cond b (Some e) (get m q)) apart
      by (Err x) done none = ap (λ p. get p q) none

  pub stays : get m key ≡ None → (q : Key) → IsSome (get m q) → IsSome (get n q)
  stays absent q is =
      elim (is_key q key) as (λ b. is_key q key ≡ b → IsSome (get n q)) [
        | true ↦ λ same. let none : get m q ≡ None = ap (get m) (exact q key same) ∙ absent in cc
        | false ↦ λ apart. subst IsSome (sym (others q apart)) is
      ] refl

pub put_there : (m n : Entries) (key : Key) (e : Entry) → n ≡ insert m key e → IsSome (get n key)
put_there m n key e done =
    subst IsSome (sym
    (ap (λ p. get p key) done ∙ get-insert keys_total m key e key ∙ ap (λ b. cond b (Some e) (get m key)) (itself key)))
    refl

-- the last change at a key decides
pub changed : (m : Entries) (w : Writes) (key : Key) (change : Option Entry) → get w.changes key ≡ Some change →
    get (with_writes m w) key ≡ change
changed m w key change is = get-with_writes m w key ∙ ap (λ found. change_or found (get m key)) is

pub unchanged : (m : Entries) (w : Writes) (key : Key) → get w.changes key ≡ None →
    get (with_writes m w) key ≡ get m key
unchanged m w key is = get-with_writes m w key ∙ ap (λ found. change_or found (get m key)) is

pub err_given : {X E P : Type 0} (r : Result X E) → P → OnErr r P
err_given (Ok x) p = tt
err_given (Err e) p = p
