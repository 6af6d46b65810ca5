-- What is known of a transaction that is taken as an emission.
use Rattle.std.proofs.Common.{◌≡◌, ◌≢◌, ℕ, ◌+◌, ◌<◌, ◌≤◌, ◌==◌, not, nat_lt, Bool, true, false, List, replicate, refl}
use Rattle.std.proofs.Common.{ap, arith, Option, Some, None, is_some, ok_or, Ok}
use Rattle.std.specs.Prelude.{bytes_eq}
use Rattle.std.proofs.lemmas.Bool.Decides.{nat_tests}
use Rattle.hk_base.specs.declared.ids.AccountId.{AccountId}
use Rattle.hk_base.specs.declared.ids.Hash256.{Hash256}
use Rattle.xo_list.specs.Item.{Item, lookup}
use Rattle.xo_object.specs.declared.transaction.Transaction.{Transaction}
use Rattle.xo_object.specs.Names as names
use Rattle.hk_reading.specs.Readings.{hook_kind}
use Rattle.hk_reading.proofs.Finding.{nat_same, lists_same}
use Rattle.hk_emit.specs.declared.context.EmitContext.{EmitContext}
use Rattle.hk_emit.specs.declared.emission.Emission.{Emission}
use Rattle.hk_emit.specs.declared.fault.EmitFault.{EmitFault}
use Rattle.hk_emit.specs.declared.fault.EmitFault.TheVariants as faults
use Rattle.hk_emit.specs.Accept.{OrFault, ◌>>=◌, ◌>>◌, refuse, txn_signature, has_value, has_number, nonce_of, is_first}
use Rattle.hk_emit.specs.Accept.{is_last, callback_of, emission_of, judged}

-- a test that was passed
passed : {A : Type 0} (test : Bool) (fault : EmitFault) (rest : OrFault A) (x : A) →
    (refuse test fault >> rest) ≡ Ok x → (test ≡ false) × (rest ≡ Ok x)
passed true fault rest x e = absurd (cc)
passed false fault rest x e = (refl, e)

-- something that was there
there : {A B : Type 0} (o : Option A) (fault : EmitFault) (rest : A → OrFault B) (x : B) →
    (ok_or o fault >>= rest) ≡ Ok x → (y : A) × (o ≡ Some y) × (rest y ≡ Ok x)
there None fault rest x e = absurd (cc)
there (Some y) fault rest x e = (y, refl, e)

abbrev pub emission_with : EmitContext → Hash256 → Transaction → ℕ → ℕ → Emission
emission_with context nonce t first last = record {
  transaction = t;
  nonce = nonce;
  hash = context.hash;
  first = first;
  last = last;
  callback = callback_of context;
}

-- what is known of a transaction t that makes this emission with that nonce
pub record Taken (context : EmitContext) (nonce : Hash256) (t : Transaction) (e : Emission) : Type 0 where
  pub other : t.kind ≢ hook_kind
  pub own : t.account ≡ context.account
  pub first : ℕ
  pub last : ℕ
  pub begins : t.first ≡ Some first
  pub ends : t.last ≡ Some last
  pub later : context.seq < first
  pub order : first ≤ last
  pub window : last ≤ first + 5
  pub generation : t.generation ≤ 10
  pub same : emission_with context nonce t first last ≡ e

not_false : (b : Bool) → not b ≡ false → b ≡ true
not_false true e = refl
not_false false e = absurd (cc)

same_ok : (a b : Emission) → ◌≡◌ {A = OrFault Emission} (Ok a) (Ok b) → a ≡ b
same_ok a b e = cc

module _ (context : EmitContext) (fields : List Item) (nonce : Hash256) (t : Transaction) where
  abbrev pub whole : ℕ → ℕ → Emission
  whole first last = emission_with context nonce t first last

  abbrev pub at_generation : ℕ → ℕ → OrFault Emission
  at_generation first last = refuse (nat_lt 10 t.generation) faults.Generation >> Ok (whole first last)

  abbrev pub at_last : ℕ → ℕ → OrFault Emission
  at_last first last = refuse (not (is_last first last)) faults.Last >> at_generation first last

  abbrev pub at_some_last : ℕ → OrFault Emission
  at_some_last first = ok_or t.last faults.Last >>= at_last first

  abbrev pub at_first : ℕ → OrFault Emission
  at_first first = refuse (not (is_first context.seq first)) faults.First >> at_some_last first

  abbrev pub at_some_first : OrFault Emission
  at_some_first = ok_or t.first faults.First >>= at_first

  abbrev pub at_signature : OrFault Emission
  at_signature = refuse (is_some (lookup txn_signature fields)) faults.Signed >> at_some_first

  abbrev pub at_key : OrFault Emission
  at_key = refuse (not (has_value names.signing_pub_key (replicate 33 0) fields)) faults.KeyNotZero >> at_signature

  abbrev pub at_account : OrFault Emission
  at_account = refuse (not (bytes_eq t.account.0 context.account.0)) faults.NotOwn >> at_key

  pub taken : (e : Emission) → emission_of context fields nonce t ≡ Ok e → Taken context nonce t e
  taken e h =
      let kind : ((t.kind == hook_kind) ≡ false) × (at_account ≡ Ok e) =
      passed (t.kind == hook_kind) faults.BadKind at_account e h in
      let account : (not (bytes_eq t.account.0 context.account.0) ≡ false) × (at_key ≡ Ok e) =
      passed (not (bytes_eq t.account.0 context.account.0)) faults.NotOwn at_key e kind.1 in
      let key : (not (has_value names.signing_pub_key (replicate 33 0) fields) ≡ false) × (at_signature ≡ Ok e) =
      passed (not (has_value names.signing_pub_key (replicate 33 0) fields)) faults.KeyNotZero at_signature e
      account.1 in
      let signature : (is_some (lookup txn_signature fields) ≡ false) × (at_some_first ≡ Ok e) =
      passed (is_some (lookup txn_signature fields)) faults.Signed at_some_first e key.1 in
      let first : (n : ℕ) × (t.first ≡ Some n) × (at_first n ≡ Ok e) =
      there t.first faults.First at_first e signature.1 in
      let above : (not (is_first context.seq first.0) ≡ false) × (at_some_last first.0 ≡ Ok e) =
      passed (not (is_first context.seq first.0)) faults.First (at_some_last first.0) e first.2 in
      let last : (n : ℕ) × (t.last ≡ Some n) × (at_last first.0 n ≡ Ok e) =
      there t.last faults.Last (at_last first.0) e above.1 in
      let within : (not (is_last first.0 last.0) ≡ false) × (at_generation first.0 last.0 ≡ Ok e) =
      passed (not (is_last first.0 last.0)) faults.Last (at_generation first.0 last.0) e last.2 in
      let few : (nat_lt 10 t.generation ≡ false) × (Ok (whole first.0 last.0) ≡ Ok e) =
      passed (nat_lt 10 t.generation) faults.Generation (Ok (whole first.0 last.0)) e within.1 in
      let window : (first.0 ≤ last.0) × (last.0 ≤ first.0 + 5) =
      in_window first.0 last.0 (not_false (is_last first.0 last.0) within.0) in
      record {
        other = λ same. let yes_is : (t.kind == hook_kind) ≡ true = (nat_same t.kind hook_kind).1 same in cc;
        own =
            ap id_of ((lists_same t.account.0 context.account.0).0
            (not_false (bytes_eq t.account.0 context.account.0) account.0));
        first = first.0;
        last = last.0;
        begins = first.1;
        ends = last.1;
        later = below (not_false (is_first context.seq first.0) above.0);
        order = window.0;
        window = window.1;
        generation = grind (arith, nat_tests, few.0);
        same = same_ok (whole first.0 last.0) e few.1;
      }
    where
      id_of : List ℕ → AccountId
      id_of bytes = record { 0 = bytes }

      below : {m n : ℕ} → nat_lt m n ≡ true → m < n
      below e = grind (arith, nat_tests)

      in_window : (first last : ℕ) → is_last first last ≡ true → (first ≤ last) × (last ≤ first + 5)
      in_window first last e = (grind (arith, nat_tests), grind (arith, nat_tests))

-- an emission that is judged so is one of a transaction, with a nonce
pub record Made (context : EmitContext) (nonces : List Hash256) (fields : List Item) (o : Option Transaction)
    (e : Emission) : Type 0 where
  pub nonce : Hash256
  pub drawn : nonce_of context nonces fields ≡ Some nonce
  pub t : Transaction
  pub read : o ≡ Some t
  pub taken : Taken context nonce t e

pub made : (context : EmitContext) (nonces : List Hash256) (fields : List Item) (o : Option Transaction)
    (e : Emission) → judged context nonces fields o ≡ Ok e → Made context nonces fields o e
made context nonces fields o e h =
    let rest : OrFault Emission =
    ok_or (nonce_of context nonces fields) faults.Details
    >>= λ nonce. (ok_or o faults.Malformed >>= λ t. emission_of context fields nonce t) in
    let number : (has_number fields ≡ false) × (rest ≡ Ok e) =
    passed (has_number fields) faults.SequenceNotZero rest e h in
    let nonce : (n : Hash256) × (nonce_of context nonces fields ≡ Some n)
    × ((ok_or o faults.Malformed >>= λ t. emission_of context fields n t) ≡ Ok e) =
    there (nonce_of context nonces fields) faults.Details
    (λ n. ok_or o faults.Malformed >>= λ t. emission_of context fields n t) e number.1 in
    let read : (t : Transaction) × (o ≡ Some t) × (emission_of context fields nonce.0 t ≡ Ok e) =
    there o faults.Malformed (λ t. emission_of context fields nonce.0 t) e nonce.2 in
    record {
      nonce = nonce.0;
      drawn = nonce.1;
      t = read.0;
      read = read.1;
      taken = taken context fields nonce.0 read.0 e read.2;
    }
