-- How a blob is judged, and the function that finds what is accepted.
use Rattle.std.proofs.Common.{◌≡◌, ℕ, ◌<◌, ◌≤◌, true, false, List, length, refl, sym, ap, subst, ◌∙◌, arith, Option}
use Rattle.std.proofs.Common.{Some, None, Ok, Err, IfErr, nat_lt, ok_or, if◌then◌else◌}
use Rattle.std.specs.Option.{option_and_then}
use Rattle.std.specs.Result.{result_ok}
use Rattle.std.proofs.lemmas.Bool.Decides.{nat_tests}
use Rattle.hk_base.specs.declared.ids.Hash256.{Hash256}
use Rattle.xo_fields.proofs.Cases.{either, none_some}
use Rattle.xo_fields.specs.Laws.{OneHeader}
use Rattle.xo_list.specs.Item.{Item}
use Rattle.xo_list.specs.Value.{IsObject, HasFields}
use Rattle.xo_object.specs.declared.transaction.Transaction.{Transaction}
use Rattle.xo_object.specs.Transaction.{IsTransaction}
use Rattle.hk_reading.specs.Parsing.{fields_of}
use Rattle.hk_reading.specs.Readings.{longest}
use Rattle.hk_reading.specs.Transactions.{transaction_of}
use Rattle.hk_reading.proofs.FieldsFound.{fields_found}
use Rattle.hk_reading.proofs.TransactionsFound.{transaction_found}
use Rattle.hk_emit.specs.declared.context.EmitContext.{EmitContext}
use Rattle.hk_emit.specs.declared.emission.Emission.{Emission}
use Rattle.hk_emit.specs.declared.fault.EmitFault.{EmitFault}
use Rattle.hk_emit.specs.declared.fault.EmitFault.TheVariants as faults
use Rattle.hk_emit.specs.Accept.{OrFault, ◌>>=◌, ◌>>◌, refuse, has_number, nonce_of, emission_of, judged, IsReadAs}
use Rattle.hk_emit.specs.Accept.{JudgesFields, IsLater, Judges}
use Rattle.hk_emit.specs.Accepted.{accepted, accepted_fields, Accepts, IsEmission, AcceptedReads}
use Rattle.hk_emit.proofs.Saying.{SaysOf, nonce_says}
use Rattle.hk_emit.proofs.Taking.{Made, made, emission_with}

module _ (context : EmitContext) (nonces : List Hash256) (fields : List Item) where
  -- what is asked once a nonce is found
  abbrev pub at_reading : Option Transaction → Hash256 → OrFault Emission
  at_reading o nonce = ok_or o faults.Malformed >>= λ t. emission_of context fields nonce t

  abbrev pub at_nonce : Option Transaction → OrFault Emission
  at_nonce o = ok_or (nonce_of context nonces fields) faults.Details >>= at_reading o

  pub by_number : has_number fields ≡ true → (o : Option Transaction) →
      judged context nonces fields o ≡ Err faults.SequenceNotZero
  by_number e o = ap (λ b. refuse b faults.SequenceNotZero >> at_nonce o) e

  without_number : has_number fields ≡ false → (o : Option Transaction) → judged context nonces fields o ≡ at_nonce o
  without_number e o = ap (λ b. refuse b faults.SequenceNotZero >> at_nonce o) e

  pub by_details : has_number fields ≡ false → nonce_of context nonces fields ≡ None → (o : Option Transaction) →
      judged context nonces fields o ≡ Err faults.Details
  by_details e none o = without_number e o ∙ ap (λ n. ok_or n faults.Details >>= at_reading o) none

  pub by_reading : (nonce : Hash256) → has_number fields ≡ false → nonce_of context nonces fields ≡ Some nonce →
      (o : Option Transaction) → judged context nonces fields o ≡ at_reading o nonce
  by_reading nonce e some o = without_number e o ∙ ap (λ n. ok_or n faults.Details >>= at_reading o) some

-- a fault that comes later is judged by the transaction
pub later_judged : (fields : List Item) (blob : List ℕ) (context : EmitContext) (nonces : List Hash256)
    (answer : OrFault Emission) → IfErr answer IsLater → (o : Option Transaction) → IsReadAs fields blob o →
    judged context nonces fields o ≡ answer →
    JudgesFields fields blob context nonces answer
later_judged fields blob context nonces (Ok e) later o read h = (o, read, h)
later_judged fields blob context nonces (Err faults.TooLong) later o read h = absurd later
later_judged fields blob context nonces (Err faults.Unparsed) later o read h = absurd later
later_judged fields blob context nonces (Err faults.SequenceNotZero) later o read h = absurd later
later_judged fields blob context nonces (Err faults.Details) later o read h = absurd later
later_judged fields blob context nonces (Err faults.NoMemory) later o read h = tt
later_judged fields blob context nonces (Err fault) later o read h = (o, read, h)

module _ (blob : List ℕ) (context : EmitContext) (nonces : List Hash256) where
  pub whole_judged : (fields : List Item) → length blob ≤ longest → IsObject fields blob → (answer : OrFault Emission) →
      JudgesFields fields blob context nonces answer → Judges blob context nonces answer
  whole_judged fields short object (Err faults.TooLong) h = absurd h
  whole_judged fields short object (Err faults.Unparsed) h = absurd h
  whole_judged fields short object (Err faults.NoMemory) h = tt
  whole_judged fields short object answer h = record { short = short; fields = fields; object = object; judged = h }

  accepted_long : longest < length blob → accepted blob context nonces ≡ None
  unfolding accepted
  accepted_long long =
      ap (λ b. if b then None else option_and_then (accepted_fields blob context nonces) (fields_of blob))
      (let more : nat_lt longest (length blob) ≡ true = grind (arith, nat_tests) in more)

  accepted_short : length blob ≤ longest →
      accepted blob context nonces ≡ option_and_then (accepted_fields blob context nonces) (fields_of blob)
  unfolding accepted
  accepted_short short =
      ap (λ b. if b then None else option_and_then (accepted_fields blob context nonces) (fields_of blob))
      (let no_more : nat_lt longest (length blob) ≡ false = grind (arith, nat_tests) in no_more)

  accepted_at : (fields : List Item) → length blob ≤ longest → IsObject fields blob →
      accepted blob context nonces ≡ result_ok (judged context nonces fields (transaction_of true fields blob))
  accepted_at fields short object =
      accepted_short short
      ∙ ap (option_and_then (accepted_fields blob context nonces)) ((fields_found blob).complete fields object)

  no_fields : (HasFields blob → ⊥) → (found : Option (List Item)) → fields_of blob ≡ found → found ≡ None
  no_fields never None e = refl
  no_fields never (Some fields) e = absurd (never (fields, (fields_found blob).sound fields e))

  accepted_unparsed : length blob ≤ longest → (HasFields blob → ⊥) → accepted blob context nonces ≡ None
  accepted_unparsed short never =
      accepted_short short
      ∙ ap (option_and_then (accepted_fields blob context nonces)) (no_fields never (fields_of blob) refl)

  none_ok : (answer : OrFault Emission) → ((e : Emission) → answer ≡ Ok e → ⊥) → result_ok answer ≡ None
  none_ok (Ok e) never = absurd (never e refl)
  none_ok (Err fault) never = refl

  ok_refused : (answer : OrFault Emission) (fault : EmitFault) (e : Emission) → answer ≡ Err fault → answer ≡ Ok e → ⊥
  ok_refused answer fault e h k = let both : ◌≡◌ {A = OrFault Emission} (Err fault) (Ok e) = sym h ∙ k in cc

  module _ (fields : List Item) (short : length blob ≤ longest) (object : IsObject fields blob) where
    refused_any : (fault : EmitFault) → ((o : Option Transaction) → judged context nonces fields o ≡ Err fault) →
        accepted blob context nonces ≡ None
    refused_any fault all = accepted_at fields short object ∙ ap result_ok (all (transaction_of true fields blob))

    -- another transaction can't be the one that is found
    none_made : (fault : EmitFault) (o : Option Transaction) → IsReadAs fields blob o →
        judged context nonces fields o ≡ Err fault → (e : Emission) →
        judged context nonces fields (transaction_of true fields blob) ≡ Ok e → ⊥
    none_made fault None read h e k =
        let m : Made context nonces fields (transaction_of true fields blob) e =
        made context nonces fields (transaction_of true fields blob) e k in
        read m.t ((transaction_found true fields blob).sound m.t m.read)
    none_made fault (Some t) read h e k =
        let found : transaction_of true fields blob ≡ Some t = (transaction_found true fields blob).complete t read in
        ok_refused (judged context nonces fields (Some t)) fault e h (ap (judged context nonces fields) (sym found) ∙ k)

    refused_read : (fault : EmitFault) (o : Option Transaction) → IsReadAs fields blob o →
        judged context nonces fields o ≡ Err fault → accepted blob context nonces ≡ None
    refused_read fault o read h =
        accepted_at fields short object
        ∙ none_ok (judged context nonces fields (transaction_of true fields blob)) (none_made fault o read h)

    taken_read : (e : Emission) (o : Option Transaction) → IsReadAs fields blob o →
        judged context nonces fields o ≡ Ok e → accepted blob context nonces ≡ Some e
    taken_read e o read h =
        let m : Made context nonces fields o e = made context nonces fields o e h in
        let is : IsTransaction fields blob true m.t = subst (IsReadAs fields blob) m.read read in
        let found : transaction_of true fields blob ≡ Some m.t = (transaction_found true fields blob).complete m.t is in
        accepted_at fields short object
        ∙ ap (λ p. result_ok (judged context nonces fields p)) (found ∙ sym m.read)
        ∙ ap result_ok h

  pub accepts : (answer : OrFault Emission) → Judges blob context nonces answer → Accepts blob context nonces answer
  accepts (Ok e) j = taken_read j.fields j.short j.object e j.judged.0 j.judged.1 j.judged.2
  accepts (Err faults.TooLong) long = accepted_long long
  accepts (Err faults.Unparsed) (short, never) = accepted_unparsed short never
  accepts (Err faults.NoMemory) j = tt
  accepts (Err faults.SequenceNotZero) j = refused_any j.fields j.short j.object faults.SequenceNotZero j.judged
  accepts (Err faults.Details) j = refused_any j.fields j.short j.object faults.Details j.judged
  accepts (Err fault) j = refused_read j.fields j.short j.object fault j.judged.0 j.judged.1 j.judged.2

  ok_again : (answer : OrFault Emission) (e : Emission) → result_ok answer ≡ Some e → answer ≡ Ok e
  ok_again (Ok f) e h = let same : f ≡ e = cc in ap (λ x. Ok x) same
  ok_again (Err fault) e h = absurd (cc)

  made_reads : OneHeader → (fields : List Item) (e : Emission) → length blob ≤ longest → IsObject fields blob →
      Made context nonces fields (transaction_of true fields blob) e → IsEmission blob context nonces e
  made_reads one fields e short object m =
      let is : IsTransaction fields blob true m.t = (transaction_found true fields blob).sound m.t m.read in
      let says : SaysOf context m.t.generation m.t.burden =
      nonce_says one context nonces fields m.nonce m.t.sequence m.t.generation m.t.burden m.drawn is.emission in
      let whole : IsEmission blob context nonces (emission_with context m.nonce m.t m.taken.first m.taken.last) =
      record {
        short = short;
        fields = fields;
        object = object;
        is = is;
        other = m.taken.other;
        own = m.taken.own;
        nonce = m.drawn;
        first = m.taken.begins;
        last = m.taken.ends;
        later = m.taken.later;
        order = m.taken.order;
        window = m.taken.window;
        few = m.taken.generation;
        generation = says.0;
        burden = says.1;
      } in subst (IsEmission blob context nonces) m.taken.same whole

  found_reads : OneHeader → (e : Emission) → length blob ≤ longest → (found : Option (List Item)) →
      fields_of blob ≡ found → option_and_then (accepted_fields blob context nonces) found ≡ Some e →
      IsEmission blob context nonces e
  found_reads one e short None f h = none_some e h
  found_reads one e short (Some fields) f h =
      made_reads one fields e short ((fields_found blob).sound fields f) (made context nonces fields
      (transaction_of true fields blob) e
      (ok_again (judged context nonces fields (transaction_of true fields blob)) e h))

pub accepted_emission : OneHeader → AcceptedReads
accepted_emission one blob context nonces e h =
    either (nat_lt longest (length blob))
    (λ long. none_some e (sym (accepted_long blob context nonces (grind (arith, nat_tests, long))) ∙ h))
    (λ fits.
    let short : length blob ≤ longest = grind (arith, nat_tests, fits) in
    found_reads blob context nonces one e short (fields_of blob) refl
    (sym (accepted_short blob context nonces short) ∙ h))
