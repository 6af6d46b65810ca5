-- The command `asm`: what was taken and written when it answered.
use Rattle.std.proofs.Common.{◌≡◌, ◌≢◌, ◌≤◌, ◌<◌, ◌+◌, ℕ, ◌⊎◌, inl, inr, Bool, true, false, List, [], ◌∷◌, ◌++◌, length}
use Rattle.std.proofs.Common.{take}
use Rattle.std.proofs.Common.{nat_le, if◌then◌else◌, Option, Some, None, refl, ap, sym, subst, ◌∙◌, arith, append-nil}
use Rattle.std.proofs.Common.{length-append}
use Rattle.std.proofs.lemmas.Bool.Decides.{nat_tests}
use Rattle.std.proofs.lemmas.List.{take-append-le}
use Rattle.std.specs.Io.KnownBytes.{Appends}
use Rattle.std.proofs.KnownBytes.{Appends-nil}
use Rattle.hk_asm.specs.Assembling.{asm_given, longest_text, told, told_at, undone, whole_lines}
use Rattle.hk_asm.proofs.Telling.{told_full, told_short, shown_late}
use Rattle.wa_text.specs.Meaning.{Meaning, means, breaks, unended, meaning}
use Rattle.hk_lines.specs.Given.{Close, opened, ended, full, Given, IsFront}
use Rattle.hk_lines.specs.declared.status.Status.{Status}
use Rattle.hk_lines.specs.declared.status.Status.TheVariants.{Done, Usage, BadInput, ReadFault, WriteFault, NoMemory}
use Rattle.hk_lines.specs.declared.status.Status.TheVariants.{TooLong}
use Rattle.hk_loop.specs.Answers.{IsAnswer, WroteFront, Gave}
use Rattle.hk_loop.specs.Gathered.{Gathered, Halted}
use Rattle.hk_loop.specs.Through.{close_at}
use Rattle.hk_loop.proofs.Exits.{wrote_front}
use Rattle.hk_replay.specs.declared.command.Command.TheVariants.{Asm}
use Rattle.hk_replay.specs.Moved.{Answered, Stops}

-- where the limit is reached, a text with more behind it is told the same as the text
full_same : (text rest : List ℕ) (close : Close) → longest_text ≤ length text →
    asm_given (text ++ rest) close ≡ asm_given text ended
full_same text rest close long =
    told_full (text ++ rest) close (omega (arith, length-append text rest, long))
    ∙ ap (told_at full) (take-append-le longest_text text rest long)
    ∙ sym (told_full text ended long)

-- these bytes were taken of a text, and these are left
module _ (text rest : List ℕ) (whole : length text < longest_text → rest ≡ []) where
  all_same : asm_given (text ++ rest) ended ≡ asm_given text ended
  all_same = of (nat_le longest_text (length text)) refl where
    of : (test : Bool) → nat_le longest_text (length text) ≡ test →
        asm_given (text ++ rest) ended ≡ asm_given text ended
    of true is = full_same text rest ended (grind (arith, nat_tests))
    of false is =
        ap (λ bytes. asm_given bytes ended)
        (ap (λ more. text ++ more) (whole (grind (arith, nat_tests))) ∙ append-nil text)

  -- what comes behind it makes no difference
  closed_same : asm_given text (close_at rest) ≡ asm_given text ended
  closed_same = of (nat_le longest_text (length text)) refl where
    of : (test : Bool) → nat_le longest_text (length text) ≡ test →
        asm_given text (close_at rest) ≡ asm_given text ended
    of true is =
        let long : longest_text ≤ length text = grind (arith, nat_tests) in
        told_full text (close_at rest) long ∙ sym (told_full text ended long)
    of false is = ap (λ more. asm_given text (close_at more)) (whole (grind (arith, nat_tests)))

-- ---- statuses of texts

abbrev pub IsTextStatus : Status → Type 0
IsTextStatus Done = Unit {0}
IsTextStatus BadInput = Unit {0}
IsTextStatus TooLong = Unit {0}
IsTextStatus other = ⊥

undone_known : (is_full : Bool) (number : ℕ) (status : Status) → (undone is_full number).status ≡ Some status →
    IsTextStatus status
undone_known false number status is = let same : BadInput ≡ status = cc in subst IsTextStatus same tt
undone_known true number status is = let same : TooLong ≡ status = cc in subst IsTextStatus same tt

told_known : (is_full : Bool) (found : Meaning) (status : Status) → (told is_full found).status ≡ Some status →
    IsTextStatus status
told_known is_full (means found) status is = let same : Done ≡ status = cc in subst IsTextStatus same tt
told_known is_full (breaks number rule) status is = let same : BadInput ≡ status = cc in subst IsTextStatus same tt
told_known is_full (unended number) status is = undone_known is_full number status is

pub status_known : (bytes : List ℕ) (status : Status) → (asm_given bytes ended).status ≡ Some status →
    IsTextStatus status
status_known bytes status = of (nat_le longest_text (length bytes)) where
  of : (test : Bool) →
      (if test then told_at full (take longest_text bytes) else told_at ended bytes).status ≡ Some status →
      IsTextStatus status
  of true is = told_known true (meaning (whole_lines (take longest_text bytes))) status is
  of false is = told_known false (meaning bytes) status is

pub answers : (status : Status) → IsTextStatus status → IsAnswer status
answers Done known = tt
answers BadInput known = tt
answers TooLong known = tt
answers other known = absurd known

pub never_usage : (result status : Status) → (IsAnswer result → result ≡ status) → IsTextStatus status → result ≢ Usage
never_usage result status same known usage =
    let is : result ≡ status = same (subst IsAnswer (sym usage) tt) in
    subst IsTextStatus (sym is ∙ usage) known

-- ---- no text that is short is too long

told_not_long : (found : Meaning) → (told false found).status ≡ Some TooLong → ⊥
told_not_long (means found) is = cc
told_not_long (breaks number rule) is = cc
told_not_long (unended number) is = cc

long_is_full : (text : List ℕ) → length text ≤ longest_text → (asm_given text ended).status ≡ Some TooLong →
    length text ≡ longest_text
long_is_full text few is = of (nat_le longest_text (length text)) refl where
  of : (test : Bool) → nat_le longest_text (length text) ≡ test → length text ≡ longest_text
  of true known = let long : longest_text ≤ length text = grind (arith, nat_tests) in omega (arith, long, few)
  of false known =
      let same = told_short text ended (grind (arith, nat_tests)) in
      absurd (told_not_long (meaning text) (sym (ap (λ given. given.status) same) ∙ is))

-- ---- while bytes are taken nothing is due

module _ (text : List ℕ) (few : length text ≤ longest_text) (early late : List ℕ) (parts : text ≡ early ++ late)
    (much : 65536 ≤ length late) where
  early_short : length early < longest_text
  early_short = omega (arith, ap length parts, length-append early late, few, much)

  nothing_due : (front due : List ℕ) → due ≡ (asm_given early opened).text → IsFront due front
  nothing_due front due is =
      (front, ap (λ t. t ++ front) (sym (is ∙ ap (λ given. given.text) (shown_late early early_short))))

  goes_on : (asm_given early opened).status ≡ None
  goes_on = ap (λ given. given.status) (shown_late early early_short)

-- ---- the answer

pub text_answered : (bytes text : List ℕ) (status : Status) (left left' before now : Option (List ℕ)) →
    left ≡ Some bytes →
    Gathered longest_text text left left' → Gave (asm_given text ended) status before now →
    Answered Asm bytes status before now
text_answered bytes text status left left' before now known gathered gave =
    of left' (subst (λ l. Gathered longest_text text l left') known gathered) where
      of : (left' : Option (List ℕ)) → Gathered longest_text text (Some bytes) left' →
          Answered Asm bytes status before now
      of None g = absurd g.consumed
      of (Some rest) g =
          let same : asm_given bytes ended ≡ asm_given text ended =
          ap (λ b. asm_given b ended) g.consumed ∙ all_same text rest g.whole in
          record {
            text = (asm_given text ended).text;
            given = (ap (λ given. given.text) (sym same), ap (λ given. given.status) same ∙ gave.ended);
            wrote = gave.wrote;
          }

stops_with : (bytes text rest : List ℕ) (status : Status) (before now : Option (List ℕ)) →
    Gathered longest_text text (Some bytes) (Some rest) →
    (status ≡ TooLong → (asm_given text ended).status ≡ Some TooLong) →
    WroteFront (asm_given text ended).text before now → Stops Asm bytes status (Some rest) before now
stops_with bytes text rest status before now g long w = record {
  taken = text;
  rest = rest;
  front = w.front;
  split = g.consumed;
  told = refl;
  wrote = w.wrote;
  few = g.few;
  full = λ is. long_is_full text g.few (long is);
  due = inr (record {
    text = (asm_given text (close_at rest)).text;
    due = refl;
    is = (w.more, ap (λ given. given.text) (closed_same text rest g.whole) ∙ w.whole);
  });
  prompt = λ early late due parts much is. nothing_due text g.few early late parts much w.front due is;
  reads_on = λ early late parts much. goes_on text g.few early late parts much;
}

pub text_stops : (bytes text : List ℕ) (status : Status) (left left' before now : Option (List ℕ)) → left ≡ Some bytes →
    Gathered longest_text text left left' → (IsAnswer status → Gave (asm_given text ended) status before now) →
    ((IsAnswer status → ⊥) → WroteFront (asm_given text ended).text before now) →
    Stops Asm bytes status left' before now
text_stops bytes text status left left' before now known gathered gave front =
    of left' (subst (λ l. Gathered longest_text text l left') known gathered) where
      long : status ≡ TooLong → (asm_given text ended).status ≡ Some TooLong
      long is = (gave (subst IsAnswer (sym is) tt)).ended ∙ ap Some is

      of : (left' : Option (List ℕ)) → Gathered longest_text text (Some bytes) left' →
          Stops Asm bytes status left' before now
      of None g = absurd g.consumed
      of (Some rest) g =
          stops_with bytes text rest status before now g long
          (wrote_front status (asm_given text ended) before now gave front)

-- ---- it was halted

pub no_answer : (status : Status) → (status ≡ ReadFault) ⊎ (status ≡ NoMemory) → IsAnswer status → ⊥
no_answer status (inl is) answer = subst IsAnswer is answer
no_answer status (inr is) answer = subst IsAnswer is answer

halts_with : (bytes rest : List ℕ) (status : Status) (now : Option (List ℕ)) →
    Halted longest_text status (Some bytes) (Some rest) → Stops Asm bytes status (Some rest) now now
halts_with bytes rest status now h = record {
  taken = h.taken;
  rest = rest;
  front = [];
  split = h.consumed;
  told = refl;
  wrote = Appends-nil now;
  few = h.few;
  full = λ is. absurd (no_answer status h.why (subst IsAnswer (sym is) tt));
  due = inl refl;
  prompt = λ early late due parts much is. nothing_due h.taken h.few early late parts much [] due is;
  reads_on = λ early late parts much. goes_on h.taken h.few early late parts much;
}

pub halt_stops : (bytes : List ℕ) (status : Status) (left left' now : Option (List ℕ)) → left ≡ Some bytes →
    Halted longest_text status left left' → Stops Asm bytes status left' now now
halt_stops bytes status left left' now known halted =
    of left' (subst (λ l. Halted longest_text status l left') known halted) where
      of : (left' : Option (List ℕ)) → Halted longest_text status (Some bytes) left' →
          Stops Asm bytes status left' now now
      of None h = absurd h.consumed
      of (Some rest) h = halts_with bytes rest status now h

pub halt_cause : (status : Status) → (status ≡ ReadFault) ⊎ (status ≡ NoMemory) → status ≡ WriteFault → ⊥
halt_cause status (inl is) fault = cc
halt_cause status (inr is) fault = cc

pub halt_no_usage : (status : Status) → (status ≡ ReadFault) ⊎ (status ≡ NoMemory) → status ≢ Usage
halt_no_usage status (inl is) usage = cc
halt_no_usage status (inr is) usage = cc

-- ---- what was sent, and what was told

pub gave_of : (given : Given) (text sent : List ℕ) (status result : Status) (before now : Option (List ℕ)) →
    sent ≡ text → (text ≡ given.text) × (given.status ≡ Some status) → (result ≡ status) × Appends before now sent →
    Gave given result before now
gave_of given text sent status result before now same told wrote = record {
  wrote = subst (λ t. Appends before now t) (same ∙ told.0) wrote.1;
  ended = told.1 ∙ ap Some (sym wrote.0);
}

pub front_of : (given : Given) (text sent : List ℕ) (before now : Option (List ℕ)) → sent ≡ text → text ≡ given.text →
    WroteFront sent before now → WroteFront given.text before now
front_of given text sent before now same told wrote = subst (λ t. WroteFront t before now) (same ∙ told) wrote

pub gathered_as : (text sent : List ℕ) (left left' : Option (List ℕ)) → sent ≡ text →
    Gathered longest_text text left left' → Gathered longest_text sent left left'
gathered_as text sent left left' same gathered = subst (λ t. Gathered longest_text t left left') (sym same) gathered
