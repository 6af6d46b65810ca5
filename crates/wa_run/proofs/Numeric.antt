-- Numeric instructions on words, against those on typed operands.
use Rattle.std.proofs.Common.{◌≡◌, ◌^◌, ◌<◌, ◌==◌, ◌||◌, ℕ, List, [], ◌∷◌, ◌++◌, Result, Ok, Err, Bool, true, false}
use Rattle.std.proofs.Common.{IsTrue, if◌then◌else◌, length, append_assoc, sym, ◌∙◌, ap, subst, refl, arith}
use Rattle.hk_base.specs.declared.outcome.Outcome.TheVariants.{Trapped}
use Rattle.hk_base.specs.declared.outcome.Trap.{Trap}
use Rattle.wa_ops.specs.declared.op.Op.TheVariants as op
use Rattle.wa_ops.specs.declared.op.ValueType.{ValueType}
use Rattle.wa_ops.specs.declared.op.ValueType.TheVariants.{I32, I64, F32, F64}
use Rattle.wa_ops.specs.declared.opcode.Form.TheVariants as forms
use Rattle.wa_ops.specs.Accesses.{number_takes, number_gives}
use Rattle.wa_ops.specs.Opcodes.{is_load, is_store, is_float_access, is_number, is_float_number, form_at}
use Rattle.wa_machine.specs.Law.{types_of}
use Rattle.wa_machine.specs.Machine.{Value, word32, word64, word_of, value_of, first, second, numeric, finish, Region}
use Rattle.wa_machine.specs.Machine.{Configuration, World, Step, ended, act}
use Rattle.wa_run.specs.Flat.{words_of, all_words, IsValue, AllValues}
use Rattle.wa_run.specs.Acts.{Holds, IsNoFault, Meets, GoesOn}
use Rattle.wa_run.specs.Numbers.{kinds_of, taken_words}
use Rattle.wa_run.specs.declared.store.Store.{Store}
use Rattle.wa_run.proofs.Plain.{FindsAll, found_all, Keeps, with_words}
use Rattle.wa_run.proofs.Leaving.{words_append}

-- an opcode of this form is a number's
pub number_form : (n : ℕ) → form_at n ≡ forms.Number → IsTrue (is_number n)
number_form n h =
    at (is_load n) (is_store n) (is_float_access n) (n == 0x43) (n == 0x44) (is_number n) (is_float_number n) h
  where
    at : (a b c d e f g : Bool) →
        (if a then forms.Load else if b then forms.Store else if c then forms.FloatAccess else if d || e
        then forms.FloatConstant else if f then forms.Number else if g then forms.FloatNumber else forms.Other)
        ≡ forms.Number → IsTrue f
    at a b c d e true g h = refl
    at true b c d e false g h = absurd cc
    at false true c d e false g h = absurd cc
    at false false true d e false g h = absurd cc
    at false false false true e false g h = absurd cc
    at false false false false true false g h = absurd cc
    at false false false false false false true h = absurd cc
    at false false false false false false false h = absurd cc

-- ---- the operands that are taken

-- operands of these kinds, as words
pub record Takes (narrow paired : Bool) (taken : List Value) : Type 0 where
  pub words : words_of taken ≡ taken_words paired (second taken) (first taken)
  pub one : paired ≡ false → second taken ≡ 0
  pub fit : IsTrue narrow → AllValues taken → (second taken < 2 ^ 32) × (first taken < 2 ^ 32)

pub takes : (narrow paired : Bool) (taken : List Value) → types_of taken ≡ kinds_of narrow paired →
    Takes narrow paired taken
takes true true (word32 a ∷ word32 b ∷ []) t = record { words = refl; one = λ e. absurd cc; fit = λ n v. (v.1.0, v.0) }
takes false true (a ∷ b ∷ []) t = record { words = refl; one = λ e. absurd cc; fit = λ n v. absurd cc }
takes true false (word32 a ∷ []) t = record { words = refl; one = λ e. refl; fit = λ n v. (omega arith, v.0) }
takes false false (a ∷ []) t = record { words = refl; one = λ e. refl; fit = λ n v. absurd cc }
takes narrow paired taken t = absurd cc

-- the operands of a numeric instruction that meets no fault
pub record FindsOperands {S : Type 0} (n : ℕ) (narrow paired : Bool) (operands : List Value) (region : Region)
    (around : List Region) (c : Configuration S) : Type 0 where
  pub taken : List Value
  pub left : List Value
  pub is : operands ≡ taken ++ left
  pub takes : Takes narrow paired taken
  pub same : (world : World S) →
      act world (op.Number n) region around operands c ≡ finish (numeric n taken) (number_gives n) region around left c

pub found_operands : {S : Type 0} (world : World S) (n : ℕ) (narrow paired : Bool) (operands : List Value)
    (region : Region) (around : List Region) (c : Configuration S) → number_takes n ≡ kinds_of narrow paired →
    IsNoFault (act world (op.Number n) region around operands c) →
    FindsOperands n narrow paired operands region around c
found_operands {S} world n narrow paired operands region around c k s =
    let go : List Value → List Value → Step S =
    λ taken left. finish (numeric n taken) (number_gives n) region around left c in
    let f : FindsAll (number_takes n) operands go = found_all (number_takes n) operands go s in
    record {
      taken = f.taken;
      left = f.left;
      is = f.is;
      takes = takes narrow paired f.taken (f.types ∙ k);
      same = λ w. f.same;
    }

-- these words are taken
pub record TakesWords (taken : List Value) (before last : ℕ) (words left : List ℕ) : Type 0 where
  pub before_is : second taken ≡ before
  pub last_is : first taken ≡ last
  pub left_is : words ≡ left

pub takes_words : (paired : Bool) (taken : List Value) (before last : ℕ) (words left : List ℕ) →
    words_of taken ≡ taken_words paired (second taken) (first taken) → (paired ≡ false → second taken ≡ 0) →
    (paired ≡ false → before ≡ 0) →
    words_of taken ++ words ≡ taken_words paired before last ++ left → TakesWords taken before last words left
takes_words true taken before last words left w z y e =
    let p : (first taken ∷ second taken ∷ []) ++ words ≡ last ∷ before ∷ left = ap (λ ws. ws ++ words) (sym w) ∙ e in
    record { before_is = cc; last_is = cc; left_is = cc }
takes_words false taken before last words left w z y e =
    let p : (first taken ∷ []) ++ words ≡ last ∷ left = ap (λ ws. ws ++ words) (sym w) ∙ e in
    record { before_is = z refl ∙ sym (y refl); last_is = cc; left_is = cc }

-- ---- what the code needs

-- what a numeric instruction finds in these words
pub record Needs (narrow paired : Bool) (words : List ℕ) : Type 0 where
  pub some : 0 < length words
  pub two : IsTrue paired → 1 < length words
  pub fit : (before last : ℕ) (left : List ℕ) → words ≡ taken_words paired before last ++ left →
      (paired ≡ false → before ≡ 0) → IsTrue narrow → (before < 2 ^ 32) × (last < 2 ^ 32)

pub words_need : (narrow paired : Bool) (taken : List Value) (words left : List ℕ) → Takes narrow paired taken →
    AllValues taken → words ≡ words_of taken ++ left → Needs narrow paired words
words_need narrow paired taken words left t v e = record {
  some = size paired (e ∙ ap (λ ws. ws ++ left) t.words);
  two = λ p. sizes paired p (e ∙ ap (λ ws. ws ++ left) t.words);
  fit = λ before last more i z n.
      let k : TakesWords taken before last left more =
      takes_words paired taken before last left more t.words t.one z (sym e ∙ i) in
      let f : (second taken < 2 ^ 32) × (first taken < 2 ^ 32) = t.fit n v in
      (subst (λ m. m < 2 ^ 32) k.before_is f.0, subst (λ m. m < 2 ^ 32) k.last_is f.1);
}
  where
    size : (b : Bool) → words ≡ taken_words b (second taken) (first taken) ++ left → 0 < length words
    size true i = omega (arith, ap length i)
    size false i = omega (arith, ap length i)

    sizes : (b : Bool) → IsTrue b → words ≡ taken_words b (second taken) (first taken) ++ left → 1 < length words
    sizes true p i = omega (arith, ap length i)
    sizes false p i = absurd cc

pub fit_front : (a b : List Value) → AllValues (a ++ b) → AllValues a
fit_front [] b v = tt
fit_front (value ∷ a) b v = (v.0, fit_front a b v.1)

pub fit_back : (a b : List Value) → AllValues (a ++ b) → AllValues b
fit_back [] b v = v
fit_back (value ∷ a) b v = fit_back a b v.1

-- the words of operands of which some are taken
pub taken_first : (around : List Region) (operands taken left : List Value) (words : List ℕ) →
    words ≡ words_of operands ++ all_words around → operands ≡ taken ++ left →
    words ≡ words_of taken ++ (words_of left ++ all_words around)
taken_first around operands taken left words w i =
    w
    ∙ ap (λ vs. words_of vs ++ all_words around) i
    ∙ ap (λ ws. ws ++ all_words around) (words_append taken left)
    ∙ append_assoc (words_of taken) (words_of left) (all_words around)

pub number_needs : (S : Type 0) (n : ℕ) (narrow paired : Bool) (store : Store) →
    number_takes n ≡ kinds_of narrow paired → Meets S (op.Number n) store → Needs narrow paired store.words.items
number_needs S n narrow paired store k m =
    let f : FindsOperands n narrow paired m.operands m.region m.around m.c =
    found_operands m.world n narrow paired m.operands m.region m.around m.c k m.sound in
    words_need narrow paired f.taken store.words.items (words_of f.left ++ all_words m.around) f.takes
    (fit_front f.taken f.left (subst AllValues f.is m.holds.operands_fit))
    (taken_first m.around m.operands f.taken f.left store.words.items m.holds.words f.is)

-- ---- what the instruction does

pub value_word : (kind : ValueType) (n : ℕ) → word_of (value_of kind n) ≡ n
value_word I32 n = refl
value_word I64 n = refl
value_word F32 n = refl
value_word F64 n = refl

pub value_fits : (kind : ValueType) (n : ℕ) → n < 2 ^ 64 → ((kind ≡ I64 → ⊥) → n < 2 ^ 32) → IsValue (value_of kind n)
value_fits I64 n b f = b
value_fits I32 n b f = f (λ e. absurd cc)
value_fits F32 n b f = f (λ e. absurd cc)
value_fits F64 n b f = f (λ e. absurd cc)

-- a number depends on the words of its operands alone
pub numeric_words : (n : ℕ) (taken : List Value) (before last : ℕ) → second taken ≡ before → first taken ≡ last →
    numeric n taken ≡ numeric n (word64 last ∷ word64 before ∷ [])
numeric_words n taken before last b l =
    ap (λ (m : ℕ). numeric n (word64 (first taken) ∷ word64 m ∷ [])) b
    ∙ ap (λ (m : ℕ). numeric n (word64 m ∷ word64 before ∷ [])) l

-- the operands of an instruction that was carried out, and its number
pub record Calculates {S : Type 0} (n before last : ℕ) (left : List ℕ) (operands : List Value) (region : Region)
    (around : List Region) (c : Configuration S) : Type 0 where
  pub below : List Value
  pub words : words_of below ++ all_words around ≡ left
  pub fit : AllValues below
  pub same : (world : World S) →
      act world (op.Number n) region around operands c
      ≡ finish (numeric n (word64 last ∷ word64 before ∷ [])) (number_gives n) region around below c

pub calculates : {S : Type 0} (world : World S) (n : ℕ) (narrow paired : Bool) (before last : ℕ) (left : List ℕ)
    (old : Store) (operands : List Value) (region : Region) (around : List Region) (c : Configuration S) →
    number_takes n ≡ kinds_of narrow paired → old.words.items ≡ taken_words paired before last ++ left →
    (paired ≡ false → before ≡ 0) → Holds around operands c.locals c.globals c.memory old →
    IsNoFault (act world (op.Number n) region around operands c) →
    Calculates n before last left operands region around c
calculates world n narrow paired before last left old operands region around c k i z h s =
    let f : FindsOperands n narrow paired operands region around c =
    found_operands world n narrow paired operands region around c k s in
    let e : old.words.items ≡ words_of f.taken ++ (words_of f.left ++ all_words around) =
    taken_first around operands f.taken f.left old.words.items h.words f.is in
    let t : TakesWords f.taken before last (words_of f.left ++ all_words around) left =
    takes_words paired f.taken before last (words_of f.left ++ all_words around) left f.takes.words f.takes.one z
    (sym e ∙ i) in
    record {
      below = f.left;
      words = t.left_is;
      fit = fit_back f.taken f.left (subst AllValues f.is h.operands_fit);
      same =
          λ w.
          f.same w
          ∙ ap (λ (number : Result ℕ Trap). finish number (number_gives n) region around f.left c)
          (numeric_words n f.taken before last t.before_is t.last_is);
    }

pub number_acts : {S : Type 0} (n : ℕ) (narrow paired : Bool) (before last number : ℕ) (left : List ℕ)
    (old new : Store) → number_takes n ≡ kinds_of narrow paired →
    old.words.items ≡ taken_words paired before last ++ left →
    (paired ≡ false → before ≡ 0) → numeric n (word64 last ∷ word64 before ∷ []) ≡ Ok number → number < 2 ^ 64 →
    ((number_gives n ≡ I64 → ⊥) → number < 2 ^ 32) → new.words.items ≡ number ∷ left → Keeps old new →
    (world : World S) (region : Region) (around : List Region) (operands : List Value) (c : Configuration S) →
    Holds around operands c.locals c.globals c.memory old →
    IsNoFault (act world (op.Number n) region around operands c) →
    GoesOn (act world (op.Number n) region around operands c) region around c new
number_acts n narrow paired before last number left old new k i z e b f j keeps world region around operands c h s =
    let t : Calculates n before last left operands region around c =
    calculates world n narrow paired before last left old operands region around c k i z h s in
    record {
      operands = value_of (number_gives n) number ∷ t.below;
      after = c;
      step_is = t.same world ∙ ap (λ (found : Result ℕ Trap). finish found (number_gives n) region around t.below c) e;
      holds =
          with_words around operands (value_of (number_gives n) number ∷ t.below) c old new h
          (value_fits (number_gives n) number b f, t.fit)
          (j
          ∙ ap (λ words. number ∷ words) (sym t.words)
          ∙ ap (λ word. word ∷ (words_of t.below ++ all_words around)) (sym (value_word (number_gives n) number)))
          keeps;
      guards = refl;
      host = refl;
    }

pub number_traps : {S : Type 0} (n : ℕ) (narrow paired : Bool) (before last : ℕ) (cause : Trap) (left : List ℕ)
    (old : Store) → number_takes n ≡ kinds_of narrow paired → old.words.items ≡ taken_words paired before last ++ left →
    (paired ≡ false → before ≡ 0) → numeric n (word64 last ∷ word64 before ∷ []) ≡ Err cause →
    (world : World S) (region : Region) (around : List Region) (operands : List Value) (c : Configuration S) →
    Holds around operands c.locals c.globals c.memory old →
    IsNoFault (act world (op.Number n) region around operands c) →
    act world (op.Number n) region around operands c ≡ ended (Trapped cause) c
number_traps n narrow paired before last cause left old k i z e world region around operands c h s =
    let t : Calculates n before last left operands region around c =
    calculates world n narrow paired before last left old operands region around c k i z h s in
    t.same world ∙ ap (λ (found : Result ℕ Trap). finish found (number_gives n) region around t.below c) e
