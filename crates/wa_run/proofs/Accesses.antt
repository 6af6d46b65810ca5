-- Loads and stores on words, against those on typed operands.
use Rattle.std.proofs.Common.{◌≡◌, ◌+◌, ◌^◌, ◌<◌, ◌≤◌, ◌==◌, ◌||◌, ℕ, List, [], ◌∷◌, ◌++◌, Some, None, Bool, true}
use Rattle.std.proofs.Common.{false, IsTrue, if◌then◌else◌, length, sym, ◌∙◌, ap, subst, refl, arith}
use Rattle.std.proofs.lemmas.Bool.{leb-true, le-leb}
use Rattle.hk_base.specs.declared.outcome.Outcome.TheVariants.{Trapped}
use Rattle.hk_base.specs.declared.outcome.Trap.TheVariants as trap
use Rattle.wa_num.specs.Memory.{fits, loaded, cells, written}
use Rattle.wa_num.proofs.Lengths.{length-written}
use Rattle.wa_ops.specs.declared.op.Op.TheVariants as op
use Rattle.wa_ops.specs.declared.op.ValueType.TheVariants.{I32, I64}
use Rattle.wa_ops.specs.declared.opcode.Form.TheVariants as forms
use Rattle.wa_ops.specs.Accesses.{load_type, load_width, is_signed_load, store_type, store_width}
use Rattle.wa_ops.specs.Opcodes.{is_load, is_store, is_float_access, is_number, is_float_number, form_at}
use Rattle.wa_machine.specs.Law.{types_of}
use Rattle.wa_machine.specs.Machine as machine
use Rattle.wa_machine.specs.Machine.{Value, word32, word64, type_of, word_of, value_of, first, second, extended, Region}
use Rattle.wa_machine.specs.Machine.{Configuration, World, Step, ended, onward, act}
use Rattle.wa_run.specs.Flat.{words_of, all_words, AllValues}
use Rattle.wa_run.specs.Acts.{Holds, IsNoFault, Meets, GoesOn}
use Rattle.wa_run.specs.declared.store.Store.{Store}
use Rattle.wa_run.proofs.Plain.{FindsAll, found_all, FindsWord, found_word, Keeps, with_words}
use Rattle.wa_run.proofs.Numeric.{value_word, value_fits}

-- an opcode of this form is a load's
pub load_form : (n : ℕ) → form_at n ≡ forms.Load → IsTrue (is_load n)
load_form n h =
    at (is_load n) (is_store n) (is_float_access n) (n == 0x43) (n == 0x44) (is_number n) (is_float_number n) h
  where
    at : (a b c d e f g : Bool) →
        (if a then forms.Load else if b then forms.Store else if c then forms.FloatAccess else if d || e
        then forms.FloatConstant else if f then forms.Number else if g then forms.FloatNumber else forms.Other)
        ≡ forms.Load → IsTrue a
    at true b c d e f g h = refl
    at false true c d e f g h = absurd cc
    at false false true d e f g h = absurd cc
    at false false false true e f g h = absurd cc
    at false false false false true f g h = absurd cc
    at false false false false false true g h = absurd cc
    at false false false false false false true h = absurd cc
    at false false false false false false false h = absurd cc

-- ---- loads

-- the address is there, and is one of 32 bits
pub record HasAddress (words : List ℕ) : Type 0 where
  pub some : 0 < length words
  pub fit : (address : ℕ) (left : List ℕ) → words ≡ address ∷ left → address < 2 ^ 32

pub load_needs : (S : Type 0) (n align offset : ℕ) (store : Store) → Meets S (op.Load n align offset) store →
    HasAddress store.words.items
load_needs S n align offset store m =
    let go : ℕ → List Value → Step S =
    λ address left. machine.load n (loaded m.c.memory (address + offset) (load_width n)) m.region m.around left m.c in
    let f : FindsWord m.operands = found_word m.operands go m.sound in
    let w : store.words.items ≡ f.word ∷ (words_of f.left ++ all_words m.around) =
    m.holds.words ∙ ap (λ values. words_of values ++ all_words m.around) f.is in
    let v : AllValues (word32 f.word ∷ f.left) = subst AllValues f.is m.holds.operands_fit in
    record {
      some = omega (arith, ap length w);
      fit = λ address left e. let p : f.word ≡ address = cc in subst (λ number. number < 2 ^ 32) p v.0;
    }

pub load_acts : {S : Type 0} (n align offset : ℕ) (old new : Store) (address found number : ℕ) (left : List ℕ) →
    old.words.items ≡ address ∷ left → loaded old.memory (address + offset) (load_width n) ≡ Some found →
    number ≡ (if is_signed_load n then extended (load_width n) (load_type n) found else found) → number < 2 ^ 64 →
    ((load_type n ≡ I64 → ⊥) → number < 2 ^ 32) → new.words.items ≡ number ∷ left → Keeps old new →
    (world : World S) (region : Region) (around : List Region) (operands : List Value) (c : Configuration S) →
    Holds around operands c.locals c.globals c.memory old →
    IsNoFault (act world (op.Load n align offset) region around operands c) →
    GoesOn (act world (op.Load n align offset) region around operands c) region around c new
load_acts n align offset old new address found number left i l e b f j keeps world region around [] c h s = absurd s
load_acts n align offset old new address found number left i l e b f j keeps world region around (word64 a ∷ below) c h
    s =
    absurd s
load_acts n align offset old new address found number left i l e b f j keeps world region around (word32 a ∷ below) c h
    s =
    let w : old.words.items ≡ a ∷ (words_of below ++ all_words around) = h.words in
    let p : a ≡ address = cc in
    let q : left ≡ words_of below ++ all_words around = cc in
    let m : loaded c.memory (a + offset) (load_width n) ≡ Some found =
    ap (λ bytes. loaded bytes (a + offset) (load_width n)) (sym h.memory_is)
    ∙ ap (λ place. loaded old.memory (place + offset) (load_width n)) p
    ∙ l in
    record {
      operands = value_of (load_type n) number ∷ below;
      after = c;
      step_is =
          ap (λ read. machine.load n read region around below c) m
          ∙ ap (λ word. onward region around (value_of (load_type n) word ∷ below) c) (sym e);
      holds =
          with_words around (word32 a ∷ below) (value_of (load_type n) number ∷ below) c old new h
          (value_fits (load_type n) number b f, h.operands_fit.1)
          (j
          ∙ ap (λ words. number ∷ words) q
          ∙ ap (λ word. word ∷ (words_of below ++ all_words around)) (sym (value_word (load_type n) number))) keeps;
      guards = refl;
      host = refl;
    }

pub load_traps : {S : Type 0} (n align offset : ℕ) (old : Store) (address : ℕ) (left : List ℕ) →
    old.words.items ≡ address ∷ left → loaded old.memory (address + offset) (load_width n) ≡ None →
    (world : World S) (region : Region) (around : List Region) (operands : List Value) (c : Configuration S) →
    Holds around operands c.locals c.globals c.memory old →
    IsNoFault (act world (op.Load n align offset) region around operands c) →
    act world (op.Load n align offset) region around operands c ≡ ended (Trapped trap.Memory) c
load_traps n align offset old address left i l world region around [] c h s = absurd s
load_traps n align offset old address left i l world region around (word64 a ∷ below) c h s = absurd s
load_traps n align offset old address left i l world region around (word32 a ∷ below) c h s =
    let w : old.words.items ≡ a ∷ (words_of below ++ all_words around) = h.words in
    let p : a ≡ address = cc in
    let m : loaded c.memory (a + offset) (load_width n) ≡ None =
    ap (λ bytes. loaded bytes (a + offset) (load_width n)) (sym h.memory_is)
    ∙ ap (λ place. loaded old.memory (place + offset) (load_width n)) p
    ∙ l in
    ap (λ read. machine.load n read region around below c) m

-- ---- stores

-- a store that meets no fault finds a number and an address
pub record FindsStored {S : Type 0} (n align offset : ℕ) (operands : List Value) (region : Region)
    (around : List Region) (c : Configuration S) : Type 0 where
  pub value : Value
  pub address : ℕ
  pub below : List Value
  pub is : operands ≡ value ∷ word32 address ∷ below
  pub same : (world : World S) →
      act world (op.Store n align offset) region around operands c
      ≡ machine.store n (address + offset) (word_of value) region around below c

pub found_stored : {S : Type 0} (world : World S) (n align offset : ℕ) (operands : List Value) (region : Region)
    (around : List Region) (c : Configuration S) →
    IsNoFault (act world (op.Store n align offset) region around operands c) →
    FindsStored n align offset operands region around c
found_stored {S} world n align offset operands region around c s = at f.taken f.left f.is f.types f.same
  where
    go : List Value → List Value → Step S
    go taken left = machine.store n (second taken + offset) (first taken) region around left c

    f : FindsAll (store_type n ∷ I32 ∷ []) operands go
    f = found_all (store_type n ∷ I32 ∷ []) operands go s

    at : (taken left : List Value) → operands ≡ taken ++ left → types_of taken ≡ store_type n ∷ I32 ∷ [] →
        machine.with_all (store_type n ∷ I32 ∷ []) operands go ≡ go taken left →
        FindsStored n align offset operands region around c
    at (value ∷ word32 address ∷ []) left i t e = record {
      value = value;
      address = address;
      below = left;
      is = i;
      same = λ w. e;
    }
    at [] left i t e = let p : [] ≡ (store_type n ∷ I32 ∷ []) = t in absurd cc
    at (value ∷ []) left i t e = let p : (type_of value ∷ []) ≡ (store_type n ∷ I32 ∷ []) = t in absurd cc
    at (value ∷ word64 address ∷ []) left i t e =
        let p : (type_of value ∷ I64 ∷ []) ≡ (store_type n ∷ I32 ∷ []) = t in absurd cc
    at (value ∷ address ∷ other ∷ more) left i t e =
        let p : (type_of value ∷ type_of address ∷ type_of other ∷ types_of more) ≡ (store_type n ∷ I32 ∷ []) = t in
        absurd cc

-- the number and the address are there, and the address is one of 32 bits
pub record HasStored (words : List ℕ) : Type 0 where
  pub two : 1 < length words
  pub fit : (word address : ℕ) (left : List ℕ) → words ≡ word ∷ address ∷ left → address < 2 ^ 32

pub write_needs : (S : Type 0) (n align offset : ℕ) (store : Store) → Meets S (op.Store n align offset) store →
    HasStored store.words.items
write_needs S n align offset store m =
    let f : FindsStored n align offset m.operands m.region m.around m.c =
    found_stored m.world n align offset m.operands m.region m.around m.c m.sound in
    let w : store.words.items ≡ word_of f.value ∷ f.address ∷ (words_of f.below ++ all_words m.around) =
    m.holds.words ∙ ap (λ values. words_of values ++ all_words m.around) f.is in
    let v : AllValues (f.value ∷ word32 f.address ∷ f.below) = subst AllValues f.is m.holds.operands_fit in
    record {
      two = omega (arith, ap length w);
      fit = λ word address left e. let p : f.address ≡ address = cc in subst (λ number. number < 2 ^ 32) p v.1.0;
    }

-- a store that fits goes on, with this memory
pub store_fits : {S : Type 0} (n at word : ℕ) (region : Region) (around : List Region) (operands : List Value)
    (c : Configuration S) → at + store_width n ≤ length c.memory →
    machine.store n at word region around operands c
    ≡ onward region around operands (record c { memory = written c.memory at (cells (store_width n) word) })
store_fits {S} n at word region around operands c h =
    ap (λ (b : Bool).
    if b then onward region around operands (record c { memory = written c.memory at (cells (store_width n) word) })
    else ended (Trapped trap.Memory) c) (le-leb (at + store_width n) (length c.memory) h)

pub store_passes : {S : Type 0} (n at word : ℕ) (region : Region) (around : List Region) (operands : List Value)
    (c : Configuration S) → (at + store_width n ≤ length c.memory → ⊥) →
    machine.store n at word region around operands c ≡ ended (Trapped trap.Memory) c
store_passes {S} n at word region around operands c h = test (fits c.memory at (store_width n)) refl
  where
    test : (b : Bool) → fits c.memory at (store_width n) ≡ b →
        (if b
        then onward region around operands (record c { memory = written c.memory at (cells (store_width n) word) })
        else ended (Trapped trap.Memory) c) ≡ ended (Trapped trap.Memory) c
    test true e = absurd (h (leb-true (at + store_width n) (length c.memory) e))
    test false e = refl

-- the words that are left, and the variables
pub record Stores (old new : Store) (left : List ℕ) : Type 0 where
  pub words : new.words.items ≡ left
  pub locals : new.locals.items ≡ old.locals.items
  pub globals : new.globals.items ≡ old.globals.items

pub write_acts : {S : Type 0} (n align offset : ℕ) (old new : Store) (word address : ℕ) (left : List ℕ) →
    old.words.items ≡ word ∷ address ∷ left → address + offset + store_width n ≤ length old.memory →
    new.memory ≡ written old.memory (address + offset) (cells (store_width n) word) → Stores old new left →
    (world : World S) (region : Region) (around : List Region) (operands : List Value) (c : Configuration S) →
    Holds around operands c.locals c.globals c.memory old →
    IsNoFault (act world (op.Store n align offset) region around operands c) →
    GoesOn (act world (op.Store n align offset) region around operands c) region around c new
write_acts n align offset old new word address left i b m k world region around operands c h s =
    let f : FindsStored n align offset operands region around c =
    found_stored world n align offset operands region around c s in
    let w : old.words.items ≡ word_of f.value ∷ f.address ∷ (words_of f.below ++ all_words around) =
    h.words ∙ ap (λ values. words_of values ++ all_words around) f.is in
    let v : AllValues (f.value ∷ word32 f.address ∷ f.below) = subst AllValues f.is h.operands_fit in
    let p : address ≡ f.address = cc in
    let q : word ≡ word_of f.value = cc in
    let r : left ≡ words_of f.below ++ all_words around = cc in
    let bytes : List ℕ = written c.memory (f.address + offset) (cells (store_width n) (word_of f.value)) in
    let e : new.memory ≡ bytes =
    m
    ∙ ap (λ held. written held (address + offset) (cells (store_width n) word)) h.memory_is
    ∙ ap (λ place. written c.memory (place + offset) (cells (store_width n) word)) p
    ∙ ap (λ number. written c.memory (f.address + offset) (cells (store_width n) number)) q in
    let z : f.address + offset + store_width n ≤ length c.memory = omega (arith, ap length h.memory_is) in
    record {
      operands = f.below;
      after = record c { memory = bytes };
      step_is = f.same world ∙ store_fits n (f.address + offset) (word_of f.value) region around f.below c z;
      holds = record {
        words = k.words ∙ r;
        operands_fit = v.1.1;
        locals_are = k.locals ∙ h.locals_are;
        locals_fit = h.locals_fit;
        globals_are = k.globals ∙ h.globals_are;
        globals_fit = h.globals_fit;
        memory_is = e;
        memory_fits =
            omega (
              arith,
              h.memory_fits,
              ap length m,
              length-written old.memory (address + offset) (cells (store_width n) word),
            );
      };
      guards = refl;
      host = refl;
    }

pub write_traps : {S : Type 0} (n align offset : ℕ) (old : Store) (word address : ℕ) (left : List ℕ) →
    old.words.items ≡ word ∷ address ∷ left → (address + offset + store_width n ≤ length old.memory → ⊥) →
    (world : World S) (region : Region) (around : List Region) (operands : List Value) (c : Configuration S) →
    Holds around operands c.locals c.globals c.memory old →
    IsNoFault (act world (op.Store n align offset) region around operands c) →
    act world (op.Store n align offset) region around operands c ≡ ended (Trapped trap.Memory) c
write_traps n align offset old word address left i b world region around operands c h s =
    let f : FindsStored n align offset operands region around c =
    found_stored world n align offset operands region around c s in
    let w : old.words.items ≡ word_of f.value ∷ f.address ∷ (words_of f.below ++ all_words around) =
    h.words ∙ ap (λ values. words_of values ++ all_words around) f.is in
    let p : address ≡ f.address = cc in
    f.same world
    ∙ store_passes n (f.address + offset) (word_of f.value) region around f.below c
    (λ z. b (omega (arith, ap length h.memory_is, p)))
