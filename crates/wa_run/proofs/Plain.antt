-- The plain instructions on words, against those on typed operands.
use Rattle.std.proofs.Common.{◌≡◌, ◌^◌, ◌<◌, ◌≤◌, ◌/◌, ◌==◌, ℕ, ℤ, zero, suc, List, [], ◌∷◌, ◌++◌, Option, Some, None}
use Rattle.std.proofs.Common.{Bool, true, false, if◌then◌else◌, length, get_or, slice_get, slice_set, sym, ◌∙◌, ap}
use Rattle.std.proofs.Common.{subst, refl, arith}
use Rattle.wa_ops.proofs.Types.{same_type}
use Rattle.std.specs.Int.{cast_unsigned, w32, w64}
use Rattle.wa_ops.specs.declared.op.Op.TheVariants as op
use Rattle.wa_ops.specs.declared.op.ValueType.{ValueType}
use Rattle.wa_ops.specs.declared.op.ValueType.TheVariants.{I32, I64, F32, F64}
use Rattle.wa_ops.specs.Typing.{is_same_type}
use Rattle.wa_machine.specs.Law.{types_of}
use Rattle.wa_machine.specs.Machine.{Value, word32, word64, type_of, word_of, Region, Configuration, World, Step, fault}
use Rattle.wa_machine.specs.Machine.{onward, with_some, with_value, with_word, with_all, put_local, put_global, act}
use Rattle.wa_run.specs.Flat.{words_of, all_words, IsValue, AllValues}
use Rattle.wa_run.specs.Acts.{Holds, IsNoFault, Meets, GoesOn}
use Rattle.wa_run.specs.declared.store.Store.{Store}

-- ---- what is there where the machine meets no fault

pub record FindsSome {A : Type 0} (o : Option A) : Type 0 where
  pub value : A
  pub is : o ≡ Some value

pub found_some : {S A : Type 0} (o : Option A) (go : A → Step S) → IsNoFault (with_some o go) → FindsSome o
found_some None go s = absurd s
found_some (Some a) go s = record { value = a; is = refl }

pub record FindsWord (operands : List Value) : Type 0 where
  pub word : ℕ
  pub left : List Value
  pub is : operands ≡ word32 word ∷ left

pub found_word : {S : Type 0} (operands : List Value) (go : ℕ → List Value → Step S) →
    IsNoFault (with_word operands go) → FindsWord operands
found_word [] go s = absurd s
found_word (word32 n ∷ left) go s = record { word = n; left = left; is = refl }
found_word (word64 n ∷ left) go s = absurd s

-- operands of these types were taken
pub record FindsAll {S : Type 0} (kinds : List ValueType) (operands : List Value)
    (go : List Value → List Value → Step S) : Type 0 where
  pub taken : List Value
  pub left : List Value
  pub is : operands ≡ taken ++ left
  pub types : types_of taken ≡ kinds
  pub same : with_all kinds operands go ≡ go taken left

pub found_all : {S : Type 0} (kinds : List ValueType) (operands : List Value) (go : List Value → List Value → Step S) →
    IsNoFault (with_all kinds operands go) → FindsAll kinds operands go
found_all [] operands go s = record { taken = []; left = operands; is = refl; types = refl; same = refl }
found_all (kind ∷ kinds) [] go s = absurd s
found_all {S} (kind ∷ kinds) (value ∷ values) go s =
    at (is_same_type kind (type_of value)) refl s
    (λ t. found_all kinds values (λ taken left. go (value ∷ taken) left) t)
  where
    at : (b : Bool) → is_same_type kind (type_of value) ≡ b →
        IsNoFault (if b then with_all kinds values (λ taken left. go (value ∷ taken) left) else fault) →
        (IsNoFault (with_all kinds values (λ taken left. go (value ∷ taken) left)) →
        FindsAll kinds values (λ taken left. go (value ∷ taken) left)) → FindsAll (kind ∷ kinds) (value ∷ values) go
    at true e t deeper =
        let f : FindsAll kinds values (λ taken left. go (value ∷ taken) left) = deeper t in
        let one : kind ≡ type_of value = same_type kind (type_of value) e in
        let more : types_of f.taken ≡ kinds = f.types in
        record {
          taken = value ∷ f.taken;
          left = f.left;
          is = ap (λ vs. value ∷ vs) f.is;
          types = cc;
          same =
              ap (λ (b : Bool). if b then with_all kinds values (λ taken left. go (value ∷ taken) left) else fault) e
              ∙ f.same;
        }
    at false e t deeper = absurd t

pub record FindsOne {S : Type 0} (kind : ValueType) (operands : List Value)
    (go : List Value → List Value → Step S) : Type 0 where
  pub value : Value
  pub left : List Value
  pub is : operands ≡ value ∷ left
  pub same : with_all (kind ∷ []) operands go ≡ go (value ∷ []) left

pub found_one : {S : Type 0} (kind : ValueType) (operands : List Value) (go : List Value → List Value → Step S) →
    IsNoFault (with_all (kind ∷ []) operands go) → FindsOne kind operands go
found_one kind operands go s =
    let f : FindsAll (kind ∷ []) operands go = found_all (kind ∷ []) operands go s in
    at f.taken f.left f.is f.types f.same
  where
    at : (taken left : List Value) → operands ≡ taken ++ left → types_of taken ≡ kind ∷ [] →
        with_all (kind ∷ []) operands go ≡ go taken left → FindsOne kind operands go
    at [] left i t e = let p : [] ≡ (kind ∷ []) = t in absurd cc
    at (value ∷ []) left i t e = record { value = value; left = left; is = i; same = e }
    at (value ∷ other ∷ more) left i t e =
        let p : (type_of value ∷ type_of other ∷ types_of more) ≡ (kind ∷ []) = t in absurd cc

-- ---- the store

-- the variables and the memory are as they were
pub record Keeps (old new : Store) : Type 0 where
  pub locals : new.locals.items ≡ old.locals.items
  pub globals : new.globals.items ≡ old.globals.items
  pub memory : new.memory ≡ old.memory

-- the same variables and memory under other words
pub moved : (around outer : List Region) (operands values locals globals : List Value) (memory : List ℕ)
    (old new : Store) → Holds around operands locals globals memory old → AllValues values →
    new.words.items ≡ words_of values ++ all_words outer → Keeps old new → Holds outer values locals globals memory new
moved around outer operands values locals globals memory old new h v w k = record {
  words = w;
  operands_fit = v;
  locals_are = k.locals ∙ h.locals_are;
  locals_fit = h.locals_fit;
  globals_are = k.globals ∙ h.globals_are;
  globals_fit = h.globals_fit;
  memory_is = k.memory ∙ h.memory_is;
  memory_fits = subst (λ bytes. length bytes ≤ 1048576) (sym k.memory) h.memory_fits;
}

pub with_words : {S : Type 0} (around : List Region) (operands values : List Value) (c : Configuration S)
    (old new : Store) → Holds around operands c.locals c.globals c.memory old → AllValues values →
    new.words.items ≡ words_of values ++ all_words around → Keeps old new →
    Holds around values c.locals c.globals c.memory new
with_words around operands values c old new h v w k =
    moved around around operands values c.locals c.globals c.memory old new h v w k

-- a variable that is there, as a word
pub record IsVariable (values : List Value) (place : ℕ) (value : Value) : Type 0 where
  pub within : place < length (words_of values)
  pub word : get_or (words_of values) place 0 ≡ word_of value
  pub fits : IsValue value

pub variable : (values : List Value) (place : ℕ) (value : Value) → slice_get values place ≡ Some value →
    AllValues values → IsVariable values place value
variable [] place value e v = absurd cc
variable (first ∷ values) zero value e v =
    let p : first ≡ value = cc in record { within = omega arith; word = ap word_of p; fits = subst IsValue p v.0 }
variable (first ∷ values) (suc place) value e v =
    let f : IsVariable values place value = variable values place value e v.1 in
    record { within = omega (arith, f.within); word = f.word; fits = f.fits }

pub set_words : (values : List Value) (place : ℕ) (value : Value) →
    words_of (slice_set values place value) ≡ slice_set (words_of values) place (word_of value)
set_words [] place value = refl
set_words (first ∷ values) zero value = refl
set_words (first ∷ values) (suc place) value = ap (λ ws. word_of first ∷ ws) (set_words values place value)

pub set_fits : (values : List Value) (place : ℕ) (value : Value) → AllValues values → IsValue value →
    AllValues (slice_set values place value)
set_fits [] place value v f = v
set_fits (first ∷ values) zero value v f = (f, v.1)
set_fits (first ∷ values) (suc place) value v f = (v.0, set_fits values place value v.1 f)

-- ---- each instruction

pub constant32_acts : {S : Type 0} (n : ℤ) (old new : Store) (word : ℕ) → word ≡ cast_unsigned w32 n → word < 2 ^ 32 →
    new.words.items ≡ word ∷ old.words.items → Keeps old new →
    (world : World S) (region : Region) (around : List Region) (operands : List Value) (c : Configuration S) →
    Holds around operands c.locals c.globals c.memory old →
    IsNoFault (act world (op.I32Const n) region around operands c) →
    GoesOn (act world (op.I32Const n) region around operands c) region around c new
constant32_acts n old new word e b i k world region around operands c h s =
    let w : old.words.items ≡ words_of operands ++ all_words around = h.words in
    record {
      operands = word32 (cast_unsigned w32 n) ∷ operands;
      after = c;
      step_is = refl;
      holds =
          with_words around operands (word32 (cast_unsigned w32 n) ∷ operands) c old new h
          (subst (λ m. m < 2 ^ 32) e b, h.operands_fit) (cc) k;
      guards = refl;
      host = refl;
    }

pub constant64_acts : {S : Type 0} (n : ℤ) (old new : Store) (word : ℕ) → word ≡ cast_unsigned w64 n → word < 2 ^ 64 →
    new.words.items ≡ word ∷ old.words.items → Keeps old new →
    (world : World S) (region : Region) (around : List Region) (operands : List Value) (c : Configuration S) →
    Holds around operands c.locals c.globals c.memory old →
    IsNoFault (act world (op.I64Const n) region around operands c) →
    GoesOn (act world (op.I64Const n) region around operands c) region around c new
constant64_acts n old new word e b i k world region around operands c h s =
    let w : old.words.items ≡ words_of operands ++ all_words around = h.words in
    record {
      operands = word64 (cast_unsigned w64 n) ∷ operands;
      after = c;
      step_is = refl;
      holds =
          with_words around operands (word64 (cast_unsigned w64 n) ∷ operands) c old new h
          (subst (λ m. m < 2 ^ 64) e b, h.operands_fit) (cc) k;
      guards = refl;
      host = refl;
    }

pub memory_size_acts : {S : Type 0} (old new : Store) (word : ℕ) → word ≡ length old.memory / 65536 →
    new.words.items ≡ word ∷ old.words.items → Keeps old new →
    (world : World S) (region : Region) (around : List Region) (operands : List Value) (c : Configuration S) →
    Holds around operands c.locals c.globals c.memory old →
    IsNoFault (act world op.MemorySize region around operands c) →
    GoesOn (act world op.MemorySize region around operands c) region around c new
memory_size_acts old new word e i k world region around operands c h s =
    let w : old.words.items ≡ words_of operands ++ all_words around = h.words in
    let m : length old.memory / 65536 ≡ length c.memory / 65536 = ap (λ bytes. length bytes / 65536) h.memory_is in
    let b : length c.memory ≤ 1048576 = subst (λ bytes. length bytes ≤ 1048576) h.memory_is h.memory_fits in
    record {
      operands = word32 (length c.memory / 65536) ∷ operands;
      after = c;
      step_is = refl;
      holds =
          with_words around operands (word32 (length c.memory / 65536) ∷ operands) c old new h
          (omega arith, h.operands_fit) (cc) k;
      guards = refl;
      host = refl;
    }

pub discard_acts : {S : Type 0} (old new : Store) (word : ℕ) → old.words.items ≡ word ∷ new.words.items →
    Keeps old new →
    (world : World S) (region : Region) (around : List Region) (operands : List Value) (c : Configuration S) →
    Holds around operands c.locals c.globals c.memory old → IsNoFault (act world op.Drop region around operands c) →
    GoesOn (act world op.Drop region around operands c) region around c new
discard_acts old new word i k world region around [] c h s = absurd s
discard_acts old new word i k world region around (value ∷ left) c h s =
    let w : old.words.items ≡ word_of value ∷ (words_of left ++ all_words around) = h.words in
    record {
      operands = left;
      after = c;
      step_is = refl;
      holds = with_words around (value ∷ left) left c old new h h.operands_fit.1 (cc) k;
      guards = refl;
      host = refl;
    }

-- how many words are there at least
pub some_words : (store : Store) (value : Value) (left : List Value) (around : List Region) →
    store.words.items ≡ words_of (value ∷ left) ++ all_words around → 0 < length store.words.items
some_words store value left around e = omega (arith, ap length e)

pub discard_needs : (S : Type 0) (store : Store) → Meets S op.Drop store → 0 < length store.words.items
discard_needs S store m = at m.operands m.holds.words m.sound
  where
    at : (operands : List Value) → store.words.items ≡ words_of operands ++ all_words m.around →
        IsNoFault (act m.world op.Drop m.region m.around operands m.c) → 0 < length store.words.items
    at [] e s = absurd s
    at (value ∷ left) e s = some_words store value left m.around e

pub select_needs : (S : Type 0) (store : Store) → Meets S op.Select store → 3 ≤ length store.words.items
select_needs S store m = at m.operands m.holds.words m.sound
  where
    at : (operands : List Value) → store.words.items ≡ words_of operands ++ all_words m.around →
        IsNoFault (act m.world op.Select m.region m.around operands m.c) → 3 ≤ length store.words.items
    at (word32 n ∷ b ∷ a ∷ under) e s = omega (arith, ap length e)
    at [] e s = absurd s
    at (word64 n ∷ values) e s = absurd s
    at (word32 n ∷ []) e s = absurd s
    at (word32 n ∷ b ∷ []) e s = absurd s

pub select_acts : {S : Type 0} (old new : Store) (condition other one : ℕ) (below : List ℕ) →
    old.words.items ≡ condition ∷ other ∷ one ∷ below →
    new.words.items ≡ (if condition == 0 then other else one) ∷ below → Keeps old new →
    (world : World S) (region : Region) (around : List Region) (operands : List Value) (c : Configuration S) →
    Holds around operands c.locals c.globals c.memory old → IsNoFault (act world op.Select region around operands c) →
    GoesOn (act world op.Select region around operands c) region around c new
select_acts old new condition other one below i j k world region around (word32 n ∷ b ∷ a ∷ under) c h s =
    at (is_same_type (type_of b) (type_of a)) refl s
  where
    chosen : (zero_test : Bool) → word_of (if zero_test then b else a) ≡ (if zero_test then word_of b else word_of a)
    chosen true = refl
    chosen false = refl

    fits : (zero_test : Bool) → IsValue (if zero_test then b else a)
    fits true = h.operands_fit.1.0
    fits false = h.operands_fit.1.1.0

    at : (same : Bool) → is_same_type (type_of b) (type_of a) ≡ same →
        IsNoFault (if same then onward region around ((if n == 0 then b else a) ∷ under) c else fault) →
        GoesOn (act world op.Select region around (word32 n ∷ b ∷ a ∷ under) c) region around c new
    at true e t =
        let w : old.words.items ≡ n ∷ word_of b ∷ word_of a ∷ (words_of under ++ all_words around) = h.words in
        let p : condition ≡ n = cc in
        let q : other ≡ word_of b = cc in
        let r : one ≡ word_of a = cc in
        let u : below ≡ words_of under ++ all_words around = cc in
        let f : word_of (if n == 0 then b else a) ≡ (if n == 0 then word_of b else word_of a) = chosen (n == 0) in
        let z : (if condition == 0 then other else one) ≡ (if n == 0 then word_of b else word_of a) =
        ap (λ x. if x == 0 then other else one) p
        ∙ ap (λ x. if n == 0 then x else one) q
        ∙ ap (λ x. if n == 0 then word_of b else x) r in
        record {
          operands = (if n == 0 then b else a) ∷ under;
          after = c;
          step_is =
              ap (λ (same : Bool). if same then onward region around ((if n == 0 then b else a) ∷ under) c else fault)
              e;
          holds =
              with_words around (word32 n ∷ b ∷ a ∷ under) ((if n == 0 then b else a) ∷ under) c old new h
              (fits (n == 0), h.operands_fit.1.1.1)
              (j ∙ ap (λ word. word ∷ below) (z ∙ sym f) ∙ ap (λ words. word_of (if n == 0 then b else a) ∷ words) u) k;
          guards = refl;
          host = refl;
        }
    at false e t = absurd t
select_acts old new condition other one below i j k world region around [] c h s = absurd s
select_acts old new condition other one below i j k world region around (word64 n ∷ values) c h s = absurd s
select_acts old new condition other one below i j k world region around (word32 n ∷ []) c h s = absurd s
select_acts old new condition other one below i j k world region around (word32 n ∷ b ∷ []) c h s = absurd s

pub local_get_needs : (S : Type 0) (store : Store) (x : ℕ) → Meets S (op.LocalGet x) store →
    x < length store.locals.items
local_get_needs S store x m =
    let f : FindsSome (slice_get m.c.locals x) =
    found_some (slice_get m.c.locals x) (λ value. onward m.region m.around (value ∷ m.operands) m.c) m.sound in
    let v : IsVariable m.c.locals x f.value = variable m.c.locals x f.value f.is m.holds.locals_fit in
    omega (arith, v.within, ap length m.holds.locals_are)

pub local_get_acts : {S : Type 0} (x : ℕ) (old new : Store) (word : ℕ) → word ≡ get_or old.locals.items x 0 →
    new.words.items ≡ word ∷ old.words.items → Keeps old new →
    (world : World S) (region : Region) (around : List Region) (operands : List Value) (c : Configuration S) →
    Holds around operands c.locals c.globals c.memory old →
    IsNoFault (act world (op.LocalGet x) region around operands c) →
    GoesOn (act world (op.LocalGet x) region around operands c) region around c new
local_get_acts x old new word e i k world region around operands c h s =
    let f : FindsSome (slice_get c.locals x) =
    found_some (slice_get c.locals x) (λ value. onward region around (value ∷ operands) c) s in
    let v : IsVariable c.locals x f.value = variable c.locals x f.value f.is h.locals_fit in
    let w : old.words.items ≡ words_of operands ++ all_words around = h.words in
    let g : get_or old.locals.items x 0 ≡ word_of f.value = ap (λ ws. get_or ws x 0) h.locals_are ∙ v.word in
    record {
      operands = f.value ∷ operands;
      after = c;
      step_is = ap (λ o. with_some o (λ value. onward region around (value ∷ operands) c)) f.is;
      holds = with_words around operands (f.value ∷ operands) c old new h (v.fits, h.operands_fit) (cc) k;
      guards = refl;
      host = refl;
    }

pub global_get_needs : (S : Type 0) (store : Store) (x : ℕ) → Meets S (op.GlobalGet x) store →
    x < length store.globals.items
global_get_needs S store x m =
    let f : FindsSome (slice_get m.c.globals x) =
    found_some (slice_get m.c.globals x) (λ value. onward m.region m.around (value ∷ m.operands) m.c) m.sound in
    let v : IsVariable m.c.globals x f.value = variable m.c.globals x f.value f.is m.holds.globals_fit in
    omega (arith, v.within, ap length m.holds.globals_are)

pub global_get_acts : {S : Type 0} (x : ℕ) (old new : Store) (word : ℕ) → word ≡ get_or old.globals.items x 0 →
    new.words.items ≡ word ∷ old.words.items → Keeps old new →
    (world : World S) (region : Region) (around : List Region) (operands : List Value) (c : Configuration S) →
    Holds around operands c.locals c.globals c.memory old →
    IsNoFault (act world (op.GlobalGet x) region around operands c) →
    GoesOn (act world (op.GlobalGet x) region around operands c) region around c new
global_get_acts x old new word e i k world region around operands c h s =
    let f : FindsSome (slice_get c.globals x) =
    found_some (slice_get c.globals x) (λ value. onward region around (value ∷ operands) c) s in
    let v : IsVariable c.globals x f.value = variable c.globals x f.value f.is h.globals_fit in
    let w : old.words.items ≡ words_of operands ++ all_words around = h.words in
    let g : get_or old.globals.items x 0 ≡ word_of f.value = ap (λ ws. get_or ws x 0) h.globals_are ∙ v.word in
    record {
      operands = f.value ∷ operands;
      after = c;
      step_is = ap (λ o. with_some o (λ value. onward region around (value ∷ operands) c)) f.is;
      holds = with_words around operands (f.value ∷ operands) c old new h (v.fits, h.operands_fit) (cc) k;
      guards = refl;
      host = refl;
    }

-- an instruction that sets a variable
abbrev pub setting : {S : Type 0} → List Value → ℕ → List Value → (Value → List Value → Step S) → Step S
setting variables x operands go =
    with_some (slice_get variables x)
    (λ old. with_all (type_of old ∷ []) operands (λ taken left. with_value taken (λ value none. go value left)))

pub record FindsSet {S : Type 0} (variables : List Value) (x : ℕ) (operands : List Value)
    (go : Value → List Value → Step S) : Type 0 where
  pub value : Value
  pub left : List Value
  pub is : operands ≡ value ∷ left
  pub within : x < length (words_of variables)
  pub same : setting variables x operands go ≡ go value left

pub found_set : {S : Type 0} (variables : List Value) (x : ℕ) (operands : List Value)
    (go : Value → List Value → Step S) → AllValues variables → IsNoFault (setting variables x operands go) →
    FindsSet variables x operands go
found_set {S} variables x operands go v s =
    let f : FindsSome (slice_get variables x) =
    found_some (slice_get variables x)
    (λ old. with_all (type_of old ∷ []) operands (λ taken left. with_value taken (λ value none. go value left))) s in
    let t : IsNoFault
    (with_all (type_of f.value ∷ []) operands (λ taken left. with_value taken (λ value none. go value left))) =
    subst (λ o.
    IsNoFault (with_some o
    (λ old. with_all (type_of old ∷ []) operands (λ taken left. with_value taken (λ value none. go value left))))) f.is
    s in
    let o : FindsOne (type_of f.value) operands (λ taken left. with_value taken (λ value none. go value left)) =
    found_one (type_of f.value) operands (λ taken left. with_value taken (λ value none. go value left)) t in
    let i : IsVariable variables x f.value = variable variables x f.value f.is v in
    record {
      value = o.value;
      left = o.left;
      is = o.is;
      within = i.within;
      same =
          ap (λ o.
          with_some o
          (λ old. with_all (type_of old ∷ []) operands (λ taken left. with_value taken (λ value none. go value left))))
          f.is
          ∙ o.same;
    }

pub local_set_needs : (S : Type 0) (store : Store) (x : ℕ) → Meets S (op.LocalSet x) store →
    (x < length store.locals.items) × (0 < length store.words.items)
local_set_needs S store x m =
    let f : FindsSet m.c.locals x m.operands (λ value left. onward m.region m.around left (put_local x value m.c)) =
    found_set m.c.locals x m.operands (λ value left. onward m.region m.around left (put_local x value m.c))
    m.holds.locals_fit m.sound in (
      omega (arith, f.within, ap length m.holds.locals_are),
      some_words store f.value f.left m.around (m.holds.words ∙ ap (λ vs. words_of vs ++ all_words m.around) f.is),
    )

pub local_tee_needs : (S : Type 0) (store : Store) (x : ℕ) → Meets S (op.LocalTee x) store →
    (x < length store.locals.items) × (0 < length store.words.items)
local_tee_needs S store x m =
    let f : FindsSet m.c.locals x m.operands
    (λ value left. onward m.region m.around (value ∷ left) (put_local x value m.c)) =
    found_set m.c.locals x m.operands (λ value left. onward m.region m.around (value ∷ left) (put_local x value m.c))
    m.holds.locals_fit m.sound in (
      omega (arith, f.within, ap length m.holds.locals_are),
      some_words store f.value f.left m.around (m.holds.words ∙ ap (λ vs. words_of vs ++ all_words m.around) f.is),
    )

pub global_set_needs : (S : Type 0) (store : Store) (x : ℕ) → Meets S (op.GlobalSet x) store →
    (x < length store.globals.items) × (0 < length store.words.items)
global_set_needs S store x m =
    let f : FindsSet m.c.globals x m.operands (λ value left. onward m.region m.around left (put_global x value m.c)) =
    found_set m.c.globals x m.operands (λ value left. onward m.region m.around left (put_global x value m.c))
    m.holds.globals_fit m.sound in (
      omega (arith, f.within, ap length m.holds.globals_are),
      some_words store f.value f.left m.around (m.holds.words ∙ ap (λ vs. words_of vs ++ all_words m.around) f.is),
    )

pub local_set_acts : {S : Type 0} (x : ℕ) (old new : Store) (word : ℕ) → old.words.items ≡ word ∷ new.words.items →
    new.locals.items ≡ slice_set old.locals.items x word →
    new.globals.items ≡ old.globals.items → new.memory ≡ old.memory →
    (world : World S) (region : Region) (around : List Region) (operands : List Value) (c : Configuration S) →
    Holds around operands c.locals c.globals c.memory old →
    IsNoFault (act world (op.LocalSet x) region around operands c) →
    GoesOn (act world (op.LocalSet x) region around operands c) region around c new
local_set_acts {S} x old new word i l g m world region around operands c h s =
    let go : Value → List Value → Step S = λ value left. onward region around left (put_local x value c) in
    let f : FindsSet c.locals x operands go = found_set c.locals x operands go h.locals_fit s in
    let w : old.words.items ≡ words_of operands ++ all_words around = h.words in
    let p : words_of operands ++ all_words around ≡ word_of f.value ∷ (words_of f.left ++ all_words around) =
    ap (λ vs. words_of vs ++ all_words around) f.is in
    let q : word ≡ word_of f.value = cc in
    let v : AllValues (f.value ∷ f.left) = subst AllValues f.is h.operands_fit in
    record {
      operands = f.left;
      after = put_local x f.value c;
      step_is = f.same;
      holds = record {
        words = cc;
        operands_fit = v.1;
        locals_are =
            l
            ∙ ap (λ ws. slice_set ws x word) h.locals_are
            ∙ ap (λ n. slice_set (words_of c.locals) x n) q
            ∙ sym (set_words c.locals x f.value);
        locals_fit = set_fits c.locals x f.value h.locals_fit v.0;
        globals_are = g ∙ h.globals_are;
        globals_fit = h.globals_fit;
        memory_is = m ∙ h.memory_is;
        memory_fits = subst (λ bytes. length bytes ≤ 1048576) (sym m) h.memory_fits;
      };
      guards = refl;
      host = refl;
    }

pub local_tee_acts : {S : Type 0} (x : ℕ) (old new : Store) (word : ℕ) →
    ((first : ℕ) (below : List ℕ) → old.words.items ≡ first ∷ below → word ≡ first) →
    new.words.items ≡ old.words.items → new.locals.items ≡ slice_set old.locals.items x word →
    new.globals.items ≡ old.globals.items → new.memory ≡ old.memory →
    (world : World S) (region : Region) (around : List Region) (operands : List Value) (c : Configuration S) →
    Holds around operands c.locals c.globals c.memory old →
    IsNoFault (act world (op.LocalTee x) region around operands c) →
    GoesOn (act world (op.LocalTee x) region around operands c) region around c new
local_tee_acts {S} x old new word i k l g m world region around operands c h s =
    let go : Value → List Value → Step S = λ value left. onward region around (value ∷ left) (put_local x value c) in
    let f : FindsSet c.locals x operands go = found_set c.locals x operands go h.locals_fit s in
    let w : old.words.items ≡ words_of operands ++ all_words around = h.words in
    let p : words_of operands ++ all_words around ≡ word_of f.value ∷ (words_of f.left ++ all_words around) =
    ap (λ vs. words_of vs ++ all_words around) f.is in
    let q : word ≡ word_of f.value = i (word_of f.value) (words_of f.left ++ all_words around) (w ∙ p) in
    let v : AllValues (f.value ∷ f.left) = subst AllValues f.is h.operands_fit in
    record {
      operands = f.value ∷ f.left;
      after = put_local x f.value c;
      step_is = f.same;
      holds = record {
        words = cc;
        operands_fit = v;
        locals_are =
            l
            ∙ ap (λ ws. slice_set ws x word) h.locals_are
            ∙ ap (λ n. slice_set (words_of c.locals) x n) q
            ∙ sym (set_words c.locals x f.value);
        locals_fit = set_fits c.locals x f.value h.locals_fit v.0;
        globals_are = g ∙ h.globals_are;
        globals_fit = h.globals_fit;
        memory_is = m ∙ h.memory_is;
        memory_fits = subst (λ bytes. length bytes ≤ 1048576) (sym m) h.memory_fits;
      };
      guards = refl;
      host = refl;
    }

pub global_set_acts : {S : Type 0} (x : ℕ) (old new : Store) (word : ℕ) → old.words.items ≡ word ∷ new.words.items →
    new.globals.items ≡ slice_set old.globals.items x word →
    new.locals.items ≡ old.locals.items → new.memory ≡ old.memory →
    (world : World S) (region : Region) (around : List Region) (operands : List Value) (c : Configuration S) →
    Holds around operands c.locals c.globals c.memory old →
    IsNoFault (act world (op.GlobalSet x) region around operands c) →
    GoesOn (act world (op.GlobalSet x) region around operands c) region around c new
global_set_acts {S} x old new word i l g m world region around operands c h s =
    let go : Value → List Value → Step S = λ value left. onward region around left (put_global x value c) in
    let f : FindsSet c.globals x operands go = found_set c.globals x operands go h.globals_fit s in
    let w : old.words.items ≡ words_of operands ++ all_words around = h.words in
    let p : words_of operands ++ all_words around ≡ word_of f.value ∷ (words_of f.left ++ all_words around) =
    ap (λ vs. words_of vs ++ all_words around) f.is in
    let q : word ≡ word_of f.value = cc in
    let v : AllValues (f.value ∷ f.left) = subst AllValues f.is h.operands_fit in
    record {
      operands = f.left;
      after = put_global x f.value c;
      step_is = f.same;
      holds = record {
        words = cc;
        operands_fit = v.1;
        locals_are = g ∙ h.locals_are;
        locals_fit = h.locals_fit;
        globals_are =
            l
            ∙ ap (λ ws. slice_set ws x word) h.globals_are
            ∙ ap (λ n. slice_set (words_of c.globals) x n) q
            ∙ sym (set_words c.globals x f.value);
        globals_fit = set_fits c.globals x f.value h.globals_fit v.0;
        memory_is = m ∙ h.memory_is;
        memory_fits = subst (λ bytes. length bytes ≤ 1048576) (sym m) h.memory_fits;
      };
      guards = refl;
      host = refl;
    }
