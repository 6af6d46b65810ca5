-- What typing says of operands at run time: where it finds them, the machine finds them.
use Rattle.std.proofs.Common.{◌≡◌, ℕ, zero, suc, List, [], ◌∷◌, Option, Some, None, Bool, true, false, ◌&&◌}
use Rattle.std.proofs.Common.{if◌then◌else◌, slice_get, slice_set, sym, ◌∙◌, ap, subst, refl}
use Rattle.std.proofs.lemmas.Bool.{and_parts as both_true}
use Rattle.wa_ops.specs.declared.op.ValueType.{ValueType}
use Rattle.wa_ops.specs.declared.op.ValueType.TheVariants.{I32, I64, F32, F64}
use Rattle.wa_ops.specs.Typing.{Slot, known, Stack, GlobalType, is_same_type, and_then, pop, pop_all, pop_result, push}
use Rattle.wa_ops.specs.Typing.{push_result, changed, is_empty, is_same_result, carries, all_carry}
use Rattle.wa_ops.proofs.Types.{same_type}
use Rattle.wa_machine.specs.Machine.{Value, word32, word64, type_of, value_of, Step, fault, with_some, with_word}
use Rattle.wa_machine.specs.Machine.{with_all, taken_result, whole_result, label_at}
use Rattle.wa_machine.specs.Law.{types_of, kinds_of}

abbrev pub slots : List Value → List Slot
slots [] = []
slots (value ∷ values) = known (type_of value) ∷ slots values

-- the stack of these operands
abbrev pub closed : List Value → Stack
closed values = record { slots = slots values; loose = false }

abbrev pub On : {A : Type 0} → Option A → (A → Type 0) → Type 0
On None Q = ⊥
On (Some a) Q = Q a

pub on_and : {A B : Type 0} (o : Option A) (f : A → Option B) (Q : B → Type 0) → On (and_then o f) Q →
    On o (λ a. On (f a) Q)
on_and None f Q h = absurd h
on_and (Some a) f Q h = h

pub same_type_is : (a b : ValueType) → a ≡ b → is_same_type a b ≡ true
same_type_is I32 b h = ap (is_same_type I32) (sym h)
same_type_is I64 b h = ap (is_same_type I64) (sym h)
same_type_is F32 b h = ap (is_same_type F32) (sym h)
same_type_is F64 b h = ap (is_same_type F64) (sym h)

-- a choice that one side can't take
pub on_test : {S : Type 0} (P : Step S → Type 0) (b : Bool) (stack : Stack) (step : Step S) (Q : Stack → Type 0) →
    On (if b then Some stack else None) Q →
    (b ≡ true → Q stack → P step) → P (if b then step else fault)
on_test P true stack step Q h k = k refl h
on_test P false stack step Q h k = absurd h

pub on_word : {S : Type 0} (P : Step S → Type 0) (values : List Value) (go : ℕ → List Value → Step S)
    (Q : Stack → Type 0) → On (pop I32 (closed values)) Q →
    ((n : ℕ) (left : List Value) → Q (closed left) → P (go n left)) → P (with_word values go)
on_word P [] go Q h k = absurd h
on_word P (word32 n ∷ values) go Q h k = k n values h
on_word P (word64 n ∷ values) go Q h k = absurd h

pub on_all_test : {S : Type 0} (P : Step S → Type 0) (b : Bool) (kinds : List ValueType) (values : List Value)
    (step : Step S) (Q : Stack → Type 0) →
    On (and_then (if b then Some (closed values) else None) (pop_all kinds)) Q →
    (b ≡ true → On (pop_all kinds (closed values)) Q → P step) → P (if b then step else fault)
on_all_test P true kinds values step Q h k = k refl h
on_all_test P false kinds values step Q h k = absurd h

pub on_all : {S : Type 0} (P : Step S → Type 0) (kinds : List ValueType) (values : List Value)
    (go : List Value → List Value → Step S) (Q : Stack → Type 0) →
    On (pop_all kinds (closed values)) Q →
    ((taken left : List Value) → types_of taken ≡ kinds → Q (closed left) → P (go taken left)) →
    P (with_all kinds values go)
on_all P [] values go Q h k = k [] values refl h
on_all P (kind ∷ kinds) [] go Q h k = absurd h
on_all P (kind ∷ kinds) (value ∷ values) go Q h k =
    on_all_test P (is_same_type kind (type_of value)) kinds values
    (with_all kinds values (λ taken left. go (value ∷ taken) left)) Q h
    (λ same h. on_all P kinds values (λ taken left. go (value ∷ taken) left) Q h
    (λ taken left e q.
    k (value ∷ taken) left (let one : kind ≡ type_of value = same_type kind (type_of value) same in cc) q))

pub on_changed : {S : Type 0} (P : Step S → Type 0) (kinds : List ValueType) (given : ValueType) (values : List Value)
    (go : List Value → List Value → Step S) (Q : Stack → Type 0) →
    On (changed kinds given (closed values)) Q →
    ((taken left : List Value) → types_of taken ≡ kinds → Q (push given (closed left)) → P (go taken left)) →
    P (with_all kinds values go)
on_changed P kinds given values go Q h k =
    on_all P kinds values go (λ stack. Q (push given stack))
    (on_and (pop_all kinds (closed values)) (λ below. Some (push given below)) Q h) k

-- operands that are a result
abbrev pub OfResult : Option ValueType → List Value → Type 0
OfResult None out = out ≡ []
OfResult (Some kind) out = types_of out ≡ kind ∷ []

pub on_taken : {S : Type 0} (P : Step S → Type 0) (result : Option ValueType) (values : List Value)
    (go : List Value → Step S) (Q : Stack → Type 0) →
    On (pop_result result (closed values)) Q →
    ((out left : List Value) → OfResult result out → Q (closed left) → P (go out)) →
    P (with_some (taken_result result values) go)
on_taken P None values go Q h k = k [] values refl h
on_taken P (Some kind) [] go Q h k = absurd h
on_taken P (Some kind) (value ∷ values) go Q h k = at (is_same_type kind (type_of value)) refl h
  where
    at : (b : Bool) → is_same_type kind (type_of value) ≡ b → On (if b then Some (closed values) else None) Q →
        P (with_some (if b then Some (value ∷ []) else None) go)
    at true e h = k (value ∷ []) values (let one : kind ≡ type_of value = same_type kind (type_of value) e in cc) h
    at false e h = absurd h

pub on_whole : {S : Type 0} (P : Step S → Type 0) (result : Option ValueType) (values : List Value)
    (go : List Value → Step S) → is_empty (pop_result result (closed values)) ≡ true →
    ((out : List Value) → OfResult result out → P (go out)) → P (with_some (whole_result result values) go)
on_whole P None [] go h k = k [] refl
on_whole P None (value ∷ values) go h k = absurd cc
on_whole P (Some kind) [] go h k = absurd cc
on_whole P (Some kind) (value ∷ []) go h k = at (is_same_type kind (type_of value)) refl h
  where
    at : (b : Bool) → is_same_type kind (type_of value) ≡ b → is_empty (if b then Some (closed []) else None) ≡ true →
        P (with_some (if b then Some (value ∷ []) else None) go)
    at true e h = k (value ∷ []) (let one : kind ≡ type_of value = same_type kind (type_of value) e in cc)
    at false e h = absurd cc
on_whole P (Some kind) (value ∷ other ∷ values) go h k = absurd (at (is_same_type kind (type_of value)) h)
  where
    at : (b : Bool) → is_empty (if b then Some (closed (other ∷ values)) else None) ≡ true → ⊥
    at true h = cc
    at false h = cc

-- a variable of the context is there, with its type
pub on_local : {S : Type 0} (P : Step S → Type 0) (values : List Value) (local : ℕ) (go : Value → Step S)
    (Q : ValueType → Type 0) → On (slice_get (types_of values) local) Q →
    ((value : Value) → slice_get values local ≡ Some value → Q (type_of value) → P (go value)) →
    P (with_some (slice_get values local) go)
on_local P [] local go Q h k = absurd h
on_local P (value ∷ values) zero go Q h k = k value refl h
on_local P (value ∷ values) (suc local) go Q h k = on_local P values local go Q h k

pub on_global : {S : Type 0} (P : Step S → Type 0) (globals : List GlobalType) (values : List Value) (global : ℕ)
    (go : Value → Step S) (Q : GlobalType → Type 0) →
    types_of values ≡ kinds_of globals → On (slice_get globals global) Q →
    ((value : Value) (found : GlobalType) → slice_get values global ≡ Some value → found.kind ≡ type_of value →
    Q found → P (go value)) → P (with_some (slice_get values global) go)
on_global P [] values global go Q e h k = absurd h
on_global P (found ∷ globals) [] global go Q e h k = absurd (let p : [] ≡ (found.kind ∷ kinds_of globals) = e in cc)
on_global P (found ∷ globals) (value ∷ values) zero go Q e h k =
    let p : (type_of value ∷ types_of values) ≡ (found.kind ∷ kinds_of globals) = e in k value found refl (cc) h
on_global P (found ∷ globals) (value ∷ values) (suc global) go Q e h k =
    let p : (type_of value ∷ types_of values) ≡ (found.kind ∷ kinds_of globals) = e in
    on_global P globals values global go Q (cc) h k

-- a variable set to a value of its type
pub set_types : (values : List Value) (local : ℕ) (old value : Value) → slice_get values local ≡ Some old →
    type_of value ≡ type_of old → types_of (slice_set values local value) ≡ types_of values
set_types [] local old value e h = absurd cc
set_types (first ∷ values) zero old value e h =
    let p : first ≡ old = cc in ap (λ kind. kind ∷ types_of values) (h ∙ ap type_of (sym p))
set_types (first ∷ values) (suc local) old value e h =
    ap (λ kinds. type_of first ∷ kinds) (set_types values local old value e h)

pub value_type : (b : Bool) (n : ℕ) → type_of (value_of (if b then I64 else I32) n) ≡ (if b then I64 else I32)
value_type true n = refl
value_type false n = refl

pub on_any : {A : Type 0} (o : Option A) (Q : A → Type 0) → On o Q → On o (λ a. Unit {0})
on_any None Q h = h
on_any (Some a) Q h = tt

pub on_if : {A : Type 0} (b : Bool) (o : Option A) (Q : A → Type 0) → On (if b then o else None) Q → On o Q
on_if true o Q h = h
on_if false o Q h = absurd h

-- a result that is taken and given back
pub pushed_back : (result : Option ValueType) (values : List Value) (Q : Stack → Type 0) →
    On (pop_result result (closed values)) (λ stack. Q (push_result result stack)) → Q (closed values)
pushed_back None values Q h = h
pushed_back (Some kind) [] Q h = absurd h
pushed_back (Some kind) (value ∷ values) Q h = at (is_same_type kind (type_of value)) refl h
  where
    at : (b : Bool) → is_same_type kind (type_of value) ≡ b →
        On (if b then Some (closed values) else None) (λ stack. Q (push kind stack)) → Q (closed (value ∷ values))
    at true e h = subst (λ k. Q (push k (closed values))) (same_type kind (type_of value) e) h
    at false e h = absurd h

pub same_result : (a b : Option ValueType) → is_same_result a b ≡ true → a ≡ b
same_result None None h = refl
same_result (Some a) (Some b) h = ap Some (same_type a b h)
same_result None (Some b) h = absurd cc
same_result (Some a) None h = absurd cc

pub carried_is : (result : Option ValueType) (found : Option (Option ValueType)) → carries result found ≡ true →
    found ≡ Some result
carried_is result None h = absurd cc
carried_is result (Some other) h = ap Some (sym (same_result result other h))

-- each label of a table carries the result
pub table_carries : (labels : List (Option ValueType)) (listed : List ℕ) (last index : ℕ) (result : Option ValueType) →
    slice_get labels last ≡ Some result → all_carry labels result listed ≡ true →
    slice_get labels (label_at listed last index) ≡ Some result
table_carries labels [] last index result e h = e
table_carries labels (label ∷ listed) last zero result e h =
    carried_is result (slice_get labels label)
    (both_true (carries result (slice_get labels label)) (all_carry labels result listed) h).0
table_carries labels (label ∷ listed) last (suc index) result e h =
    table_carries labels listed last index result e
    (both_true (carries result (slice_get labels label)) (all_carry labels result listed) h).1
