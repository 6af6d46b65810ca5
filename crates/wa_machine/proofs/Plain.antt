-- A plain instruction outside a loop's head makes a good step.
use Rattle.std.proofs.Common.{◌≡◌, ◌+◌, ◌-◌, ◌^◌, ◌<◌, ◌==◌, ◌||◌, ◌&&◌, ◌/◌, length, nat_le, ℕ, ℤ, List, [], ◌∷◌}
use Rattle.std.proofs.Common.{Option, Some, None, Result, Ok, Err, Bool, true, false, if◌then◌else◌, nat_lt, map}
use Rattle.std.proofs.Common.{reverse, slice_get, sym, ◌∙◌, subst, refl, arith}
use Rattle.std.specs.Int.{cast_unsigned, cast_signed, w32, w64}
use Rattle.hk_base.specs.declared.outcome.Outcome.{Outcome}
use Rattle.hk_base.specs.declared.outcome.Outcome.TheVariants.{Accepted, RolledBack, GuardViolated, Trapped}
use Rattle.hk_base.specs.declared.outcome.Trap.{Trap}
use Rattle.hk_base.specs.declared.outcome.Trap.TheVariants as trap
use Rattle.wa_ops.specs.declared.op.Op.{Op}
use Rattle.wa_ops.specs.declared.op.Op.TheVariants as op
use Rattle.wa_ops.specs.declared.op.ValueType.{ValueType}
use Rattle.wa_ops.specs.declared.op.ValueType.TheVariants.{I32, I64}
use Rattle.wa_ops.specs.Accesses.{load_type, load_width, is_signed_load, store_type, store_width, number_takes}
use Rattle.wa_ops.specs.Accesses.{number_gives}
use Rattle.wa_ops.specs.Bound.{LoopCost, own, last_pass}
use Rattle.wa_ops.specs.Callees.{Callee, guard, accept, rollback, host_call, takes, gives}
use Rattle.wa_ops.specs.Opcodes.{among, is_load, is_store, is_number}
use Rattle.wa_ops.specs.Typing.{known, Stack, loosened, push, pop, pop_all, pop_result, push_result, selected, changed}
use Rattle.wa_ops.specs.Typing.{left_with, stored, all_carry, and_then, is_same_type, effect, types, Leaves}
use Rattle.wa_num.specs.Memory.{fits, loaded, written, cells}
use Rattle.wa_ops.proofs.Types.{same_type}
use Rattle.wa_machine.specs.Machine.{Value, word32, word64, type_of, word_of, value_of, Region, Configuration, World}
use Rattle.wa_machine.specs.Machine.{ended, fault, onward, with_some, with_value, with_all, first, second, third}
use Rattle.wa_machine.specs.Machine.{text_of, end_with, counted, pass, call, numeric, finish, extended, load, store}
use Rattle.wa_machine.specs.Machine.{branch, label_at, put_local, put_global, act}
use Rattle.wa_machine.specs.Law.{types_of}
use Rattle.wa_machine.proofs.Typed.{closed, On, on_and, on_any, on_if, on_word, on_all, on_changed, on_local, on_global}
use Rattle.wa_machine.proofs.Typed.{set_types, pushed_back, table_carries}
use Rattle.wa_machine.proofs.Budget.{left, left_less}
use Rattle.wa_machine.proofs.Sane.{labels_of, weight, GoodStep}
use Rattle.wa_machine.proofs.Steps.{Vars, Standing, onward_good, branch_good, leave_good, CanLeave}

pub one_popped : (kind : ValueType) (operands : List Value) (Q : Stack → Type 0) → On (pop kind (closed operands)) Q →
    On (pop_all (kind ∷ []) (closed operands)) Q
one_popped kind operands Q h = at (pop kind (closed operands)) h
  where
    at : (found : Option Stack) → On found Q → On (and_then found (pop_all [])) Q
    at None h = h
    at (Some stack) h = h

pub one_changed : (given : ValueType) (operands : List Value) (Q : Stack → Type 0) →
    On (changed (I32 ∷ []) given (closed operands)) Q → On (pop I32 (closed operands)) (λ below. Q (push given below))
one_changed given operands Q h = at (pop I32 (closed operands)) h
  where
    at : (found : Option Stack) → On (and_then (and_then found (pop_all [])) (λ below. Some (push given below))) Q →
        On found (λ below. Q (push given below))
    at None h = h
    at (Some stack) h = h

-- an instruction's region goes on well with each list of operands that its rest is typed for
pub record Going {S : Type 0} (world : World S) (all : List LoopCost) (m : ℕ) (region : Region) (around : List Region)
    (guards : ℕ → ℕ) (Q : Stack → Type 0) : Type 0 where
  pub standing : Standing world all region around
  pub enough : left all guards + (last_pass all + (own 1 region.rest + weight around)) < m
  pub place : ℕ
  pub typed : (stack : Stack) → Q stack →
      Leaves region.result (types world.context (labels_of (region ∷ around)) region.rest place stack)

-- over the same guards
pub goes : {S : Type 0} (world : World S) (all : List LoopCost) (m : ℕ) (region : Region) (around : List Region)
    (guards : ℕ → ℕ) (Q : Stack → Type 0) → Going world all m region around guards Q →
    (operands : List Value) (c : Configuration S) → c.guards ≡ guards → Vars world c → Q (closed operands) →
    GoodStep world all m (onward region around operands c)
goes world all m region around guards Q g operands c e v q =
    onward_good world all m region around operands c g.place g.standing v
    (subst (λ found. left all found + (last_pass all + (own 1 region.rest + weight around)) < m) (sym e) g.enough)
    (g.typed (closed operands) q)

pub some_left : {S : Type 0} (world : World S) (all : List LoopCost) (m : ℕ) (region : Region) (around : List Region)
    (guards : ℕ → ℕ) (Q : Stack → Type 0) → Going world all m region around guards Q → 0 < m
some_left world all m region around guards Q g = omega (arith, g.enough)

pub branches : {S : Type 0} (world : World S) (all : List LoopCost) (m : ℕ) (region : Region) (around : List Region)
    (guards : ℕ → ℕ) (Q : Stack → Type 0) → Going world all m region around guards Q →
    (label : ℕ) (operands : List Value) (c : Configuration S) → c.guards ≡ guards → Vars world c →
    CanLeave (labels_of (region ∷ around)) label operands →
    GoodStep world all m (branch label (region ∷ around) operands c)
branches world all m region around guards Q g label operands c e v t =
    branch_good world all m label region around operands c g.standing.kind g.standing.outer t v
    (omega (
      arith,
      subst (λ found. left all found + (last_pass all + (own 1 region.rest + weight around)) < m) (sym e) g.enough,
    ))

-- the type that an operation gives is that of its value
pub given_is : (Q : Stack → Type 0) (b : Bool) (n : ℕ) (operands : List Value) →
    Q (push (if b then I64 else I32) (closed operands)) → Q (closed (value_of (if b then I64 else I32) n ∷ operands))
given_is Q true n operands q = q
given_is Q false n operands q = q

pub end_with_good : {S : Type 0} (world : World S) (all : List LoopCost) (m : ℕ) (region : Region)
    (around : List Region) (guards : ℕ → ℕ) (Q : Stack → Type 0) → Going world all m region around guards Q →
    (outcome : ℤ → List ℕ → Outcome) (arguments operands : List Value) (c : Configuration S) → c.guards ≡ guards →
    Vars world c → Q (push I64 (closed operands)) →
    GoodStep world all m (end_with outcome arguments region around operands c)
end_with_good world all m region around guards Q g outcome arguments operands c e v q =
    at (fits c.memory (third arguments) (second arguments))
  where
    at : (b : Bool) →
        GoodStep world all m (if b
        then ended (outcome (cast_signed w64 (first arguments)) (text_of c.memory (third arguments) (second arguments)))
        c else onward region around (word64 (2 ^ 64 - 1) ∷ operands) c)
    at true = some_left world all m region around guards Q g
    at false = goes world all m region around guards Q g (word64 (2 ^ 64 - 1) ∷ operands) c e v q

pub pass_good : {S : Type 0} (world : World S) (all : List LoopCost) (m : ℕ) (region : Region) (around : List Region)
    (guards : ℕ → ℕ) (Q : Stack → Type 0) → Going world all m region around guards Q →
    (id limit : ℕ) (operands : List Value) (c : Configuration S) → c.guards ≡ guards → Vars world c →
    Q (push I32 (closed operands)) →
    GoodStep world all m (pass id limit region around operands c)
pass_good world all m region around guards Q g id limit operands c e v q = at (nat_lt (c.guards id) limit)
  where
    at : (b : Bool) →
        GoodStep world all m (if b
        then onward region around (word32 1 ∷ operands) (record c { guards = counted id c.guards })
        else ended (GuardViolated id limit) (record c { guards = counted id c.guards }))
    at true =
        onward_good world all m region around (word32 1 ∷ operands) (record c { guards = counted id c.guards }) g.place
        g.standing (record { locals = v.locals; globals = v.globals; returns = v.returns })
        (omega (
          arith,
          left_less all id c.guards,
          subst (λ found. left all found + (last_pass all + (own 1 region.rest + weight around)) < m) (sym e) g.enough,
        ))
        (g.typed (closed (word32 1 ∷ operands)) q)
    at false = some_left world all m region around guards Q g

pub call_good : {S : Type 0} (world : World S) (all : List LoopCost) (m : ℕ) (region : Region) (around : List Region)
    (guards : ℕ → ℕ) (Q : Stack → Type 0) → Going world all m region around guards Q →
    (callee : Callee) (arguments operands : List Value) (c : Configuration S) → c.guards ≡ guards → Vars world c →
    Q (push (gives callee) (closed operands)) →
    GoodStep world all m (call world callee arguments region around operands c)
call_good world all m region around guards Q g guard arguments operands c e v q =
    pass_good world all m region around guards Q g (second arguments) (first arguments) operands c e v q
call_good world all m region around guards Q g accept arguments operands c e v q =
    end_with_good world all m region around guards Q g Accepted arguments operands c e v q
call_good world all m region around guards Q g rollback arguments operands c e v q =
    end_with_good world all m region around guards Q g RolledBack arguments operands c e v q
call_good world all m region around guards Q g (host_call row parameters) arguments operands c e v q =
    goes world all m region around guards Q g
    (word64 (cast_unsigned w64 (world.host.answer c.host row (map word_of (reverse arguments)) c.memory)) ∷ operands)
    (record c {
      memory = world.host.memory_after c.host row (map word_of (reverse arguments)) c.memory;
      host = world.host.state_after c.host row (map word_of (reverse arguments)) c.memory;
    }) e (record { locals = v.locals; globals = v.globals; returns = v.returns }) q

pub finish_good : {S : Type 0} (world : World S) (all : List LoopCost) (m : ℕ) (region : Region) (around : List Region)
    (guards : ℕ → ℕ) (Q : Stack → Type 0) → Going world all m region around guards Q →
    (result : Result ℕ Trap) (wide : Bool) (operands : List Value) (c : Configuration S) → c.guards ≡ guards →
    Vars world c → Q (push (if wide then I64 else I32) (closed operands)) →
    GoodStep world all m (finish result (if wide then I64 else I32) region around operands c)
finish_good world all m region around guards Q g (Ok n) wide operands c e v q =
    goes world all m region around guards Q g (value_of (if wide then I64 else I32) n ∷ operands) c e v
    (given_is Q wide n operands q)
finish_good world all m region around guards Q g (Err cause) wide operands c e v q =
    some_left world all m region around guards Q g

pub load_good : {S : Type 0} (world : World S) (all : List LoopCost) (m : ℕ) (region : Region) (around : List Region)
    (guards : ℕ → ℕ) (Q : Stack → Type 0) → Going world all m region around guards Q →
    (opcode : ℕ) (found : Option ℕ) (operands : List Value) (c : Configuration S) → c.guards ≡ guards → Vars world c →
    Q (push (load_type opcode) (closed operands)) →
    GoodStep world all m (load opcode found region around operands c)
load_good world all m region around guards Q g opcode None operands c e v q =
    some_left world all m region around guards Q g
load_good world all m region around guards Q g opcode (Some n) operands c e v q =
    goes world all m region around guards Q g _ c e v
    (given_is Q (opcode == 0x29 || among 0x30 0x35 opcode)
    (if is_signed_load opcode then extended (load_width opcode) (load_type opcode) n else n) operands q)

pub store_good : {S : Type 0} (world : World S) (all : List LoopCost) (m : ℕ) (region : Region) (around : List Region)
    (guards : ℕ → ℕ) (Q : Stack → Type 0) → Going world all m region around guards Q →
    (opcode at n : ℕ) (operands : List Value) (c : Configuration S) → c.guards ≡ guards → Vars world c →
    Q (closed operands) →
    GoodStep world all m (store opcode at n region around operands c)
store_good world all m region around guards Q g opcode at n operands c e v q =
    go (fits c.memory at (store_width opcode))
  where
    go : (b : Bool) →
        GoodStep world all m (if b
        then onward region around operands (record c { memory = written c.memory at (cells (store_width opcode) n) })
        else ended (Trapped trap.Memory) c)
    go true =
        goes world all m region around guards Q g operands
        (record c { memory = written c.memory at (cells (store_width opcode) n) }) e
        (record { locals = v.locals; globals = v.globals; returns = v.returns }) q
    go false = some_left world all m region around guards Q g

pub select_good : {S : Type 0} (world : World S) (all : List LoopCost) (m : ℕ) (region : Region) (around : List Region)
    (guards : ℕ → ℕ) (Q : Stack → Type 0) → Going world all m region around guards Q →
    (condition : ℕ) (operands : List Value) (c : Configuration S) → c.guards ≡ guards → Vars world c →
    On (selected (closed operands).slots false) Q →
    GoodStep world all m (with_value operands (λ b below. with_value below (λ a under.
    if is_same_type (type_of b) (type_of a) then onward region around ((if condition == 0 then b else a) ∷ under) c
    else fault)))
select_good world all m region around guards Q g condition [] c e v t = absurd t
select_good world all m region around guards Q g condition (b ∷ []) c e v t = absurd t
select_good world all m region around guards Q g condition (b ∷ a ∷ under) c e v t =
    at (is_same_type (type_of b) (type_of a)) refl t
  where
    kept : (zero_condition : Bool) → type_of (if zero_condition then b else a) ≡ type_of b →
        Q (push (type_of b) (closed under)) →
        GoodStep world all m (onward region around ((if zero_condition then b else a) ∷ under) c)
    kept z k q =
        goes world all m region around guards Q g ((if z then b else a) ∷ under) c e v
        (subst (λ kind. Q (push kind (closed under))) (sym k) q)

    type_kept : (z : Bool) → is_same_type (type_of b) (type_of a) ≡ true → type_of (if z then b else a) ≡ type_of b
    type_kept true s = refl
    type_kept false s = sym (same_type (type_of b) (type_of a) s)

    at : (same : Bool) → is_same_type (type_of b) (type_of a) ≡ same →
        On (and_then (if same then Some (known (type_of b)) else None)
        (λ left. Some (record { slots = left ∷ (closed under).slots; loose = false }))) Q →
        GoodStep world all m
        (if same then onward region around ((if condition == 0 then b else a) ∷ under) c else fault)
    at true s q = kept (condition == 0) (type_kept (condition == 0) s) q
    at false s q = absurd q

-- sets a variable to the one operand that was taken
pub set_good : {S : Type 0} (world : World S) (all : List LoopCost) (m : ℕ) (region : Region) (around : List Region)
    (guards : ℕ → ℕ) (Q : Stack → Type 0) → Going world all m region around guards Q →
    (kind : ValueType) (taken : List Value) (make : Value → List Value) (put : Value → Configuration S) →
    types_of taken ≡ kind ∷ [] →
    ((value : Value) → type_of value ≡ kind → (put value).guards ≡ guards) →
    ((value : Value) → type_of value ≡ kind → Vars world (put value)) →
    ((value : Value) → type_of value ≡ kind → Q (closed (make value))) →
    GoodStep world all m (with_value taken (λ value none. onward region around (make value) (put value)))
set_good world all m region around guards Q g kind [] make put e same vars q =
    absurd (let p : [] ≡ (kind ∷ []) = e in cc)
set_good world all m region around guards Q g kind (value ∷ more) make put e same vars q =
    let p : (type_of value ∷ types_of more) ≡ (kind ∷ []) = e in let k : type_of value ≡ kind = cc in
    goes world all m region around guards Q g (make value) (put value) (same value k) (vars value k) (q value k)

pub local_vars : {S : Type 0} (world : World S) (c : Configuration S) (local : ℕ) (old value : Value) → Vars world c →
    slice_get c.locals local ≡ Some old → type_of value ≡ type_of old → Vars world (put_local local value c)
local_vars world c local old value v e k = record {
  locals = set_types c.locals local old value e k ∙ v.locals;
  globals = v.globals;
  returns = v.returns;
}

pub global_vars : {S : Type 0} (world : World S) (c : Configuration S) (global : ℕ) (old value : Value) → Vars world c →
    slice_get c.globals global ≡ Some old → type_of value ≡ type_of old → Vars world (put_global global value c)
global_vars world c global old value v e k = record {
  locals = v.locals;
  globals = set_types c.globals global old value e k ∙ v.globals;
  returns = v.returns;
}

-- the typing of an instruction in its region
abbrev pub Rest : {S : Type 0} → World S → Region → List Region → ℕ → Stack → Type 0
Rest world region around place stack =
    Leaves region.result (types world.context (labels_of (region ∷ around)) region.rest place stack)

pub table_good : (labels : List (Option ValueType)) (listed : List ℕ) (last index : ℕ) (operands : List Value)
    (Q : Stack → Type 0) →
    On (and_then (slice_get labels last)
    (λ result. if all_carry labels result listed then left_with result (closed operands) else None)) Q →
    CanLeave labels (label_at listed last index) operands
table_good labels listed last index operands Q t = at (slice_get labels last) refl t
  where
    leaves_with : (result : Option ValueType) → On (left_with result (closed operands)) Q →
        On (pop_result result (closed operands)) (λ stack. Unit {0})
    leaves_with result h =
        on_any (pop_result result (closed operands)) (λ below. On (Some loosened) Q)
        (on_and (pop_result result (closed operands)) (λ below. Some loosened) Q h)

    carry : (result : Option ValueType) → slice_get labels last ≡ Some result → (b : Bool) →
        all_carry labels result listed ≡ b → On (if b then left_with result (closed operands) else None) Q →
        CanLeave labels (label_at listed last index) operands
    carry result e true a h =
        subst (λ found. On found (λ r. On (pop_result r (closed operands)) (λ stack. Unit {0})))
        (sym (table_carries labels listed last index result e a)) (leaves_with result h)
    carry result e false a h = absurd h

    at : (found : Option (Option ValueType)) → slice_get labels last ≡ found →
        On
        (and_then found (λ result. if all_carry labels result listed then left_with result (closed operands) else None))
        Q → CanLeave labels (label_at listed last index) operands
    at None e h = absurd h
    at (Some result) e h = carry result e (all_carry labels result listed) refl h

pub leaves_by : (labels : List (Option ValueType)) (label : ℕ) (operands : List Value) (Q : Stack → Type 0) →
    On (and_then (slice_get labels label) (λ result. left_with result (closed operands))) Q →
    CanLeave labels label operands
leaves_by labels label operands Q t = at (slice_get labels label) t
  where
    at : (found : Option (Option ValueType)) → On (and_then found (λ result. left_with result (closed operands))) Q →
        On found (λ result. On (pop_result result (closed operands)) (λ stack. Unit {0}))
    at None h = absurd h
    at (Some result) h =
        on_any (pop_result result (closed operands)) (λ below. On (Some loosened) Q)
        (on_and (pop_result result (closed operands)) (λ below. Some loosened) Q h)

-- a conditional branch is well typed both ways
pub record Both (labels : List (Option ValueType)) (label : ℕ) (operands : List Value)
    (Q : Stack → Type 0) : Type 0 where
  pub leaves : CanLeave labels label operands
  pub stays : Q (closed operands)

pub both_ways : (labels : List (Option ValueType)) (label : ℕ) (operands : List Value) (Q : Stack → Type 0) →
    On (and_then (slice_get labels label)
    (λ result. and_then (pop_result result (closed operands)) (λ left. Some (push_result result left)))) Q →
    On (slice_get labels label) (λ result. On (pop_result result (closed operands)) (λ stack. Unit {0}))
    × Q (closed operands)
both_ways labels label operands Q t = at (slice_get labels label) t
  where
    at : (found : Option (Option ValueType)) →
        On (and_then found
        (λ result. and_then (pop_result result (closed operands)) (λ left. Some (push_result result left)))) Q →
        On found (λ result. On (pop_result result (closed operands)) (λ stack. Unit {0})) × Q (closed operands)
    at None h = absurd h
    at (Some result) h =
        let p : On (pop_result result (closed operands)) (λ left. On (Some (push_result result left)) Q) =
        on_and (pop_result result (closed operands)) (λ left. Some (push_result result left)) Q h in (
          on_any (pop_result result (closed operands)) (λ left. On (Some (push_result result left)) Q) p,
          pushed_back result operands Q p,
        )

pub plain_good : {S : Type 0} (world : World S) (all : List LoopCost) (m : ℕ) (instruction : Op) (region : Region)
    (around : List Region) (operands : List Value) (c : Configuration S) (Q : Stack → Type 0) →
    Going world all m region around c.guards Q → Vars world c →
    On (effect world.context (labels_of (region ∷ around)) instruction (closed operands)) Q →
    GoodStep world all m (act world instruction region around operands c)
plain_good world all m op.Unreachable region around operands c Q g v t =
    some_left world all m region around c.guards Q g
plain_good world all m op.Nop region around operands c Q g v t =
    goes world all m region around c.guards Q g operands c refl v t
plain_good world all m (op.Br label) region around operands c Q g v t =
    branches world all m region around c.guards Q g label operands c refl v
    (leaves_by (labels_of (region ∷ around)) label operands Q t)
plain_good world all m (op.BrIf label) region around operands c Q g v t =
    on_word (GoodStep world all m) operands
    (λ condition left. if condition == 0 then onward region around left c else branch label (region ∷ around) left c)
    (λ below.
    On (and_then (slice_get (labels_of (region ∷ around)) label)
    (λ result. and_then (pop_result result below) (λ left. Some (push_result result left)))) Q)
    (on_and (pop I32 (closed operands)) (λ below.
    and_then (slice_get (labels_of (region ∷ around)) label)
    (λ result. and_then (pop_result result below) (λ left. Some (push_result result left)))) Q t)
    (λ condition left h. choose (condition == 0) left (both_ways (labels_of (region ∷ around)) label left Q h))
  where
    choose : (b : Bool) (left : List Value) →
        On (slice_get (labels_of (region ∷ around)) label)
        (λ result. On (pop_result result (closed left)) (λ stack. Unit {0})) × Q (closed left) →
        GoodStep world all m (if b then onward region around left c else branch label (region ∷ around) left c)
    choose true left h = goes world all m region around c.guards Q g left c refl v h.1
    choose false left h = branches world all m region around c.guards Q g label left c refl v h.0
plain_good world all m (op.BrTable listed last) region around operands c Q g v t =
    on_word (GoodStep world all m) operands (λ index left. branch (label_at listed last index) (region ∷ around) left c)
    (λ below.
    On (and_then (slice_get (labels_of (region ∷ around)) last)
    (λ result. if all_carry (labels_of (region ∷ around)) result listed then left_with result below else None)) Q)
    (on_and (pop I32 (closed operands)) (λ below.
    and_then (slice_get (labels_of (region ∷ around)) last)
    (λ result. if all_carry (labels_of (region ∷ around)) result listed then left_with result below else None)) Q t)
    (λ index left h.
    branches world all m region around c.guards Q g (label_at listed last index) left c refl v
    (table_good (labels_of (region ∷ around)) listed last index left Q h))
plain_good world all m op.Return region around operands c Q g v t =
    leave_good world all m region around operands c g.standing.kind g.standing.outer
    (on_any (pop_result world.context.result (closed operands)) (λ below. On (Some loosened) Q)
    (on_and (pop_result world.context.result (closed operands)) (λ below. Some loosened) Q t)) v
    (omega (arith, g.enough))
plain_good world all m (op.Call function) region around operands c Q g v t =
    at (slice_get world.context.calls function) t
  where
    at : (found : Option Callee) →
        On (and_then found (λ callee. changed (takes callee) (gives callee) (closed operands))) Q →
        GoodStep world all m (with_some found (λ callee.
        with_all (takes callee) operands (λ arguments left. call world callee arguments region around left c)))
    at None h = absurd h
    at (Some callee) h =
        on_changed (GoodStep world all m) (takes callee) (gives callee) operands
        (λ arguments left. call world callee arguments region around left c) Q h
        (λ arguments left e q. call_good world all m region around c.guards Q g callee arguments left c refl v q)
plain_good world all m op.Drop region around [] c Q g v t = absurd t
plain_good world all m op.Drop region around (value ∷ operands) c Q g v t =
    goes world all m region around c.guards Q g operands c refl v t
plain_good world all m op.Select region around operands c Q g v t =
    on_word (GoodStep world all m) operands
    (λ condition left. with_value left (λ b below. with_value below (λ a under.
    if is_same_type (type_of b) (type_of a) then onward region around ((if condition == 0 then b else a) ∷ under) c
    else fault)))
    (λ below. On (selected below.slots below.loose) Q)
    (on_and (pop I32 (closed operands)) (λ below. selected below.slots below.loose) Q t)
    (λ condition left h. select_good world all m region around c.guards Q g condition left c refl v h)
plain_good world all m (op.LocalGet local) region around operands c Q g v t =
    on_local (GoodStep world all m) c.locals local (λ value. onward region around (value ∷ operands) c)
    (λ kind. Q (push kind (closed operands)))
    (subst (λ kinds. On (slice_get kinds local) (λ kind. Q (push kind (closed operands)))) (sym v.locals)
    (on_and (slice_get world.context.locals local) (λ kind. Some (push kind (closed operands))) Q t))
    (λ value e q. goes world all m region around c.guards Q g (value ∷ operands) c refl v q)
plain_good world all m (op.LocalSet local) region around operands c Q g v t =
    on_local (GoodStep world all m) c.locals local
    (λ old.
    with_all (type_of old ∷ []) operands
    (λ taken left. with_value taken (λ value none. onward region around left (put_local local value c))))
    (λ kind. On (pop kind (closed operands)) Q)
    (subst (λ kinds. On (slice_get kinds local) (λ kind. On (pop kind (closed operands)) Q)) (sym v.locals)
    (on_and (slice_get world.context.locals local) (λ kind. pop kind (closed operands)) Q t))
    (λ old e h. on_all (GoodStep world all m) (type_of old ∷ []) operands
    (λ taken left. with_value taken (λ value none. onward region around left (put_local local value c))) Q
    (one_popped (type_of old) operands Q h)
    (λ taken left k q. set_good world all m region around c.guards Q g (type_of old) taken (λ value. left)
    (λ value. put_local local value c) k (λ value s. refl)
    (λ value s. local_vars world c local old value v e s) (λ value s. q)))
plain_good world all m (op.LocalTee local) region around operands c Q g v t =
    on_local (GoodStep world all m) c.locals local
    (λ old.
    with_all (type_of old ∷ []) operands
    (λ taken left. with_value taken (λ value none. onward region around (value ∷ left) (put_local local value c))))
    (λ kind. On (changed (kind ∷ []) kind (closed operands)) Q)
    (subst (λ kinds. On (slice_get kinds local) (λ kind. On (changed (kind ∷ []) kind (closed operands)) Q))
    (sym v.locals)
    (on_and (slice_get world.context.locals local) (λ kind. changed (kind ∷ []) kind (closed operands)) Q t))
    (λ old e h. on_changed (GoodStep world all m) (type_of old ∷ []) (type_of old) operands
    (λ taken left. with_value taken (λ value none. onward region around (value ∷ left) (put_local local value c))) Q h
    (λ taken left k q. set_good world all m region around c.guards Q g (type_of old) taken (λ value. value ∷ left)
    (λ value. put_local local value c) k (λ value s. refl)
    (λ value s. local_vars world c local old value v e s)
    (λ value s. subst (λ kind. Q (push kind (closed left))) (sym s) q)))
plain_good world all m (op.GlobalGet global) region around operands c Q g v t =
    on_global (GoodStep world all m) world.context.globals c.globals global
    (λ value. onward region around (value ∷ operands) c) (λ found. Q (push found.kind (closed operands))) v.globals
    (on_and (slice_get world.context.globals global) (λ found. Some (push found.kind (closed operands))) Q t)
    (λ value found e k q.
    goes world all m region around c.guards Q g (value ∷ operands) c refl v
    (subst (λ kind. Q (push kind (closed operands))) k q))
plain_good world all m (op.GlobalSet global) region around operands c Q g v t =
    on_global (GoodStep world all m) world.context.globals c.globals global
    (λ old.
    with_all (type_of old ∷ []) operands
    (λ taken left. with_value taken (λ value none. onward region around left (put_global global value c))))
    (λ found. On (stored world.context found (closed operands)) Q) v.globals
    (on_and (slice_get world.context.globals global) (λ found. stored world.context found (closed operands)) Q t)
    (λ old found e k h. on_all (GoodStep world all m) (type_of old ∷ []) operands
    (λ taken left. with_value taken (λ value none. onward region around left (put_global global value c))) Q
    (one_popped (type_of old) operands Q (subst (λ kind. On (pop kind (closed operands)) Q) k
    (on_if found.is_mutable (pop found.kind (closed operands)) Q h)))
    (λ taken left k q. set_good world all m region around c.guards Q g (type_of old) taken (λ value. left)
    (λ value. put_global global value c) k (λ value s. refl)
    (λ value s. global_vars world c global old value v e s) (λ value s. q)))
plain_good world all m (op.Load opcode align offset) region around operands c Q g v t =
    on_word (GoodStep world all m) operands
    (λ address left. load opcode (loaded c.memory (address + offset) (load_width opcode)) region around left c)
    (λ below. Q (push (load_type opcode) below))
    (one_changed (load_type opcode) operands Q (on_if
    (world.context.has_memory && (is_load opcode && nat_le (2 ^ align) (load_width opcode)))
    (changed (I32 ∷ []) (load_type opcode) (closed operands)) Q t))
    (λ address left q.
    load_good world all m region around c.guards Q g opcode (loaded c.memory (address + offset) (load_width opcode))
    left c refl v q)
plain_good world all m (op.Store opcode align offset) region around operands c Q g v t =
    on_all (GoodStep world all m) (store_type opcode ∷ I32 ∷ []) operands
    (λ taken left. store opcode (second taken + offset) (first taken) region around left c) Q
    (on_if (world.context.has_memory && (is_store opcode && nat_le (2 ^ align) (store_width opcode)))
    (pop_all (store_type opcode ∷ I32 ∷ []) (closed operands)) Q t)
    (λ taken left k q.
    store_good world all m region around c.guards Q g opcode (second taken + offset) (first taken) left c refl v q)
plain_good world all m op.MemorySize region around operands c Q g v t =
    goes world all m region around c.guards Q g (word32 (length c.memory / 65536) ∷ operands) c refl v
    (on_if world.context.has_memory (Some (push I32 (closed operands))) Q t)
plain_good world all m (op.I32Const n) region around operands c Q g v t =
    goes world all m region around c.guards Q g (word32 (cast_unsigned w32 n) ∷ operands) c refl v t
plain_good world all m (op.I64Const n) region around operands c Q g v t =
    goes world all m region around c.guards Q g (word64 (cast_unsigned w64 n) ∷ operands) c refl v t
plain_good world all m (op.Number opcode) region around operands c Q g v t =
    on_changed (GoodStep world all m) (number_takes opcode) (number_gives opcode) operands
    (λ taken left. finish (numeric opcode taken) (number_gives opcode) region around left c) Q
    (on_if (is_number opcode) (changed (number_takes opcode) (number_gives opcode) (closed operands)) Q t)
    (λ taken left k q.
    finish_good world all m region around c.guards Q g (numeric opcode taken)
    (among 0x79 0x8A opcode || opcode == 0xAC || opcode == 0xAD || among 0xC2 0xC4 opcode) left c refl v q)
plain_good world all m instruction region around operands c Q g v t = absurd t
