-- What a plain instruction does to well typed operands: it goes on with those that typing finds, branches, or ends the
-- run.
use Rattle.std.proofs.Common.{◌≡◌, ◌+◌, ◌-◌, ◌^◌, ◌==◌, ◌||◌, ◌&&◌, ◌/◌, length, nat_le, nat_lt, ℕ, ℤ, List, [], ◌∷◌}
use Rattle.std.proofs.Common.{Option, Some, None, Result, Ok, Err, Bool, true, false, if◌then◌else◌, map, reverse}
use Rattle.std.proofs.Common.{slice_get, sym, subst, refl}
use Rattle.std.specs.Int.{cast_unsigned, cast_signed, w32, w64}
use Rattle.hk_base.specs.declared.outcome.Outcome.{Outcome}
use Rattle.hk_base.specs.declared.outcome.Outcome.TheVariants.{Accepted, RolledBack, GuardViolated, Trapped}
use Rattle.hk_base.specs.declared.outcome.Trap.{Trap}
use Rattle.hk_base.specs.declared.outcome.Trap.TheVariants as trap
use Rattle.wa_ops.specs.declared.op.Op.{Op}
use Rattle.wa_ops.specs.declared.op.Op.TheVariants as op
use Rattle.wa_ops.specs.declared.op.ValueType.{ValueType}
use Rattle.wa_ops.specs.declared.op.ValueType.TheVariants.{I32, I64}
use Rattle.wa_ops.specs.Accesses.{load_type, load_width, is_signed_load, store_type, store_width, number_takes}
use Rattle.wa_ops.specs.Accesses.{number_gives}
use Rattle.wa_ops.specs.Callees.{Callee, guard, accept, rollback, host_call, takes, gives}
use Rattle.wa_ops.specs.Opcodes.{among, is_load, is_store, is_number}
use Rattle.wa_ops.specs.Typing.{known, Stack, push, pop, pop_all, pop_result, push_result, selected, changed, stored}
use Rattle.wa_ops.specs.Typing.{and_then, is_same_type, effect}
use Rattle.wa_num.specs.Memory.{fits, loaded, written, cells}
use Rattle.wa_ops.proofs.Types.{same_type}
use Rattle.wa_machine.specs.Machine.{Value, word32, word64, type_of, word_of, value_of, Region, Configuration, World}
use Rattle.wa_machine.specs.Machine.{Step, ended, fault, onward, with_some, with_value, with_word, with_all, first}
use Rattle.wa_machine.specs.Machine.{second, third, text_of, end_with, counted, pass, call, numeric, finish, extended}
use Rattle.wa_machine.specs.Machine.{load, store, branch, leave, label_at, put_local, put_global, act}
use Rattle.wa_machine.specs.Law.{types_of}
use Rattle.wa_machine.proofs.Typed.{closed, On, on_and, on_if, on_word, on_all, on_changed, on_local, on_global}
use Rattle.wa_machine.proofs.Sane.{labels_of}
use Rattle.wa_machine.proofs.Steps.{Vars}
use Rattle.wa_machine.proofs.Plain.{one_popped, one_changed, given_is, both_ways}

-- a property of steps that each of these has
pub record Moves {S : Type 0} (P : Step S → Type 0) (region : Region) (around : List Region)
    (Q : Stack → Type 0) : Type 0 where
  pub goes : (operands : List Value) (c : Configuration S) → Q (closed operands) → P (onward region around operands c)
  pub branches : (label : ℕ) (operands : List Value) (c : Configuration S) →
      P (branch label (region ∷ around) operands c)
  pub leaves : (operands : List Value) (c : Configuration S) → P (leave (region ∷ around) operands c)
  pub ends : (outcome : Outcome) (c : Configuration S) → P (ended outcome c)
  pub faults : P fault

pub either : {S : Type 0} (P : Step S → Type 0) (b : Bool) (one other : Step S) → P one → P other →
    P (if b then one else other)
either P true one other p q = p
either P false one other p q = q

pub any_word : {S : Type 0} (P : Step S → Type 0) (values : List Value) (go : ℕ → List Value → Step S) → P fault →
    ((n : ℕ) (left : List Value) → P (go n left)) → P (with_word values go)
any_word P [] go f k = f
any_word P (word32 n ∷ values) go f k = k n values
any_word P (word64 n ∷ values) go f k = f

call_moves : {S : Type 0} (P : Step S → Type 0) (world : World S) (region : Region) (around : List Region)
    (Q : Stack → Type 0) → Moves P region around Q →
    (callee : Callee) (arguments operands : List Value) (c : Configuration S) →
    Q (push (gives callee) (closed operands)) → P (call world callee arguments region around operands c)
call_moves P world region around Q m guard arguments operands c q =
    either P (nat_lt (c.guards (second arguments)) (first arguments))
    (onward region around (word32 1 ∷ operands) (record c { guards = counted (second arguments) c.guards }))
    (ended (GuardViolated (second arguments) (first arguments))
    (record c { guards = counted (second arguments) c.guards }))
    (m.goes (word32 1 ∷ operands) (record c { guards = counted (second arguments) c.guards }) q) (m.ends _ _)
call_moves P world region around Q m accept arguments operands c q =
    either P (fits c.memory (third arguments) (second arguments))
    (ended (Accepted (cast_signed w64 (first arguments)) (text_of c.memory (third arguments) (second arguments))) c)
    (onward region around (word64 (2 ^ 64 - 1) ∷ operands) c) (m.ends _ _) (m.goes (word64 (2 ^ 64 - 1) ∷ operands) c q)
call_moves P world region around Q m rollback arguments operands c q =
    either P (fits c.memory (third arguments) (second arguments))
    (ended (RolledBack (cast_signed w64 (first arguments)) (text_of c.memory (third arguments) (second arguments))) c)
    (onward region around (word64 (2 ^ 64 - 1) ∷ operands) c) (m.ends _ _) (m.goes (word64 (2 ^ 64 - 1) ∷ operands) c q)
call_moves P world region around Q m (host_call row parameters) arguments operands c q =
    m.goes
    (word64 (cast_unsigned w64 (world.host.answer c.host row (map word_of (reverse arguments)) c.memory)) ∷ operands)
    (record c {
      memory = world.host.memory_after c.host row (map word_of (reverse arguments)) c.memory;
      host = world.host.state_after c.host row (map word_of (reverse arguments)) c.memory;
    }) q

finish_moves : {S : Type 0} (P : Step S → Type 0) (region : Region) (around : List Region) (Q : Stack → Type 0) →
    Moves P region around Q →
    (result : Result ℕ Trap) (wide : Bool) (operands : List Value) (c : Configuration S) →
    Q (push (if wide then I64 else I32) (closed operands)) →
    P (finish result (if wide then I64 else I32) region around operands c)
finish_moves P region around Q m (Ok n) wide operands c q =
    m.goes (value_of (if wide then I64 else I32) n ∷ operands) c (given_is Q wide n operands q)
finish_moves P region around Q m (Err cause) wide operands c q = m.ends _ _

load_moves : {S : Type 0} (P : Step S → Type 0) (region : Region) (around : List Region) (Q : Stack → Type 0) →
    Moves P region around Q →
    (opcode : ℕ) (found : Option ℕ) (operands : List Value) (c : Configuration S) →
    Q (push (load_type opcode) (closed operands)) → P (load opcode found region around operands c)
load_moves P region around Q m opcode None operands c q = m.ends _ _
load_moves P region around Q m opcode (Some n) operands c q =
    m.goes _ c (given_is Q (opcode == 0x29 || among 0x30 0x35 opcode)
    (if is_signed_load opcode then extended (load_width opcode) (load_type opcode) n else n) operands q)

select_moves : {S : Type 0} (P : Step S → Type 0) (region : Region) (around : List Region) (Q : Stack → Type 0) →
    Moves P region around Q →
    (condition : ℕ) (operands : List Value) (c : Configuration S) → On (selected (closed operands).slots false) Q →
    P (with_value operands (λ b below. with_value below (λ a under.
    if is_same_type (type_of b) (type_of a) then onward region around ((if condition == 0 then b else a) ∷ under) c
    else fault)))
select_moves P region around Q m condition [] c t = absurd t
select_moves P region around Q m condition (b ∷ []) c t = absurd t
select_moves P region around Q m condition (b ∷ a ∷ under) c t = at (is_same_type (type_of b) (type_of a)) refl t
  where
    kept : (zero_condition : Bool) → type_of (if zero_condition then b else a) ≡ type_of b →
        Q (push (type_of b) (closed under)) → P (onward region around ((if zero_condition then b else a) ∷ under) c)
    kept z k q = m.goes ((if z then b else a) ∷ under) c (subst (λ kind. Q (push kind (closed under))) (sym k) q)

    type_kept : (z : Bool) → is_same_type (type_of b) (type_of a) ≡ true → type_of (if z then b else a) ≡ type_of b
    type_kept true s = refl
    type_kept false s = sym (same_type (type_of b) (type_of a) s)

    at : (same : Bool) → is_same_type (type_of b) (type_of a) ≡ same →
        On (and_then (if same then Some (known (type_of b)) else None)
        (λ left. Some (record { slots = left ∷ (closed under).slots; loose = false }))) Q →
        P (if same then onward region around ((if condition == 0 then b else a) ∷ under) c else fault)
    at true s q = kept (condition == 0) (type_kept (condition == 0) s) q
    at false s q = absurd q

-- sets a variable to the one operand that was taken
set_moves : {S : Type 0} (P : Step S → Type 0) (region : Region) (around : List Region) (Q : Stack → Type 0) →
    Moves P region around Q →
    (kind : ValueType) (taken : List Value) (make : Value → List Value) (put : Value → Configuration S) →
    types_of taken ≡ kind ∷ [] →
    ((value : Value) → type_of value ≡ kind → Q (closed (make value))) →
    P (with_value taken (λ value none. onward region around (make value) (put value)))
set_moves P region around Q m kind [] make put e q = absurd (let p : [] ≡ (kind ∷ []) = e in cc)
set_moves P region around Q m kind (value ∷ more) make put e q =
    let p : (type_of value ∷ types_of more) ≡ (kind ∷ []) = e in let k : type_of value ≡ kind = cc in
    m.goes (make value) (put value) (q value k)

pub plain_moves : {S : Type 0} (P : Step S → Type 0) (world : World S) (instruction : Op) (region : Region)
    (around : List Region) (operands : List Value) (c : Configuration S) (Q : Stack → Type 0) →
    Moves P region around Q → Vars world c →
    On (effect world.context (labels_of (region ∷ around)) instruction (closed operands)) Q →
    P (act world instruction region around operands c)
plain_moves P world op.Unreachable region around operands c Q m v t = m.ends _ _
plain_moves P world op.Nop region around operands c Q m v t = m.goes operands c t
plain_moves P world (op.Br label) region around operands c Q m v t = m.branches label operands c
plain_moves P world (op.BrIf label) region around operands c Q m v t =
    on_word P operands
    (λ condition left. if condition == 0 then onward region around left c else branch label (region ∷ around) left c)
    (λ below.
    On (and_then (slice_get (labels_of (region ∷ around)) label)
    (λ result. and_then (pop_result result below) (λ left. Some (push_result result left)))) Q)
    (on_and (pop I32 (closed operands)) (λ below.
    and_then (slice_get (labels_of (region ∷ around)) label)
    (λ result. and_then (pop_result result below) (λ left. Some (push_result result left)))) Q t)
    (λ condition left h. either P (condition == 0) (onward region around left c) (branch label (region ∷ around) left c)
    (m.goes left c (both_ways (labels_of (region ∷ around)) label left Q h).1) (m.branches label left c))
plain_moves P world (op.BrTable listed last) region around operands c Q m v t =
    any_word P operands (λ index left. branch (label_at listed last index) (region ∷ around) left c) m.faults
    (λ index left. m.branches (label_at listed last index) left c)
plain_moves P world op.Return region around operands c Q m v t = m.leaves operands c
plain_moves P world (op.Call function) region around operands c Q m v t = at (slice_get world.context.calls function) t
  where
    at : (found : Option Callee) →
        On (and_then found (λ callee. changed (takes callee) (gives callee) (closed operands))) Q →
        P (with_some found (λ callee.
        with_all (takes callee) operands (λ arguments left. call world callee arguments region around left c)))
    at None h = absurd h
    at (Some callee) h =
        on_changed P (takes callee) (gives callee) operands
        (λ arguments left. call world callee arguments region around left c) Q h
        (λ arguments left e q. call_moves P world region around Q m callee arguments left c q)
plain_moves P world op.Drop region around [] c Q m v t = absurd t
plain_moves P world op.Drop region around (value ∷ operands) c Q m v t = m.goes operands c t
plain_moves P world op.Select region around operands c Q m v t =
    on_word P operands
    (λ condition left. with_value left (λ b below. with_value below (λ a under.
    if is_same_type (type_of b) (type_of a) then onward region around ((if condition == 0 then b else a) ∷ under) c
    else fault)))
    (λ below. On (selected below.slots below.loose) Q)
    (on_and (pop I32 (closed operands)) (λ below. selected below.slots below.loose) Q t)
    (λ condition left h. select_moves P region around Q m condition left c h)
plain_moves P world (op.LocalGet local) region around operands c Q m v t =
    on_local P c.locals local (λ value. onward region around (value ∷ operands) c)
    (λ kind. Q (push kind (closed operands)))
    (subst (λ kinds. On (slice_get kinds local) (λ kind. Q (push kind (closed operands)))) (sym v.locals)
    (on_and (slice_get world.context.locals local) (λ kind. Some (push kind (closed operands))) Q t))
    (λ value e q. m.goes (value ∷ operands) c q)
plain_moves P world (op.LocalSet local) region around operands c Q m v t =
    on_local P c.locals local
    (λ old.
    with_all (type_of old ∷ []) operands
    (λ taken left. with_value taken (λ value none. onward region around left (put_local local value c))))
    (λ kind. On (pop kind (closed operands)) Q)
    (subst (λ kinds. On (slice_get kinds local) (λ kind. On (pop kind (closed operands)) Q)) (sym v.locals)
    (on_and (slice_get world.context.locals local) (λ kind. pop kind (closed operands)) Q t))
    (λ old e h. on_all P (type_of old ∷ []) operands
    (λ taken left. with_value taken (λ value none. onward region around left (put_local local value c))) Q
    (one_popped (type_of old) operands Q h)
    (λ taken left k q.
    set_moves P region around Q m (type_of old) taken (λ value. left) (λ value. put_local local value c) k
    (λ value s. q)))
plain_moves P world (op.LocalTee local) region around operands c Q m v t =
    on_local P c.locals local
    (λ old.
    with_all (type_of old ∷ []) operands
    (λ taken left. with_value taken (λ value none. onward region around (value ∷ left) (put_local local value c))))
    (λ kind. On (changed (kind ∷ []) kind (closed operands)) Q)
    (subst (λ kinds. On (slice_get kinds local) (λ kind. On (changed (kind ∷ []) kind (closed operands)) Q))
    (sym v.locals)
    (on_and (slice_get world.context.locals local) (λ kind. changed (kind ∷ []) kind (closed operands)) Q t))
    (λ old e h. on_changed P (type_of old ∷ []) (type_of old) operands
    (λ taken left. with_value taken (λ value none. onward region around (value ∷ left) (put_local local value c))) Q h
    (λ taken left k q. set_moves P region around Q m (type_of old) taken (λ value. value ∷ left)
    (λ value. put_local local value c) k
    (λ value s. subst (λ kind. Q (push kind (closed left))) (sym s) q)))
plain_moves P world (op.GlobalGet global) region around operands c Q m v t =
    on_global P world.context.globals c.globals global (λ value. onward region around (value ∷ operands) c)
    (λ found. Q (push found.kind (closed operands))) v.globals
    (on_and (slice_get world.context.globals global) (λ found. Some (push found.kind (closed operands))) Q t)
    (λ value found e k q. m.goes (value ∷ operands) c (subst (λ kind. Q (push kind (closed operands))) k q))
plain_moves P world (op.GlobalSet global) region around operands c Q m v t =
    on_global P world.context.globals c.globals global
    (λ old.
    with_all (type_of old ∷ []) operands
    (λ taken left. with_value taken (λ value none. onward region around left (put_global global value c))))
    (λ found. On (stored world.context found (closed operands)) Q) v.globals
    (on_and (slice_get world.context.globals global) (λ found. stored world.context found (closed operands)) Q t)
    (λ old found e k h. on_all P (type_of old ∷ []) operands
    (λ taken left. with_value taken (λ value none. onward region around left (put_global global value c))) Q
    (one_popped (type_of old) operands Q (subst (λ kind. On (pop kind (closed operands)) Q) k
    (on_if found.is_mutable (pop found.kind (closed operands)) Q h)))
    (λ taken left k q.
    set_moves P region around Q m (type_of old) taken (λ value. left) (λ value. put_global global value c) k
    (λ value s. q)))
plain_moves P world (op.Load opcode align offset) region around operands c Q m v t =
    on_word P operands
    (λ address left. load opcode (loaded c.memory (address + offset) (load_width opcode)) region around left c)
    (λ below. Q (push (load_type opcode) below))
    (one_changed (load_type opcode) operands Q (on_if
    (world.context.has_memory && (is_load opcode && nat_le (2 ^ align) (load_width opcode)))
    (changed (I32 ∷ []) (load_type opcode) (closed operands)) Q t))
    (λ address left q.
    load_moves P region around Q m opcode (loaded c.memory (address + offset) (load_width opcode)) left c q)
plain_moves P world (op.Store opcode align offset) region around operands c Q m v t =
    on_all P (store_type opcode ∷ I32 ∷ []) operands
    (λ taken left. store opcode (second taken + offset) (first taken) region around left c) Q
    (on_if (world.context.has_memory && (is_store opcode && nat_le (2 ^ align) (store_width opcode)))
    (pop_all (store_type opcode ∷ I32 ∷ []) (closed operands)) Q t)
    (λ taken left k q. either P (fits c.memory (second taken + offset) (store_width opcode))
    (onward region around left
    (record c { memory = written c.memory (second taken + offset) (cells (store_width opcode) (first taken)) }))
    (ended (Trapped trap.Memory) c) (m.goes left
    (record c { memory = written c.memory (second taken + offset) (cells (store_width opcode) (first taken)) }) q)
    (m.ends _ _))
plain_moves P world op.MemorySize region around operands c Q m v t =
    m.goes (word32 (length c.memory / 65536) ∷ operands) c
    (on_if world.context.has_memory (Some (push I32 (closed operands))) Q t)
plain_moves P world (op.I32Const n) region around operands c Q m v t =
    m.goes (word32 (cast_unsigned w32 n) ∷ operands) c t
plain_moves P world (op.I64Const n) region around operands c Q m v t =
    m.goes (word64 (cast_unsigned w64 n) ∷ operands) c t
plain_moves P world (op.Number opcode) region around operands c Q m v t =
    on_changed P (number_takes opcode) (number_gives opcode) operands
    (λ taken left. finish (numeric opcode taken) (number_gives opcode) region around left c) Q
    (on_if (is_number opcode) (changed (number_takes opcode) (number_gives opcode) (closed operands)) Q t)
    (λ taken left k q.
    finish_moves P region around Q m (numeric opcode taken)
    (among 0x79 0x8A opcode || opcode == 0xAC || opcode == 0xAD || among 0xC2 0xC4 opcode) left c q)
plain_moves P world instruction region around operands c Q m v t = absurd t
