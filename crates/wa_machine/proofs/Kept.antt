-- What each call of a host keeps, a whole run keeps.
use Rattle.std.proofs.Common.{ℕ, zero, suc, ℤ, ◌≡◌, ◌+◌, ◌-◌, ◌^◌, ◌==◌, ◌∙◌, ◌∷◌, [], Bool, true, false, if◌then◌else◌}
use Rattle.std.proofs.Common.{List, Option, Some, None, Result, Ok, Err, length, map, nat_lt, reverse, slice_get, ap}
use Rattle.std.proofs.Common.{subst}
use Rattle.std.specs.Int.{cast_unsigned, w32, w64}
use Rattle.std.proofs.lemmas.Option.{same_Some}
use Rattle.hk_base.specs.declared.outcome.Outcome.{Outcome}
use Rattle.hk_base.specs.declared.outcome.Outcome.TheVariants.{Accepted, RolledBack, GuardViolated}
use Rattle.hk_base.specs.declared.outcome.Trap.{Trap}
use Rattle.wa_num.specs.Memory.{cells, fits, loaded, written}
use Rattle.wa_ops.specs.Accesses.{load_type, load_width, number_gives, number_takes, store_type, store_width}
use Rattle.wa_ops.specs.Bound.{bound_at}
use Rattle.wa_ops.specs.Callees.{Callee, guard, accept, rollback, host_call, takes}
use Rattle.wa_ops.specs.Contexts.{calls_of}
use Rattle.wa_ops.specs.Functions.{body_of, entry_of}
use Rattle.wa_ops.specs.Sequences.{Sequence, done, plain, block, loop, if_then, if_else}
use Rattle.wa_ops.specs.Typing.{and_then, is_same_type}
use Rattle.wa_ops.specs.declared.modules.Module.{Module}
use Rattle.wa_ops.specs.declared.modules.ModuleExport.{ModuleExport}
use Rattle.wa_ops.specs.declared.op.Op.{Op}
use Rattle.wa_ops.specs.declared.op.Op.TheVariants as op
use Rattle.wa_ops.specs.declared.op.ValueType.{ValueType}
use Rattle.wa_ops.specs.declared.op.ValueType.TheVariants.{I32, I64}
use Rattle.wa_machine.specs.Machine.{Value, word32, word64, type_of, Kind, body, inner, turns, Region, Configuration}
use Rattle.wa_machine.specs.Machine.{HostMeaning, World, Step, next, ended, fault, onward, with_some, with_value}
use Rattle.wa_machine.specs.Machine.{with_word, with_all, first, second, third, text_of, end_with, counted, pass, call}
use Rattle.wa_machine.specs.Machine.{numeric, finish, load, store, taken_result, whole_result, return_with, hand_on}
use Rattle.wa_machine.specs.Machine.{close, arrive, branch, leave, label_at, put_local, put_global, act, enter, node}
use Rattle.wa_machine.specs.Machine.{innermost, ticked, step}
use Rattle.wa_machine.specs.Runs.{Ending, or_on, run_body, run_for, run_function, run_of}
use Rattle.wa_machine.specs.Starts.{start_at, world_at}

-- each call keeps it, whatever is asked
abbrev pub CallsKeep : {S : Type 0} → (S → Type 0) → HostMeaning S → Type 0
CallsKeep {S} P meaning =
    (state : S) (row : ℕ) (arguments memory : List ℕ) → P state → P (meaning.state_after state row arguments memory)

-- it holds of the host where a step leads; a fault leads nowhere
abbrev pub Kept : {S : Type 0} → (S → Type 0) → Step S → Type 0
Kept P (next c) = P c.host
Kept P (ended outcome c) = P c.host
Kept P fault = Unit {0}

-- ---- choices

if_kept : {S : Type 0} (P : S → Type 0) (b : Bool) (x y : Step S) → Kept P x → Kept P y → Kept P (if b then x else y)
if_kept P true x y p q = p
if_kept P false x y p q = q

some_kept : {S A : Type 0} (P : S → Type 0) (o : Option A) (go : A → Step S) → ((a : A) → Kept P (go a)) →
    Kept P (with_some o go)
some_kept P None go h = tt
some_kept P (Some a) go h = h a

value_kept : {S : Type 0} (P : S → Type 0) (operands : List Value) (go : Value → List Value → Step S) →
    ((value : Value) (left : List Value) → Kept P (go value left)) → Kept P (with_value operands go)
value_kept P [] go h = tt
value_kept P (value ∷ left) go h = h value left

word_kept : {S : Type 0} (P : S → Type 0) (operands : List Value) (go : ℕ → List Value → Step S) →
    ((n : ℕ) (left : List Value) → Kept P (go n left)) → Kept P (with_word operands go)
word_kept P [] go h = tt
word_kept P (word32 n ∷ left) go h = h n left
word_kept P (word64 n ∷ left) go h = tt

all_kept : {S : Type 0} (P : S → Type 0) (kinds : List ValueType) (operands : List Value)
    (go : List Value → List Value → Step S)
    → ((taken left : List Value) → Kept P (go taken left)) → Kept P (with_all kinds operands go)
all_kept P [] operands go h = h [] operands
all_kept P (kind ∷ kinds) [] go h = tt
all_kept P (kind ∷ kinds) (value ∷ operands) go h =
    if_kept P (is_same_type kind (type_of value)) (with_all kinds operands (λ taken left. go (value ∷ taken) left))
    fault
    (all_kept P kinds operands (λ taken left. go (value ∷ taken) left) (λ taken left. h (value ∷ taken) left)) tt

-- ---- ends of regions, and branches

return_kept : {S : Type 0} (P : S → Type 0) (out : List Value) (c : Configuration S) → P c.host →
    Kept P (return_with out c)
return_kept P [] c h = tt
return_kept P (value ∷ values) c h = h

hand_kept : {S : Type 0} (P : S → Type 0) (out : List Value) (around : List Region) (c : Configuration S) → P c.host →
    Kept P (hand_on out around c)
hand_kept P out [] c h = tt
hand_kept P out (region ∷ around) c h = h

close_kept : {S : Type 0} (P : S → Type 0) (kind : Kind) (out : List Value) (around : List Region)
    (c : Configuration S) → P c.host → Kept P (close kind out around c)
close_kept P body out around c h = return_kept P out c h
close_kept P inner out around c h = hand_kept P out around c h
close_kept P (turns whole) out around c h = hand_kept P out around c h

arrive_kept : {S : Type 0} (P : S → Type 0) (kind : Kind) (region : Region) (around : List Region)
    (operands : List Value) (c : Configuration S) → P c.host → Kept P (arrive kind region around operands c)
arrive_kept P (turns whole) region around operands c h = h
arrive_kept P inner region around operands c h =
    some_kept P (taken_result region.result operands) (λ out. close inner out around c)
    (λ out. close_kept P inner out around c h)
arrive_kept P body region around operands c h =
    some_kept P (taken_result region.result operands) (λ out. close body out around c)
    (λ out. close_kept P body out around c h)

branch_kept : {S : Type 0} (P : S → Type 0) (label : ℕ) (regions : List Region) (operands : List Value)
    (c : Configuration S) → P c.host → Kept P (branch label regions operands c)
branch_kept P label [] operands c h = tt
branch_kept P zero (region ∷ around) operands c h = arrive_kept P region.kind region around operands c h
branch_kept P (suc label) (region ∷ around) operands c h = branch_kept P label around operands c h

leave_kept : {S : Type 0} (P : S → Type 0) (regions : List Region) (operands : List Value) (c : Configuration S) →
    P c.host → Kept P (leave regions operands c)
leave_kept P [] operands c h = tt
leave_kept P (region ∷ []) operands c h = arrive_kept P region.kind region [] operands c h
leave_kept P (region ∷ other ∷ around) operands c h = leave_kept P (other ∷ around) operands c h

-- ---- calls, numbers and accesses

end_kept : {S : Type 0} (P : S → Type 0) (outcome : ℤ → List ℕ → Outcome) (arguments : List Value) (region : Region)
    (around : List Region) (operands : List Value) (c : Configuration S)
    → P c.host → Kept P (end_with outcome arguments region around operands c)
end_kept P outcome arguments region around operands c h =
    if_kept P (fits c.memory (third arguments) (second arguments)) _ _ h h

pass_kept : {S : Type 0} (P : S → Type 0) (id limit : ℕ) (region : Region) (around : List Region)
    (operands : List Value) (c : Configuration S) → P c.host → Kept P (pass id limit region around operands c)
pass_kept P id limit region around operands c h = if_kept P (nat_lt (c.guards id) limit) _ _ h h

call_kept : {S : Type 0} (P : S → Type 0) (world : World S) → CallsKeep P world.host →
    (callee : Callee) (arguments : List Value) (region : Region) (around : List Region) (operands : List Value)
    (c : Configuration S) → P c.host → Kept P (call world callee arguments region around operands c)
call_kept P world keep guard arguments region around operands c h =
    pass_kept P (second arguments) (first arguments) region around operands c h
call_kept P world keep accept arguments region around operands c h =
    end_kept P Accepted arguments region around operands c h
call_kept P world keep rollback arguments region around operands c h =
    end_kept P RolledBack arguments region around operands c h
call_kept P world keep (host_call row parameters) arguments region around operands c h = keep c.host row _ c.memory h

finish_kept : {S : Type 0} (P : S → Type 0) (result : Result ℕ Trap) (kind : ValueType) (region : Region)
    (around : List Region) (operands : List Value) (c : Configuration S)
    → P c.host → Kept P (finish result kind region around operands c)
finish_kept P (Ok n) kind region around operands c h = h
finish_kept P (Err cause) kind region around operands c h = h

load_kept : {S : Type 0} (P : S → Type 0) (opcode : ℕ) (found : Option ℕ) (region : Region) (around : List Region)
    (operands : List Value) (c : Configuration S)
    → P c.host → Kept P (load opcode found region around operands c)
load_kept P opcode None region around operands c h = h
load_kept P opcode (Some n) region around operands c h = h

store_kept : {S : Type 0} (P : S → Type 0) (opcode at n : ℕ) (region : Region) (around : List Region)
    (operands : List Value) (c : Configuration S)
    → P c.host → Kept P (store opcode at n region around operands c)
store_kept P opcode at n region around operands c h = if_kept P (fits c.memory at (store_width opcode)) _ _ h h

-- ---- a step

act_kept : {S : Type 0} (P : S → Type 0) (world : World S) → CallsKeep P world.host →
    (instruction : Op) (region : Region) (around : List Region) (operands : List Value) (c : Configuration S)
    → P c.host → Kept P (act world instruction region around operands c)
act_kept P world keep op.Unreachable region around operands c h = h
act_kept P world keep op.Nop region around operands c h = h
act_kept P world keep (op.Br label) region around operands c h = branch_kept P label (region ∷ around) operands c h
act_kept P world keep (op.BrIf label) region around operands c h =
    word_kept P operands _
    (λ condition left. if_kept P (condition == 0) _ _ h (branch_kept P label (region ∷ around) left c h))
act_kept P world keep (op.BrTable labels last) region around operands c h =
    word_kept P operands _ (λ index left. branch_kept P (label_at labels last index) (region ∷ around) left c h)
act_kept P world keep op.Return region around operands c h = leave_kept P (region ∷ around) operands c h
act_kept P world keep (op.Call function) region around operands c h =
    some_kept P (slice_get world.context.calls function) _ (λ callee.
    all_kept P (takes callee) operands _
    (λ arguments left. call_kept P world keep callee arguments region around left c h))
act_kept P world keep op.Drop region around operands c h = value_kept P operands _ (λ value left. h)
act_kept P world keep op.Select region around operands c h =
    word_kept P operands _ (λ condition left.
    value_kept P left _
    (λ b below. value_kept P below _ (λ a under. if_kept P (is_same_type (type_of b) (type_of a)) _ _ h tt)))
act_kept P world keep (op.LocalGet local) region around operands c h =
    some_kept P (slice_get c.locals local) _ (λ value. h)
act_kept P world keep (op.LocalSet local) region around operands c h =
    some_kept P (slice_get c.locals local) _
    (λ old. all_kept P (type_of old ∷ []) operands _ (λ taken left. value_kept P taken _ (λ value none. h)))
act_kept P world keep (op.LocalTee local) region around operands c h =
    some_kept P (slice_get c.locals local) _
    (λ old. all_kept P (type_of old ∷ []) operands _ (λ taken left. value_kept P taken _ (λ value none. h)))
act_kept P world keep (op.GlobalGet global) region around operands c h =
    some_kept P (slice_get c.globals global) _ (λ value. h)
act_kept P world keep (op.GlobalSet global) region around operands c h =
    some_kept P (slice_get c.globals global) _
    (λ old. all_kept P (type_of old ∷ []) operands _ (λ taken left. value_kept P taken _ (λ value none. h)))
act_kept P world keep (op.Load opcode align offset) region around operands c h =
    word_kept P operands _
    (λ address left. load_kept P opcode (loaded c.memory (address + offset) (load_width opcode)) region around left c h)
act_kept P world keep (op.Store opcode align offset) region around operands c h =
    all_kept P (store_type opcode ∷ I32 ∷ []) operands _
    (λ taken left. store_kept P opcode (second taken + offset) (first taken) region around left c h)
act_kept P world keep op.MemorySize region around operands c h = h
act_kept P world keep (op.I32Const n) region around operands c h = h
act_kept P world keep (op.I64Const n) region around operands c h = h
act_kept P world keep (op.Number opcode) region around operands c h =
    all_kept P (number_takes opcode) operands _
    (λ taken left. finish_kept P (numeric opcode taken) (number_gives opcode) region around left c h)
act_kept P world keep instruction region around operands c h = tt

node_kept : {S : Type 0} (P : S → Type 0) (world : World S) → CallsKeep P world.host →
    (code : Sequence) (region : Region) (around : List Region) (c : Configuration S)
    → P c.host → Kept P (node world code region around c)
node_kept P world keep done region around c h =
    some_kept P (whole_result region.result region.operands) _ (λ out. close_kept P region.kind out around c h)
node_kept P world keep (plain instruction rest) region around c h =
    act_kept P world keep instruction (record region { rest = rest }) around region.operands c h
node_kept P world keep (block result inside rest) region around c h = h
node_kept P world keep (loop result inside rest) region around c h = h
node_kept P world keep (if_then result inside rest) region around c h =
    word_kept P region.operands _ (λ condition left. if_kept P (condition == 0) _ _ h h)
node_kept P world keep (if_else result one other rest) region around c h =
    word_kept P region.operands _ (λ condition left. h)

innermost_kept : {S : Type 0} (P : S → Type 0) (world : World S) → CallsKeep P world.host →
    (regions : List Region) (c : Configuration S) → P c.host → Kept P (innermost world regions c)
innermost_kept P world keep [] c h = tt
innermost_kept P world keep (region ∷ around) c h = node_kept P world keep region.rest region around c h

ticked_kept : {S : Type 0} (P : S → Type 0) (count : ℕ) (s : Step S) → Kept P s → Kept P (ticked count s)
ticked_kept P count (next c) h = h
ticked_kept P count (ended outcome c) h = h
ticked_kept P count fault h = h

pub step_kept : {S : Type 0} (P : S → Type 0) (world : World S) → CallsKeep P world.host → (c : Configuration S) →
    P c.host → Kept P (step world c)
step_kept P world keep c h =
    ticked_kept P (suc c.count) (innermost world c.regions c) (innermost_kept P world keep c.regions c h)

-- ---- a run

end_of_step : {S : Type 0} (P : S → Type 0) (s : Step S) (go : Configuration S → Option (Ending S)) (e : Ending S) →
    ((later : Configuration S) → P later.host → go later ≡ Some e → P e.host)
    → Kept P s → or_on s go ≡ Some e → P e.host
end_of_step P (next c) go e later h k = later c h k
end_of_step P (ended outcome c) go e later h k =
    subst P
    (ap (λ (x : Ending _). x.host) (same_Some (record { outcome = outcome; count = c.count; host = c.host }) e k)) h
end_of_step P fault go e later h k = absurd (cc k)

pub run_for_keeps : {S : Type 0} (P : S → Type 0) (world : World S) → CallsKeep P world.host →
    (most : ℕ) (c : Configuration S) (e : Ending S) → P c.host → run_for world most c ≡ Some e → P e.host
unfolding run_for
run_for_keeps P world keep zero c e h k = absurd (cc k)
run_for_keeps P world keep (suc most) c e h k =
    end_of_step P (step world c) (λ later. run_for world most later) e
    (λ later q l. run_for_keeps P world keep most later e q l) (step_kept P world keep c h) k

-- what holds of the host's state before a run and is kept by each call holds after it
pub run_keeps : {S : Type 0} (P : S → Type 0) (meaning : HostMeaning S) → CallsKeep P meaning →
    (m : Module) (is_named : ModuleExport → Bool) (argument : ℕ) (before : S) (e : Ending S)
    → P before → run_of meaning m is_named argument before ≡ Some e → P e.host
unfolding run_of
run_keeps {S} P meaning keep m is_named argument before e h k =
    entered (entry_of (length (calls_of m.imports)) is_named m.exports) k
  where
    ran : (function : ℕ) (o : Option Sequence) →
        and_then o (λ code. run_body meaning m argument function code before) ≡ Some e → P e.host
    ran function None l = absurd (cc l)
    ran function (Some code) l =
        run_for_keeps P (world_at meaning m function) keep (bound_at 1 code)
        (start_at meaning m function code argument before) e h l

    entered : (o : Option ℕ) → and_then o (run_function meaning m argument before) ≡ Some e → P e.host
    entered None l = absurd (cc l)
    entered (Some function) l = ran function (body_of m function) l
