-- The machine (WebAssembly Core 1.0, "Execution", "Instructions"), by cases on the first node of the innermost open
-- region.
-- The counting of turns, the guards, and the calls `_g`, `accept` and `rollback` are this project's own.
use Rattle.std.specs.Prelude.{ℕ, zero, suc, ℤ, ◌≡◌, ◌+◌, ◌-◌, ◌*◌, ◌/◌, ◌^◌, ◌||◌, List, [], ◌∷◌, ◌++◌, Option, Some}
use Rattle.std.specs.Prelude.{None, Result, Ok, Err, if◌then◌else◌, ◌==◌, nat_lt, length, take, drop, map, reverse}
use Rattle.std.specs.Prelude.{slice_get, slice_set}
use Rattle.std.specs.Int.{cast_signed, cast_unsigned, w32, w64}
use Rattle.hk_base.specs.declared.outcome.Outcome.{Outcome}
use Rattle.hk_base.specs.declared.outcome.Outcome.TheVariants.{Accepted, RolledBack, Returned, Trapped, GuardViolated}
use Rattle.hk_base.specs.declared.outcome.Trap.{Trap}
use Rattle.hk_base.specs.declared.outcome.Trap.TheVariants as trap
use Rattle.wa_num.specs.Integers.{binary, unary, comparison, zero_test, conversion}
use Rattle.wa_num.specs.Memory.{fits, loaded, cells, written}
use Rattle.wa_num.specs.Operators.{binary_at, unary_at, comparison_at, conversion_at}
use Rattle.wa_ops.specs.declared.op.Op.{Op}
use Rattle.wa_ops.specs.declared.op.Op.TheVariants as op
use Rattle.wa_ops.specs.declared.op.ValueType.{ValueType}
use Rattle.wa_ops.specs.declared.op.ValueType.TheVariants.{I32, I64}
use Rattle.wa_ops.specs.Accesses.{load_type, load_width, is_signed_load, store_type, store_width, number_takes}
use Rattle.wa_ops.specs.Accesses.{number_gives}
use Rattle.wa_ops.specs.Callees.{Callee, guard, accept, rollback, host_call, takes}
use Rattle.wa_ops.specs.Opcodes.{among, is_unary32, is_unary64}
use Rattle.wa_ops.specs.Sequences.{Sequence, done, plain, block, loop, if_then, if_else}
use Rattle.wa_ops.specs.Typing.{Context, is_same_type}

-- an operand with its type
pub data Value : Type 0 where
  word32 : ℕ → Value
  word64 : ℕ → Value

abbrev pub type_of : Value → ValueType
type_of (word32 n) = I32
type_of (word64 n) = I64

abbrev pub word_of : Value → ℕ
word_of (word32 n) = n
word_of (word64 n) = n

abbrev pub value_of : ValueType → ℕ → Value
value_of I64 n = word64 n
value_of kind n = word32 n

-- what a region is; a loop keeps its whole body
pub data Kind : Type 0 where
  body : Kind
  inner : Kind
  turns : Sequence → Kind

-- an open region: its operands, the last pushed first, and what is left of its sequence
pub record Region : Type 0 where
  pub kind : Kind
  pub result : Option ValueType
  pub operands : List Value
  pub rest : Sequence

-- The open regions, the innermost first; the variables and the memory; how often each guard's id was passed; the host's
-- state;
-- and how many turns were made.
pub record Configuration (S : Type 0) : Type 0 where
  pub regions : List Region
  pub locals : List Value
  pub globals : List Value
  pub memory : List ℕ
  pub guards : ℕ → ℕ
  pub host : S
  pub count : ℕ

pub data Step (S : Type 0) : Type 0 where
  next : Configuration S → Step S
  ended : Outcome → Configuration S → Step S
  fault : Step S

-- what the host makes of a call: the answer, the memory and the state after it
pub record HostMeaning (S : Type 0) : Type 0 where
  pub answer : S → ℕ → List ℕ → List ℕ → ℤ
  pub memory_after : S → ℕ → List ℕ → List ℕ → List ℕ
  pub state_after : S → ℕ → List ℕ → List ℕ → S

-- what stays the same in a run
pub record World (S : Type 0) : Type 0 where
  pub context : Context
  pub host : HostMeaning S

-- goes on with these operands in the innermost region
abbrev pub onward : {S : Type 0} → Region → List Region → List Value → Configuration S → Step S
onward region around operands c = next (record c { regions = record region { operands = operands } ∷ around })

abbrev pub with_some : {S A : Type 0} → Option A → (A → Step S) → Step S
with_some None go = fault
with_some (Some a) go = go a

abbrev pub with_value : {S : Type 0} → List Value → (Value → List Value → Step S) → Step S
with_value [] go = fault
with_value (value ∷ values) go = go value values

-- takes a number of 32 bits
abbrev pub with_word : {S : Type 0} → List Value → (ℕ → List Value → Step S) → Step S
with_word [] go = fault
with_word (word32 n ∷ values) go = go n values
with_word (word64 n ∷ values) go = fault

-- takes operands of these types, the last pushed first
abbrev pub with_all : {S : Type 0} → List ValueType → List Value → (List Value → List Value → Step S) → Step S
with_all [] values go = go [] values
with_all (kind ∷ kinds) [] go = fault
with_all (kind ∷ kinds) (value ∷ values) go =
    if is_same_type kind (type_of value) then with_all kinds values (λ taken left. go (value ∷ taken) left) else fault

-- a word at its place among those that a call or an operation took
abbrev pub first : List Value → ℕ
first [] = 0
first (value ∷ values) = word_of value

abbrev pub second : List Value → ℕ
second [] = 0
second (value ∷ values) = first values

abbrev pub third : List Value → ℕ
third [] = 0
third (value ∷ values) = second values

-- a text keeps its first 256 bytes
abbrev pub text_of : List ℕ → ℕ → ℕ → List ℕ
text_of memory from size = take 256 (take size (drop from memory))

-- `accept(from, size, code)` and `rollback(from, size, code)`: with a text outside the memory the answer is -1, and the
-- run goes on
abbrev pub end_with : {S : Type 0} → (ℤ → List ℕ → Outcome) → List Value → Region → List Region → List Value →
    Configuration S → Step S
end_with outcome arguments region around operands c =
    if fits c.memory (third arguments) (second arguments)
    then ended (outcome (cast_signed w64 (first arguments)) (text_of c.memory (third arguments) (second arguments))) c
    else onward region around (word64 (2 ^ 64 - 1) ∷ operands) c

abbrev pub counted : ℕ → (ℕ → ℕ) → ℕ → ℕ
counted id guards other = if other == id then suc (guards other) else guards other

-- `_g(id, limit)`: one pass more of the id, which ends the run above the limit
abbrev pub pass : {S : Type 0} → ℕ → ℕ → Region → List Region → List Value → Configuration S → Step S
pass id limit region around operands c =
    if nat_lt (c.guards id) limit
    then onward region around (word32 1 ∷ operands) (record c { guards = counted id c.guards })
    else ended (GuardViolated id limit) (record c { guards = counted id c.guards })

-- a call with these arguments, the last first
abbrev pub call : {S : Type 0} → World S → Callee → List Value → Region → List Region → List Value → Configuration S →
    Step S
call world guard arguments region around operands c = pass (second arguments) (first arguments) region around operands c
call world accept arguments region around operands c = end_with Accepted arguments region around operands c
call world rollback arguments region around operands c = end_with RolledBack arguments region around operands c
call world (host_call row parameters) arguments region around operands c =
    onward region around
    (word64 (cast_unsigned w64 (world.host.answer c.host row (map word_of (reverse arguments)) c.memory)) ∷ operands)
    (record c {
      memory = world.host.memory_after c.host row (map word_of (reverse arguments)) c.memory;
      host = world.host.state_after c.host row (map word_of (reverse arguments)) c.memory;
    })

-- a numeric instruction on these operands, the last first
abbrev pub numeric : ℕ → List Value → Result ℕ Trap
numeric n operands =
    if among 0x6A 0x78 n then binary w32 (binary_at n) (second operands) (first operands) else
    if among 0x7C 0x8A n then binary w64 (binary_at n) (second operands) (first operands) else
    if is_unary32 n then Ok (unary w32 (unary_at n) (first operands)) else
    if is_unary64 n then Ok (unary w64 (unary_at n) (first operands)) else
    if among 0x46 0x4F n then Ok (comparison w32 (comparison_at n) (second operands) (first operands)) else
    if among 0x51 0x5A n then Ok (comparison w64 (comparison_at n) (second operands) (first operands)) else
    if n == 0x45 || n == 0x50 then Ok (zero_test (first operands)) else
    Ok (conversion (conversion_at n) (first operands))

abbrev pub finish : {S : Type 0} → Result ℕ Trap → ValueType → Region → List Region → List Value → Configuration S →
    Step S
finish (Ok n) kind region around operands c = onward region around (value_of kind n ∷ operands) c
finish (Err cause) kind region around operands c = ended (Trapped cause) c

-- a number of so many bytes, read as signed, as one of this type
abbrev pub extended : ℕ → ValueType → ℕ → ℕ
extended width I64 n = if nat_lt n (2 ^ (8 * width - 1)) then n else n + (2 ^ 64 - 2 ^ (8 * width))
extended width kind n = if nat_lt n (2 ^ (8 * width - 1)) then n else n + (2 ^ 32 - 2 ^ (8 * width))

abbrev pub load : {S : Type 0} → ℕ → Option ℕ → Region → List Region → List Value → Configuration S → Step S
load opcode None region around operands c = ended (Trapped trap.Memory) c
load opcode (Some n) region around operands c =
    onward region around
    (value_of (load_type opcode)
    (if is_signed_load opcode then extended (load_width opcode) (load_type opcode) n else n) ∷ operands) c

abbrev pub store : {S : Type 0} → ℕ → ℕ → ℕ → Region → List Region → List Value → Configuration S → Step S
store opcode at n region around operands c =
    if fits c.memory at (store_width opcode)
    then onward region around operands (record c { memory = written c.memory at (cells (store_width opcode) n) })
    else ended (Trapped trap.Memory) c

-- these operands' front is the result, and of its type
abbrev pub taken_result : Option ValueType → List Value → Option (List Value)
taken_result None values = Some []
taken_result (Some kind) [] = None
taken_result (Some kind) (value ∷ values) = if is_same_type kind (type_of value) then Some (value ∷ []) else None

-- these operands are exactly the result
abbrev pub whole_result : Option ValueType → List Value → Option (List Value)
whole_result None [] = Some []
whole_result None (value ∷ values) = None
whole_result (Some kind) [] = None
whole_result (Some kind) (value ∷ []) = if is_same_type kind (type_of value) then Some (value ∷ []) else None
whole_result (Some kind) (value ∷ other ∷ values) = None

-- the function returns its one number
abbrev pub return_with : {S : Type 0} → List Value → Configuration S → Step S
return_with [] c = fault
return_with (value ∷ values) c = ended (Returned (cast_signed w64 (word_of value))) c

-- a region closes and hands its result to the one around it
abbrev pub hand_on : {S : Type 0} → List Value → List Region → Configuration S → Step S
hand_on out [] c = fault
hand_on out (region ∷ around) c =
    next (record c { regions = record region { operands = out ++ region.operands } ∷ around })

abbrev pub close : {S : Type 0} → Kind → List Value → List Region → Configuration S → Step S
close body out around c = return_with out c
close inner out around c = hand_on out around c
close (turns whole) out around c = hand_on out around c

-- at the region that a branch names, with the operands of the innermost
abbrev pub arrive : {S : Type 0} → Kind → Region → List Region → List Value → Configuration S → Step S
arrive (turns whole) region around operands c =
    next (record c { regions = record region { operands = []; rest = whole } ∷ around })
arrive inner region around operands c =
    with_some (taken_result region.result operands) (λ out. close inner out around c)
arrive body region around operands c = with_some (taken_result region.result operands) (λ out. close body out around c)

-- a branch: the regions inside the one that it names close
abbrev pub branch : {S : Type 0} → ℕ → List Region → List Value → Configuration S → Step S
branch label [] operands c = fault
branch zero (region ∷ around) operands c = arrive region.kind region around operands c
branch (suc label) (region ∷ around) operands c = branch label around operands c

-- a branch to the outermost region
abbrev pub leave : {S : Type 0} → List Region → List Value → Configuration S → Step S
leave [] operands c = fault
leave (region ∷ []) operands c = arrive region.kind region [] operands c
leave (region ∷ other ∷ around) operands c = leave (other ∷ around) operands c

-- the label that a table has at an index; past its end the last
abbrev pub label_at : List ℕ → ℕ → ℕ → ℕ
label_at [] last index = last
label_at (label ∷ labels) last zero = label
label_at (label ∷ labels) last (suc index) = label_at labels last index

-- puts a value of the same type
abbrev pub put_local : {S : Type 0} → ℕ → Value → Configuration S → Configuration S
put_local local value c = record c { locals = slice_set c.locals local value }

abbrev pub put_global : {S : Type 0} → ℕ → Value → Configuration S → Configuration S
put_global global value c = record c { globals = slice_set c.globals global value }

-- a plain instruction; the region's rest is what stands behind it
abbrev pub act : {S : Type 0} → World S → Op → Region → List Region → List Value → Configuration S → Step S
act world op.Unreachable region around operands c = ended (Trapped trap.Unreachable) c
act world op.Nop region around operands c = onward region around operands c
act world (op.Br label) region around operands c = branch label (region ∷ around) operands c
act world (op.BrIf label) region around operands c =
    with_word operands
    (λ condition left. if condition == 0 then onward region around left c else branch label (region ∷ around) left c)
act world (op.BrTable labels last) region around operands c =
    with_word operands (λ index left. branch (label_at labels last index) (region ∷ around) left c)
act world op.Return region around operands c = leave (region ∷ around) operands c
act world (op.Call function) region around operands c =
    with_some (slice_get world.context.calls function) (λ callee.
    with_all (takes callee) operands (λ arguments left. call world callee arguments region around left c))
act world op.Drop region around operands c = with_value operands (λ value left. onward region around left c)
act world op.Select region around operands c =
    with_word operands (λ condition left. with_value left (λ b below. with_value below (λ a under.
    if is_same_type (type_of b) (type_of a) then onward region around ((if condition == 0 then b else a) ∷ under) c
    else fault)))
act world (op.LocalGet local) region around operands c =
    with_some (slice_get c.locals local) (λ value. onward region around (value ∷ operands) c)
act world (op.LocalSet local) region around operands c =
    with_some (slice_get c.locals local) (λ old. with_all (type_of old ∷ []) operands (λ taken left.
    with_value taken (λ value none. onward region around left (put_local local value c))))
act world (op.LocalTee local) region around operands c =
    with_some (slice_get c.locals local) (λ old. with_all (type_of old ∷ []) operands (λ taken left.
    with_value taken (λ value none. onward region around (value ∷ left) (put_local local value c))))
act world (op.GlobalGet global) region around operands c =
    with_some (slice_get c.globals global) (λ value. onward region around (value ∷ operands) c)
act world (op.GlobalSet global) region around operands c =
    with_some (slice_get c.globals global) (λ old. with_all (type_of old ∷ []) operands (λ taken left.
    with_value taken (λ value none. onward region around left (put_global global value c))))
act world (op.Load opcode align offset) region around operands c =
    with_word operands
    (λ address left. load opcode (loaded c.memory (address + offset) (load_width opcode)) region around left c)
act world (op.Store opcode align offset) region around operands c =
    with_all (store_type opcode ∷ I32 ∷ []) operands (λ taken left.
    store opcode (second taken + offset) (first taken) region around left c)
act world op.MemorySize region around operands c = onward region around (word32 (length c.memory / 65536) ∷ operands) c
act world (op.I32Const n) region around operands c = onward region around (word32 (cast_unsigned w32 n) ∷ operands) c
act world (op.I64Const n) region around operands c = onward region around (word64 (cast_unsigned w64 n) ∷ operands) c
act world (op.Number opcode) region around operands c =
    with_all (number_takes opcode) operands
    (λ taken left. finish (numeric opcode taken) (number_gives opcode) region around left c)
act world instruction region around operands c = fault

-- opens a region behind which this one goes on
abbrev pub enter : {S : Type 0} → Kind → Option ValueType → Sequence → Region → List Region → List Value →
    Configuration S → Step S
enter kind result inside region around operands c =
    next (record c {
      regions =
          record { kind = kind; result = result; operands = []; rest = inside } ∷
          record region { operands = operands } ∷ around;
    })

-- the first node of the innermost region's rest
abbrev pub node : {S : Type 0} → World S → Sequence → Region → List Region → Configuration S → Step S
node world done region around c =
    with_some (whole_result region.result region.operands) (λ out. close region.kind out around c)
node world (plain instruction rest) region around c =
    act world instruction (record region { rest = rest }) around region.operands c
node world (block result inside rest) region around c =
    enter inner result inside (record region { rest = rest }) around region.operands c
node world (loop result inside rest) region around c =
    enter (turns inside) result inside (record region { rest = rest }) around region.operands c
node world (if_then result inside rest) region around c =
    with_word region.operands (λ condition left.
    if condition == 0 then onward (record region { rest = rest }) around left c
    else enter inner result inside (record region { rest = rest }) around left c)
node world (if_else result one other rest) region around c =
    with_word region.operands (λ condition left.
    enter inner result (if condition == 0 then other else one) (record region { rest = rest }) around left c)

abbrev pub innermost : {S : Type 0} → World S → List Region → Configuration S → Step S
innermost world [] c = fault
innermost world (region ∷ around) c = node world region.rest region around c

-- each step is one turn, and the one that ends the run is counted
abbrev pub ticked : {S : Type 0} → ℕ → Step S → Step S
ticked count (next c) = next (record c { count = count })
ticked count (ended outcome c) = ended outcome (record c { count = count })
ticked count fault = fault

abbrev pub step : {S : Type 0} → World S → Configuration S → Step S
step world c = ticked (suc c.count) (innermost world c.regions c)

-- before the first step
abbrev pub start : {S : Type 0} → World S → Sequence → List Value → List Value → List ℕ → S → Configuration S
start world code locals globals memory host =
    record {
      regions = record { kind = body; result = world.context.result; operands = []; rest = code } ∷ [];
      locals = locals;
      globals = globals;
      memory = memory;
      guards = λ id. 0;
      host = host;
      count = 0;
    }

abbrev pub EndsAfter : {S : Type 0} → Step S → ℕ → Outcome → Configuration S → (Configuration S → Type 0) → Type 0
EndsAfter (next c) more outcome last later = later c
EndsAfter (ended found c) more outcome last later = (more ≡ 0) × (found ≡ outcome) × (c ≡ last)
EndsAfter fault more outcome last later = ⊥

-- the n-th step from a configuration ends the run so, and all before it go on
abbrev pub Ends : {S : Type 0} → World S → ℕ → Configuration S → Outcome → Configuration S → Type 0
Ends world zero c outcome last = ⊥
Ends world (suc more) c outcome last =
    EndsAfter (step world c) more outcome last (λ later. Ends world more later outcome last)
