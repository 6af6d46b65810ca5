-- How a run begins (WebAssembly Core 1.0, "Execution", "Modules"; the argument is this project's own).
use Rattle.std.specs.Prelude.{ℕ, ℤ, ◌*◌, List, [], ◌∷◌, fold, map, replicate, slice_get}
use Rattle.std.specs.Int.{cast_unsigned, w32, w64}
use Rattle.wa_num.specs.Memory.{written}
use Rattle.wa_ops.specs.Contexts.{context_of, locals_of}
use Rattle.wa_ops.specs.HookRules.{address_of}
use Rattle.wa_ops.specs.Sequences.{Sequence}
use Rattle.wa_ops.specs.declared.modules.Limits.{Limits}
use Rattle.wa_ops.specs.declared.modules.Module.{Module}
use Rattle.wa_ops.specs.declared.modules.ModuleGlobal.{ModuleGlobal}
use Rattle.wa_ops.specs.declared.modules.Segment.{Segment}
use Rattle.wa_ops.specs.declared.op.Op.{Op}
use Rattle.wa_ops.specs.declared.op.Op.TheVariants as op
use Rattle.wa_ops.specs.declared.op.ValueType.{ValueType}
use Rattle.wa_machine.specs.Machine.{Value, word32, value_of, Configuration, World, HostMeaning, start}

-- what a host makes of calls
abbrev pub meaning_of : {S : Type 0} → (S → ℕ → List ℕ → List ℕ → ℤ) → (S → ℕ → List ℕ → List ℕ → List ℕ) →
    (S → ℕ → List ℕ → List ℕ → S) → HostMeaning S
meaning_of answer memory_after state_after = record {
  answer = answer;
  memory_after = memory_after;
  state_after = state_after;
}

-- a variable of this type before anything is put there
abbrev pub zero_of : ValueType → Value
zero_of kind = value_of kind 0

-- the argument, and a zero for each other local
abbrev pub start_locals : ℕ → List ValueType → List Value
start_locals argument kinds = word32 argument ∷ map zero_of kinds

-- the number of a constant, and of that with which an expression begins
abbrev pub constant_word : Op → ℕ
constant_word (op.I32Const n) = cast_unsigned w32 n
constant_word (op.I64Const n) = cast_unsigned w64 n
constant_word instruction = 0

abbrev pub first_word : List Op → ℕ
first_word [] = 0
first_word (instruction ∷ ops) = constant_word instruction

-- each global is its constant
abbrev pub global_value : ModuleGlobal → Value
global_value global = value_of global.kind (first_word global.init)

abbrev pub globals_at : List ModuleGlobal → List Value
globals_at globals = map global_value globals

-- the address with which a segment's expression begins
abbrev pub first_place : List Op → ℕ
first_place [] = 0
first_place (instruction ∷ ops) = address_of instruction

-- the segments are written in order
abbrev pub with_segments : List ℕ → List Segment → List ℕ
with_segments memory segments =
    fold (λ bytes segment. written bytes (first_place segment.offset) segment.bytes) memory segments

-- so many pages of zeros, with the segments written
abbrev pub first_memory : ℕ → List Segment → List ℕ
first_memory pages segments = with_segments (replicate (pages * 65536) 0) segments

-- how many pages the memory has; 0 where there is none
abbrev pub pages_of : List Limits → ℕ
pages_of [] = 0
pages_of (limits ∷ more) = limits.min

abbrev pub memory_at : Module → List ℕ
memory_at m = first_memory (pages_of m.memories) m.segments

abbrev pub locals_at : Module → ℕ → ℕ → List Value
locals_at m function argument = start_locals argument (locals_of (slice_get m.codes function))

-- what the code of a function may name, over this host
abbrev pub world_at : {S : Type 0} → HostMeaning S → Module → ℕ → World S
world_at meaning m function = record { context = context_of m function; host = meaning }

-- before the first step of a function with this body
abbrev pub start_at : {S : Type 0} → HostMeaning S → Module → ℕ → Sequence → ℕ → S → Configuration S
start_at meaning m function code argument before =
    start (world_at meaning m function) code (locals_at m function argument) (globals_at m.globals) (memory_at m) before
