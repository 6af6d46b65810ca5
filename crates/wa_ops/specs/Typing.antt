-- Typing of code (WebAssembly Core 1.0, "Validation", "Instructions"), by recursion on the tree.
-- Indirect calls, growing memory and floats have no type here, since hook rules bar them.
use Rattle.std.specs.Prelude.{ℕ, ◌≡◌, ◌+◌, ◌^◌, ◌&&◌, nat_le, List, [], ◌∷◌, Option, Some, None, Bool, true, false}
use Rattle.std.specs.Prelude.{if◌then◌else◌, slice_get}
use Rattle.wa_ops.specs.declared.op.Op.{Op}
use Rattle.wa_ops.specs.declared.op.Op.TheVariants as op
use Rattle.wa_ops.specs.declared.op.ValueType.{ValueType}
use Rattle.wa_ops.specs.declared.op.ValueType.TheVariants.{I32, I64, F32, F64}
use Rattle.wa_ops.specs.Accesses.{load_type, load_width, store_type, store_width, number_takes, number_gives}
use Rattle.wa_ops.specs.Callees.{Callee, takes, gives}
use Rattle.wa_ops.specs.Opcodes.{is_load, is_store, is_number}
use Rattle.wa_ops.specs.Sequences.{Sequence, done, plain, block, loop, if_then, if_else, size}

pub record GlobalType : Type 0 where
  pub kind : ValueType
  pub is_mutable : Bool

-- what the code of a function may name, and its result
pub record Context : Type 0 where
  pub calls : List Callee
  pub locals : List ValueType
  pub globals : List GlobalType
  pub has_memory : Bool
  pub result : Option ValueType

-- an operand's type, or any type, behind code that is never reached
pub data Slot : Type 0 where
  known : ValueType → Slot
  any : Slot

-- the operands' types, the last pushed first; a loose stack has any operand that is asked of it below them
pub record Stack : Type 0 where
  pub slots : List Slot
  pub loose : Bool

-- at the beginning of a region
abbrev pub fresh : Stack
fresh = record { slots = []; loose = false }

-- behind an instruction that never goes on
abbrev pub loosened : Stack
loosened = record { slots = []; loose = true }

abbrev pub push : ValueType → Stack → Stack
push kind stack = record { slots = known kind ∷ stack.slots; loose = stack.loose }

abbrev pub is_same_type : ValueType → ValueType → Bool
is_same_type I32 I32 = true
is_same_type I64 I64 = true
is_same_type F32 F32 = true
is_same_type F64 F64 = true
is_same_type a b = false

abbrev pub is_of : ValueType → Slot → Bool
is_of kind (known other) = is_same_type kind other
is_of kind any = true

abbrev pub popped : ValueType → List Slot → Bool → Option Stack
popped kind [] true = Some loosened
popped kind [] false = None
popped kind (slot ∷ slots) loose = if is_of kind slot then Some (record { slots = slots; loose = loose }) else None

-- without an operand of this type
abbrev pub pop : ValueType → Stack → Option Stack
pop kind stack = popped kind stack.slots stack.loose

abbrev pub dropped : List Slot → Bool → Option Stack
dropped [] true = Some loosened
dropped [] false = None
dropped (slot ∷ slots) loose = Some (record { slots = slots; loose = loose })

-- of two operands of one type, one
abbrev pub one_of : Slot → Slot → Option Slot
one_of any slot = Some slot
one_of (known kind) any = Some (known kind)
one_of (known kind) (known other) = if is_same_type kind other then Some (known kind) else None

abbrev pub and_then : {A B : Type 0} → Option A → (A → Option B) → Option B
and_then None next = None
and_then (Some a) next = next a

abbrev pub selected : List Slot → Bool → Option Stack
selected [] true = Some (record { slots = any ∷ []; loose = true })
selected [] false = None
selected (slot ∷ []) true = Some (record { slots = slot ∷ []; loose = true })
selected (slot ∷ []) false = None
selected (slot ∷ other ∷ slots) loose =
    and_then (one_of slot other) (λ left. Some (record { slots = left ∷ slots; loose = loose }))

-- without operands of these types, the last pushed first
abbrev pub pop_all : List ValueType → Stack → Option Stack
pop_all [] stack = Some stack
pop_all (kind ∷ kinds) stack = and_then (pop kind stack) (pop_all kinds)

abbrev pub pop_result : Option ValueType → Stack → Option Stack
pop_result None stack = Some stack
pop_result (Some kind) stack = pop kind stack

abbrev pub push_result : Option ValueType → Stack → Stack
push_result None stack = stack
push_result (Some kind) stack = push kind stack

-- takes these, and gives that
abbrev pub changed : List ValueType → ValueType → Stack → Option Stack
changed kinds given stack = and_then (pop_all kinds stack) (λ below. Some (push given below))

abbrev pub is_same_result : Option ValueType → Option ValueType → Bool
is_same_result None None = true
is_same_result (Some a) (Some b) = is_same_type a b
is_same_result a b = false

abbrev pub carries : Option ValueType → Option (Option ValueType) → Bool
carries result None = false
carries result (Some other) = is_same_result result other

-- each of these labels is there and carries this result
abbrev pub all_carry : List (Option ValueType) → Option ValueType → List ℕ → Bool
all_carry labels result [] = true
all_carry labels result (label ∷ more) = carries result (slice_get labels label) && all_carry labels result more

-- leaves with this result, and never goes on
abbrev pub left_with : Option ValueType → Stack → Option Stack
left_with result stack = and_then (pop_result result stack) (λ below. Some loosened)

abbrev pub stored : Context → GlobalType → Stack → Option Stack
stored context global stack = if global.is_mutable then pop global.kind stack else None

-- the stack after a plain instruction, where it is well typed; the labels of the open regions carry these, the
-- innermost first
abbrev pub effect : Context → List (Option ValueType) → Op → Stack → Option Stack
effect context labels op.Unreachable stack = Some loosened
effect context labels op.Nop stack = Some stack
effect context labels (op.Br label) stack = and_then (slice_get labels label) (λ result. left_with result stack)
effect context labels (op.BrIf label) stack =
    and_then (pop I32 stack) (λ below. and_then (slice_get labels label) (λ result.
    and_then (pop_result result below) (λ left. Some (push_result result left))))
effect context labels (op.BrTable listed last) stack =
    and_then (pop I32 stack) (λ below. and_then (slice_get labels last) (λ result.
    if all_carry labels result listed then left_with result below else None))
effect context labels op.Return stack = left_with context.result stack
effect context labels (op.Call function) stack =
    and_then (slice_get context.calls function) (λ callee. changed (takes callee) (gives callee) stack)
effect context labels op.Drop stack = dropped stack.slots stack.loose
effect context labels op.Select stack = and_then (pop I32 stack) (λ below. selected below.slots below.loose)
effect context labels (op.LocalGet local) stack =
    and_then (slice_get context.locals local) (λ kind. Some (push kind stack))
effect context labels (op.LocalSet local) stack = and_then (slice_get context.locals local) (λ kind. pop kind stack)
effect context labels (op.LocalTee local) stack =
    and_then (slice_get context.locals local) (λ kind. changed (kind ∷ []) kind stack)
effect context labels (op.GlobalGet global) stack =
    and_then (slice_get context.globals global) (λ found. Some (push found.kind stack))
effect context labels (op.GlobalSet global) stack =
    and_then (slice_get context.globals global) (λ found. stored context found stack)
effect context labels (op.Load opcode align offset) stack =
    if context.has_memory && (is_load opcode && nat_le (2 ^ align) (load_width opcode))
    then changed (I32 ∷ []) (load_type opcode) stack else None
effect context labels (op.Store opcode align offset) stack =
    if context.has_memory && (is_store opcode && nat_le (2 ^ align) (store_width opcode))
    then pop_all (store_type opcode ∷ I32 ∷ []) stack else None
effect context labels op.MemorySize stack = if context.has_memory then Some (push I32 stack) else None
effect context labels (op.I32Const n) stack = Some (push I32 stack)
effect context labels (op.I64Const n) stack = Some (push I64 stack)
effect context labels (op.Number opcode) stack =
    if is_number opcode then changed (number_takes opcode) (number_gives opcode) stack else None
effect context labels instruction stack = None

-- the stack that code leaves, or the place of the first failure
pub data Typing : Type 0 where
  leaves : Stack → Typing
  fails : ℕ → Typing

abbrev pub go_on : ℕ → Option Stack → (Stack → Typing) → Typing
go_on place None next = fails place
go_on place (Some stack) next = next stack

abbrev pub no_slots : List Slot → Bool
no_slots [] = true
no_slots (slot ∷ slots) = false

abbrev pub is_empty : Option Stack → Bool
is_empty None = false
is_empty (Some stack) = no_slots stack.slots

-- goes on where a region that ends at this place leaves its result and no more; a loose stack may lack it
abbrev pub after_region : Option ValueType → ℕ → Typing → Typing → Typing
after_region result place (fails failure) next = fails failure
after_region result place (leaves stack) next = if is_empty (pop_result result stack) then next else fails place

-- an `if` with a result has an `else`
abbrev pub no_result : Option ValueType → ℕ → Typing → Typing
no_result None place next = next
no_result (Some kind) place next = fails place

-- the typing of code that begins at this place, with this stack
abbrev pub types : Context → List (Option ValueType) → Sequence → ℕ → Stack → Typing
types context labels done place stack = leaves stack
types context labels (plain instruction rest) place stack =
    go_on place (effect context labels instruction stack) (types context labels rest (place + 1))
types context labels (block result body rest) place stack =
    after_region result (place + 1 + size body) (types context (result ∷ labels) body (place + 1) fresh)
    (types context labels rest (place + 2 + size body) (push_result result stack))
types context labels (loop result body rest) place stack =
    after_region result (place + 1 + size body) (types context (None ∷ labels) body (place + 1) fresh)
    (types context labels rest (place + 2 + size body) (push_result result stack))
types context labels (if_then result body rest) place stack =
    go_on place (pop I32 stack) (λ below.
    after_region result (place + 1 + size body) (types context (result ∷ labels) body (place + 1) fresh)
    (no_result result (place + 1 + size body) (types context labels rest (place + 2 + size body) below)))
types context labels (if_else result first second rest) place stack =
    go_on place (pop I32 stack) (λ below.
    after_region result (place + 1 + size first) (types context (result ∷ labels) first (place + 1) fresh)
    (after_region result (place + 2 + size first + size second)
    (types context (result ∷ labels) second (place + 2 + size first) fresh)
    (types context labels rest (place + 3 + size first + size second) (push_result result below))))

-- code that leaves exactly this result
abbrev pub Leaves : Option ValueType → Typing → Type 0
Leaves result (leaves stack) = is_empty (pop_result result stack) ≡ true
Leaves result (fails place) = ⊥

-- the body of a function is well typed
abbrev pub IsTyped : Context → Sequence → Type 0
IsTyped context body = Leaves context.result (types context (context.result ∷ []) body 0 fresh)
