-- What a run begins with, and what its ending is.
use Rattle.std.specs.Prelude.{ℕ, ◌≡◌, ◌^◌, ◌<◌, ◌≤◌, List, [], ◌∷◌, Some, true, length, map, replicate}
use Rattle.std.specs.Int.{cast_unsigned, w32, w64}
use Rattle.wa_ops.specs.Contexts.{callees}
use Rattle.wa_ops.specs.declared.modules.ModuleGlobal.{ModuleGlobal}
use Rattle.wa_ops.specs.declared.op.Op.TheVariants as op
use Rattle.hk_base.specs.declared.outcome.Outcome.{Outcome}
use Rattle.wa_ops.specs.Bound.{bound_at, IsGuarded}
use Rattle.wa_ops.specs.Ends.{ends_of}
use Rattle.wa_ops.specs.Sequences.{Sequence, Reads}
use Rattle.wa_ops.specs.Soundness.{Each, IsSoundOp}
use Rattle.wa_ops.specs.Typing.{Context, IsTyped}
use Rattle.wa_ops.specs.declared.call_no.CallNo.{CallNo}
use Rattle.wa_ops.specs.declared.op.Op.{Op}
use Rattle.wa_ops.specs.declared.op.ValueType.TheVariants.{I64}
use Rattle.wa_validate.specs.Depths.{body_depth}
use Rattle.wa_machine.specs.Law.{types_of, kinds_of}
use Rattle.wa_machine.specs.Machine.{Value, Configuration, World, HostMeaning, start, Ends}
use Rattle.wa_machine.specs.Starts.{first_word}
use Rattle.wa_run.specs.Calls.{AreRows}
use Rattle.wa_run.specs.Flat.{words_of, AllValues}
use Rattle.wa_run.specs.Guards.{first_counter}
use Rattle.wa_run.specs.declared.label.Label.{Label}
use Rattle.wa_run.specs.declared.label.Place.TheVariants as place
use Rattle.wa_run.specs.declared.running.Running.{Running}

-- a run that hasn't begun: its variables as words, its memory, and how many words, labels and counters of guards there
-- is room for
pub record Ready : Type 0 where
  pub locals : List ℕ
  pub globals : List ℕ
  pub memory : List ℕ
  pub words_room : ℕ
  pub labels_room : ℕ
  pub guards_room : ℕ

-- a function with what it may name, and the values that its variables begin with
pub record Function : Type 0 where
  pub context : Context
  pub code : Sequence
  pub locals : List Value
  pub globals : List Value

-- the function's flat code, table of ends and rows of calls, which is typed and guarded, with room for its depth and
-- for the passes of guards within its bound
pub record CanRun (f : Function) (ops : List Op) (ends : List ℕ) (calls : List CallNo) (ready : Ready) : Type 0 where
  pub reads : Reads ops f.code
  pub counted : length ops < 2 ^ 32
  pub sound : Each IsSoundOp ops
  pub ends_are : ends ≡ ends_of f.code 0 (0 ∷ [])
  pub calls_are : f.context.calls ≡ callees calls
  pub rows : AreRows calls
  pub result : f.context.result ≡ Some I64
  pub locals_typed : types_of f.locals ≡ f.context.locals
  pub locals_are : ready.locals ≡ words_of f.locals
  pub locals_fit : AllValues f.locals
  pub globals_typed : types_of f.globals ≡ kinds_of f.context.globals
  pub globals_are : ready.globals ≡ words_of f.globals
  pub globals_fit : AllValues f.globals
  pub typed : IsTyped f.context f.code
  pub guarded : IsGuarded f.context.calls f.code
  pub countable : bound_at 1 f.code < 2 ^ 64
  pub words_room : (body_depth f.context f.code).operands < ready.words_room
  pub labels_room : (body_depth f.context f.code).labels < ready.labels_room
  pub guards_room : bound_at 1 f.code < ready.guards_room

abbrev pub world_of : {S : Type 0} → HostMeaning S → Function → World S
world_of meaning f = record { context = f.context; host = meaning }

-- the machine before its first step
abbrev pub first_of : {S : Type 0} → HostMeaning S → Function → Ready → S → Configuration S
first_of meaning f ready host = start (world_of meaning f) f.code f.locals f.globals ready.memory host

-- the machine's run ends at this step and so, within the bound, and leaves the host in this state
pub record EndsSo {S : Type 0} (meaning : HostMeaning S) (f : Function) (ready : Ready) (before : S) (count : ℕ)
    (outcome : Outcome) (after : S) : Type 0 where
  pub last : Configuration S
  pub ends_so : Ends (world_of meaning f) count (first_of meaning f ready before) outcome last
  pub host : last.host ≡ after
  pub within : count ≤ bound_at 1 f.code

-- the label of a function's body
abbrev pub body_label : Label
body_label = record { place = place.Body; last = 0; height = 0; carries = true }

-- nothing was done yet
pub record IsFresh (running : Running) : Type 0 where
  pub at : running.at ≡ 0
  pub words : running.store.words.items ≡ []
  pub labels : running.labels.items ≡ body_label ∷ []
  pub guards : running.guards.items ≡ first_counter ∷ []
  pub memory : length running.store.memory ≤ 1048576

-- ---- the words that variables begin with

-- the argument, and a zero for each other local
abbrev pub first_locals : ℕ → ℕ → List ℕ
first_locals argument count = argument ∷ replicate count 0

-- each global's constant
abbrev pub first_globals : List ModuleGlobal → List ℕ
first_globals globals = map (λ global. first_word global.init) globals

-- the constant that an expression begins with is of its width
abbrev pub HasWidth : List Op → Type 0
HasWidth (op.I32Const n ∷ ops) = cast_unsigned w32 n < 2 ^ 32
HasWidth (op.I64Const n ∷ ops) = cast_unsigned w64 n < 2 ^ 64
HasWidth ops = Unit {0}
