-- What each configuration of a run keeps.
use Rattle.std.proofs.Common.{◌≡◌, ◌+◌, ◌<◌, ◌≤◌, ◌⊎◌, ◌++◌, ℕ, ℤ, List, [], ◌∷◌, Option, Some, None, slice_get, false}
use Rattle.std.specs.Int.{cast_unsigned, w32}
use Rattle.wa_ops.specs.declared.op.Op.TheVariants.{I32Const, Call}
use Rattle.wa_ops.specs.declared.op.ValueType.{ValueType}
use Rattle.wa_ops.specs.declared.op.ValueType.TheVariants.{I64}
use Rattle.wa_ops.specs.Bound.{LoopCost, own, loops, loop_cost, last_pass, HasGuard, IsGuarded}
use Rattle.wa_ops.specs.Callees.{Callee, guard}
use Rattle.wa_ops.specs.Sequences.{Sequence, plain}
use Rattle.wa_ops.specs.Typing.{Context, Slot, known, fresh, types, Leaves}
use Rattle.wa_machine.specs.Machine.{Value, word32, Kind, body, inner, turns, Region, Configuration, World, Step, next}
use Rattle.wa_machine.specs.Machine.{ended, fault}
use Rattle.wa_machine.specs.Law.{types_of, kinds_of}
use Rattle.wa_machine.proofs.Typed.{slots}
use Rattle.wa_machine.proofs.Budget.{left, Among, Within}

-- loops are guarded, and are among those that the budget counts
pub record Fine (context : Context) (all : List LoopCost) (code : Sequence) : Type 0 where
  pub guarded : IsGuarded context.calls code
  pub within : Within all (loops 1 code)

-- what a branch to a region carries
abbrev pub carried : Kind → Option ValueType → Option ValueType
carried body result = result
carried inner result = result
carried (turns whole) result = None

abbrev pub labels_of : List Region → List (Option ValueType)
labels_of [] = []
labels_of (region ∷ regions) = carried region.kind region.result ∷ labels_of regions

abbrev pub slots_of : Option ValueType → List Slot
slots_of None = []
slots_of (Some kind) = known kind ∷ []

-- a loop whose body may be begun again
pub record SoundLoop (context : Context) (all : List LoopCost) (labels : List (Option ValueType))
    (result : Option ValueType) (whole : Sequence) : Type 0 where
  pub guarded : HasGuard context.calls whole
  pub place : ℕ
  pub typed : Leaves result (types context labels whole place fresh)
  pub fine : Fine context all whole
  pub among : Among all (loop_cost 1 whole)

abbrev pub SoundKind : Context → List LoopCost → List (Option ValueType) → Option ValueType → Kind → Type 0
SoundKind context all labels result body = result ≡ context.result
SoundKind context all labels result inner = Unit {0}
SoundKind context all labels result (turns whole) = SoundLoop context all labels result whole

-- the rest of a region is well typed, with these handed to it
pub record Sound (context : Context) (all : List LoopCost) (labels : List (Option ValueType)) (handed : List Slot)
    (region : Region) : Type 0 where
  pub place : ℕ
  pub typed : Leaves region.result
      (types context labels region.rest place (record { slots = handed ++ slots region.operands; loose = false }))
  pub fine : Fine context all region.rest
  pub kind : SoundKind context all labels region.result region.kind

-- the body is outermost
abbrev pub Around : Kind → List Region → Type 0 → Type 0
Around body regions P = regions ≡ []
Around inner regions P = P
Around (turns whole) regions P = P

abbrev pub AllSound : Context → List LoopCost → List Region → List Slot → Type 0
AllSound context all [] handed = ⊥
AllSound context all (region ∷ around) handed =
    Sound context all (labels_of (region ∷ around)) handed region
    × Around region.kind around (AllSound context all around (slots_of region.result))

abbrev pub weight : List Region → ℕ
weight [] = 0
weight (region ∷ around) = own 1 region.rest + weight around

-- a loop before its guard has counted, and how many steps that takes
pub data IsHead (calls : List Callee) : Kind → Sequence → List Value → ℕ → Type 0 where
  at_first : {id limit : ℤ} {function : ℕ} {rest : Sequence} → slice_get calls function ≡ Some guard →
      IsHead calls (turns (plain (I32Const id) (plain (I32Const limit) (plain (Call function) rest))))
      (plain (I32Const id) (plain (I32Const limit) (plain (Call function) rest))) [] 3
  at_second : {id limit : ℤ} {function : ℕ} {rest : Sequence} → slice_get calls function ≡ Some guard →
      IsHead calls (turns (plain (I32Const id) (plain (I32Const limit) (plain (Call function) rest))))
      (plain (I32Const limit) (plain (Call function) rest)) (word32 (cast_unsigned w32 id) ∷ []) 2
  at_third : {id limit : ℤ} {function : ℕ} {rest : Sequence} → slice_get calls function ≡ Some guard →
      IsHead calls (turns (plain (I32Const id) (plain (I32Const limit) (plain (Call function) rest))))
      (plain (Call function) rest) (word32 (cast_unsigned w32 limit) ∷ word32 (cast_unsigned w32 id) ∷ []) 1

abbrev pub HeadNeeds : Context → List LoopCost → List Region → (ℕ → ℕ) → ℕ → Type 0
HeadNeeds context all [] guards n = ⊥
HeadNeeds context all (region ∷ around) guards n =
    (j : ℕ) × IsHead context.calls region.kind region.rest region.operands j
    × (left all guards + (weight around + j) ≤ n)

-- so many steps are enough
abbrev pub Needs : Context → List LoopCost → List Region → (ℕ → ℕ) → ℕ → Type 0
Needs context all regions guards n =
    (left all guards + (last_pass all + weight regions) ≤ n) ⊎ HeadNeeds context all regions guards n

pub record Sane {S : Type 0} (world : World S) (all : List LoopCost) (c : Configuration S) : Type 0 where
  pub regions : AllSound world.context all c.regions []
  pub locals : types_of c.locals ≡ world.context.locals
  pub globals : types_of c.globals ≡ kinds_of world.context.globals
  pub returns : world.context.result ≡ Some I64

-- what a step from a configuration of this need gives
abbrev pub GoodStep : {S : Type 0} → World S → List LoopCost → ℕ → Step S → Type 0
GoodStep world all m (next c) = Sane world all c × ((n : ℕ) × Needs world.context all c.regions c.guards n × (n < m))
GoodStep world all m (ended outcome c) = 0 < m
GoodStep world all m fault = ⊥
