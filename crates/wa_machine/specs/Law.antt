-- The promise of the bound, over the definitions alone (this project's own).
use Rattle.std.specs.Prelude.{ℕ, ◌≡◌, ◌≤◌, List, [], ◌∷◌, Some}
use Rattle.hk_base.specs.declared.outcome.Outcome.{Outcome}
use Rattle.wa_ops.specs.declared.op.ValueType.{ValueType}
use Rattle.wa_ops.specs.declared.op.ValueType.TheVariants.{I64}
use Rattle.wa_ops.specs.Bound.{bound_at, IsGuarded}
use Rattle.wa_ops.specs.Sequences.{Sequence}
use Rattle.wa_ops.specs.Typing.{GlobalType, IsTyped}
use Rattle.wa_machine.specs.Machine.{Value, type_of, Configuration, World, start, Ends}

abbrev pub types_of : List Value → List ValueType
types_of [] = []
types_of (value ∷ values) = type_of value ∷ types_of values

abbrev pub kinds_of : List GlobalType → List ValueType
kinds_of [] = []
kinds_of (global ∷ globals) = global.kind ∷ kinds_of globals

-- a run ends at a step within this number, and no step before is a fault
pub record EndsWithin {S : Type 0} (world : World S) (most : ℕ) (c : Configuration S) : Type 0 where
  pub steps : ℕ
  pub outcome : Outcome
  pub last : Configuration S
  pub within : steps ≤ most
  pub ends : Ends world steps c outcome last

-- for every host: each run of typed and guarded code ends within the bound of version 1, and so within that of version
-- 0, which is no less
abbrev pub WithinBound : Type 0 → Type 0
WithinBound S = (world : World S) (code : Sequence) (locals globals : List Value) (memory : List ℕ) (host : S) →
    types_of locals ≡ world.context.locals → types_of globals ≡ kinds_of world.context.globals →
    world.context.result ≡ Some I64 →
    IsTyped world.context code → IsGuarded world.context.calls code →
    EndsWithin world (bound_at 1 code) (start world code locals globals memory host)
