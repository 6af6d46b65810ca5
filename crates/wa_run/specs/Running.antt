-- A run of flat code under way, and what one turn makes of it, against one step of the machine.
use Rattle.std.specs.Prelude.{ℕ, ◌≡◌, ◌+◌, ◌≤◌, List, ◌∷◌, Option, Some, None, length, slice_get}
use Rattle.hk_base.specs.declared.outcome.Outcome.{Outcome}
use Rattle.hk_base.specs.declared.outcome.Outcome.TheVariants.{Accepted, RolledBack, Returned, Trapped, GuardViolated}
use Rattle.wa_ops.specs.declared.op.Op.{Op}
use Rattle.wa_ops.specs.declared.op.Op.TheVariants.{If, Else}
use Rattle.wa_ops.specs.declared.op.ValueType.{ValueType}
use Rattle.wa_machine.specs.Machine.{Value, Region, Configuration, World, Step, next, ended, fault, text_of, branch}
use Rattle.wa_machine.specs.Machine.{ticked, step}
use Rattle.wa_run.specs.Acts.{Holds, IsNoFault}
use Rattle.wa_run.specs.Flat.{AllMark, IsRooted}
use Rattle.wa_run.specs.Guards.{passes_of}
use Rattle.wa_run.specs.declared.running.Running.{Running}
use Rattle.wa_run.specs.declared.running.Stop.{Stop}
use Rattle.wa_run.specs.declared.running.Stop.TheVariants as stop

-- the run stands where this configuration does
pub record Is {S : Type 0} (ops : List Op) (ends : List ℕ) (c : Configuration S) (running : Running) : Type 0 where
  pub region : Region
  pub around : List Region
  pub regions : c.regions ≡ region ∷ around
  pub marks : AllMark ops ends (region ∷ around) running.at running.labels.items
  pub rooted : IsRooted (region ∷ around)
  pub holds : Holds around region.operands c.locals c.globals c.memory running.store
  pub guards : (id : ℕ) → c.guards id ≡ passes_of running.guards.items id

-- the outcome that a stop tells of, with its text in this memory
abbrev pub outcome_of : Stop → List ℕ → Outcome
outcome_of (stop.Accepted message) memory = Accepted message.code (text_of memory message.from message.size)
outcome_of (stop.RolledBack message) memory = RolledBack message.code (text_of memory message.from message.size)
outcome_of (stop.Returned code) memory = Returned code
outcome_of (stop.Trapped cause) memory = Trapped cause
outcome_of (stop.GuardViolated id limit) memory = GuardViolated id limit

-- the text that a stop tells of lies in this memory
abbrev pub IsHeld : Stop → List ℕ → Type 0
IsHeld (stop.Accepted message) memory = message.from + message.size ≤ length memory
IsHeld (stop.RolledBack message) memory = message.from + message.size ≤ length memory
IsHeld other memory = Unit {0}

-- a turn's answer and the run after it are those of a step, and so is the host
abbrev pub Follows : {S : Type 0} → List Op → List ℕ → Step S → Option Stop → Running → S → Type 0
Follows ops ends (next c) None running host = Is ops ends c running × (c.host ≡ host)
Follows ops ends (next c) (Some found) running host = ⊥
Follows ops ends (ended outcome c) None running host = ⊥
Follows ops ends (ended outcome c) (Some found) running host =
    (outcome ≡ outcome_of found running.store.memory) × (c.host ≡ host) × IsHeld found running.store.memory
Follows ops ends fault found running host = ⊥

-- in each configuration where the run stands before this instruction, with this entry of the table of ends, the turn is
-- the machine's step
abbrev pub Turns : (S : Type 0) → Op → ℕ → Running → Option Stop → Running → Type 0
Turns S instruction entry old found new =
    (world : World S) (c : Configuration S) (ops : List Op) (ends : List ℕ) → Is ops ends c old →
    slice_get ops old.at ≡ Some instruction → slice_get ends old.at ≡ Some entry → IsNoFault (step world c) →
    Follows ops ends (step world c) found new c.host

-- the machine meets no fault in some such configuration
pub record CanTurn (S : Type 0) (instruction : Op) (old : Running) : Type 0 where
  pub world : World S
  pub c : Configuration S
  pub ops : List Op
  pub ends : List ℕ
  pub is : Is ops ends c old
  pub here : slice_get ops old.at ≡ Some instruction
  pub sound : IsNoFault (step world c)

-- the regions and the store of a run at which a branch is made
pub record BeforeBranch {S : Type 0} (ops : List Op) (ends : List ℕ) (region : Region) (around : List Region)
    (operands : List Value) (c : Configuration S) (old : Running) : Type 0 where
  pub at : ℕ
  pub marks : AllMark ops ends (region ∷ around) at old.labels.items
  pub rooted : IsRooted (region ∷ around)
  pub holds : Holds around operands c.locals c.globals c.memory old.store
  pub guards : (id : ℕ) → c.guards id ≡ passes_of old.guards.items id

-- in each such configuration, the turn is the machine's branch
abbrev pub Branches : (S : Type 0) → ℕ → Running → Option Stop → Running → Type 0
Branches S label old found new =
    (count : ℕ) (c : Configuration S) (ops : List Op) (ends : List ℕ) (region : Region) (around : List Region)
    (operands : List Value) → BeforeBranch ops ends region around operands c old →
    IsNoFault (branch label (region ∷ around) operands c) →
    Follows ops ends (ticked count (branch label (region ∷ around) operands c)) found new c.host

-- the machine's branch meets no fault in some such configuration
pub record CanBranch (S : Type 0) (label : ℕ) (old : Running) : Type 0 where
  pub c : Configuration S
  pub ops : List Op
  pub ends : List ℕ
  pub region : Region
  pub around : List Region
  pub operands : List Value
  pub before : BeforeBranch ops ends region around operands c old
  pub sound : IsNoFault (branch label (region ∷ around) operands c)

-- the other arm of an `if` with this entry in the table of ends: where an `else` stands there, by the place of its
-- `end`
abbrev pub IsArm : List Op → List ℕ → ℕ → Option ℕ → Type 0
IsArm ops ends entry None = slice_get ops entry ≡ Some Else → ⊥
IsArm ops ends entry (Some last) = (slice_get ops entry ≡ Some Else) × (slice_get ends entry ≡ Some last)

-- in each configuration where the run stands before this `if`, the turn is the machine's step
abbrev pub Chooses : (S : Type 0) → Option ValueType → ℕ → Option ℕ → Running → Running → Type 0
Chooses S carried entry other old new =
    (world : World S) (c : Configuration S) (ops : List Op) (ends : List ℕ) → Is ops ends c old →
    slice_get ops old.at ≡ Some (If carried) → slice_get ends old.at ≡ Some entry → IsArm ops ends entry other →
    IsNoFault (step world c) → Follows ops ends (step world c) None new c.host

-- at most one item more on each stack, and no less room
pub record Widens (old new : Running) : Type 0 where
  pub words : length new.store.words.items ≤ length old.store.words.items + 1
  pub words_room : old.store.words.room ≤ new.store.words.room
  pub labels : length new.labels.items ≤ length old.labels.items + 1
  pub labels_room : old.labels.room ≤ new.labels.room
  pub guards : length new.guards.items ≤ length old.guards.items + 1
  pub guards_room : old.guards.room ≤ new.guards.room
