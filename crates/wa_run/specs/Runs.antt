-- Turns up to the one that stops the run, against the machine's run.
use Rattle.std.specs.Prelude.{ℕ, ◌≡◌, ◌+◌, ◌^◌, ◌<◌, ◌≤◌, List, length}
use Rattle.hk_base.specs.declared.outcome.Outcome.{Outcome}
use Rattle.wa_ops.specs.declared.call_no.CallNo.{CallNo}
use Rattle.wa_ops.specs.declared.op.Op.{Op}
use Rattle.wa_validate.specs.declared.depth.Depth.{Depth}
use Rattle.wa_machine.specs.Machine.{Configuration, World, HostMeaning, Ends}
use Rattle.wa_run.specs.Calls.{IsIn}
use Rattle.wa_run.specs.Depths.{StaysWithin}
use Rattle.wa_run.specs.Running.{Is, outcome_of}
use Rattle.wa_run.specs.declared.running.Running.{Running}
use Rattle.wa_run.specs.declared.runs.Stopped.{Stopped}

-- a configuration where the run stands, from which the machine's run ends while there is room
pub record CanEnd {S : Type 0} (meaning : HostMeaning S) (ops : List Op) (ends : List ℕ) (calls : List CallNo)
    (old : Running) (before : S) : Type 0 where
  pub world : World S
  pub c : Configuration S
  pub steps : ℕ
  pub outcome : Outcome
  pub last : Configuration S
  pub is_in : IsIn meaning calls world
  pub host_is : c.host ≡ before
  pub is : Is ops ends c old
  pub ends_so : Ends world steps c outcome last
  pub countable : steps < 2 ^ 64
  pub most : Depth
  pub stays : StaysWithin world most c
  pub words_room : most.operands < old.store.words.room
  pub labels_room : most.labels < old.labels.room
  pub guards_room : length old.guards.items + steps ≤ old.guards.room

-- the turns stopped where the machine's run ends, and as it does
pub record StopsAs {S : Type 0} (steps : ℕ) (outcome : Outcome) (last : Configuration S) (stopped : Stopped)
    (new : Running) (after : S) : Type 0 where
  pub count : stopped.count ≡ steps
  pub outcome_is : outcome ≡ outcome_of stopped.stop new.store.memory
  pub host : last.host ≡ after

-- from each configuration where the run stands, over a host of this state
abbrev pub Stops : {S : Type 0} → HostMeaning S → List Op → List ℕ → List CallNo → Running → S → Stopped → Running → S →
    Type 0
Stops {S} meaning ops ends calls old before stopped new after =
    (world : World S) (c : Configuration S) (steps : ℕ) (outcome : Outcome) (last : Configuration S) →
    IsIn meaning calls world → c.host ≡ before → Is ops ends c old → Ends world steps c outcome last →
    StopsAs steps outcome last stopped new after
