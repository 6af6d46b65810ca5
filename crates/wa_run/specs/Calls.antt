-- Calls of imports in flat code, against one step of the machine.
use Rattle.std.specs.Prelude.{ℕ, ◌≡◌, ◌≤◌, Bool, true, false, List, [], ◌∷◌, Option, Some, None, slice_get}
use Rattle.wa_ops.specs.Callees.{Callee, accept, rollback}
use Rattle.wa_ops.specs.Contexts.{callees}
use Rattle.wa_ops.specs.declared.call_no.CallNo.{CallNo}
use Rattle.wa_ops.specs.declared.op.Op.{Op}
use Rattle.wa_ops.specs.declared.op.Op.TheVariants.{Call}
use Rattle.wa_machine.specs.Machine.{Configuration, World, HostMeaning, step}
use Rattle.wa_run.specs.Acts.{IsNoFault}
use Rattle.wa_run.specs.Running.{Is, Follows}
use Rattle.wa_run.specs.declared.running.Running.{Running}
use Rattle.wa_run.specs.declared.running.Stop.{Stop}

-- each row is one of the table of calls
abbrev pub AreRows : List CallNo → Type 0
AreRows [] = Unit {0}
AreRows (number ∷ numbers) = (number.0 ≤ 64) × AreRows numbers

-- `accept` or `rollback`
abbrev pub ending_of : Bool → Callee
ending_of true = accept
ending_of false = rollback

-- a configuration where the run stands before a call of this function, and the machine meets no fault
pub record CanCall (S : Type 0) (callee : Callee) (function : ℕ) (old : Running) : Type 0 where
  pub world : World S
  pub c : Configuration S
  pub ops : List Op
  pub ends : List ℕ
  pub is : Is ops ends c old
  pub here : slice_get ops old.at ≡ Some (Call function)
  pub calls : slice_get world.context.calls function ≡ Some callee
  pub sound : IsNoFault (step world c)

-- in each such configuration the turn is the machine's step
abbrev pub CallsIt : (S : Type 0) → Callee → ℕ → Running → Option Stop → Running → Type 0
CallsIt S callee function old found new =
    (world : World S) (c : Configuration S) (ops : List Op) (ends : List ℕ) → Is ops ends c old →
    slice_get ops old.at ≡ Some (Call function) → slice_get world.context.calls function ≡ Some callee →
    IsNoFault (step world c) → Follows ops ends (step world c) found new c.host

-- in each such configuration over a host of this meaning and state, the turn is the machine's step, and the host's
-- state is that after it
abbrev pub Asks : (S : Type 0) → HostMeaning S → Callee → ℕ → Running → S → Running → S → Type 0
Asks S meaning callee function old before new after =
    (world : World S) (c : Configuration S) (ops : List Op) (ends : List ℕ) → world.host ≡ meaning → c.host ≡ before →
    Is ops ends c old →
    slice_get ops old.at ≡ Some (Call function) → slice_get world.context.calls function ≡ Some callee →
    IsNoFault (step world c) → Follows ops ends (step world c) None new after

-- what stays the same in a run over a host of this meaning, in which code calls functions by these rows
pub record IsIn {S : Type 0} (meaning : HostMeaning S) (calls : List CallNo) (world : World S) : Type 0 where
  pub host_is : world.host ≡ meaning
  pub calls_are : world.context.calls ≡ callees calls

-- the machine meets no fault in some configuration where the run stands
pub record CanGo (S : Type 0) (ops : List Op) (ends : List ℕ) (calls : List CallNo) (old : Running) : Type 0 where
  pub world : World S
  pub c : Configuration S
  pub calls_are : world.context.calls ≡ callees calls
  pub is : Is ops ends c old
  pub sound : IsNoFault (step world c)

-- in each configuration where the run stands over a host of this state, the turn is the machine's step, and the host's
-- state is that after it
abbrev pub Goes : (S : Type 0) → HostMeaning S → List CallNo → List Op → List ℕ → Running → S → Option Stop → Running →
    S → Type 0
Goes S meaning calls ops ends old before found new after =
    (world : World S) (c : Configuration S) → IsIn meaning calls world → c.host ≡ before → Is ops ends c old →
    IsNoFault (step world c) → Follows ops ends (step world c) found new after
