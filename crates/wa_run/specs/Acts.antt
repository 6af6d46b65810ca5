-- One plain instruction on untyped words, against one step of the machine on typed operands.
use Rattle.std.specs.Prelude.{ℕ, ◌≡◌, ◌+◌, ◌≤◌, List, ◌++◌, length, Option, Some, None}
use Rattle.hk_base.specs.declared.outcome.Outcome.TheVariants.{Trapped}
use Rattle.hk_base.specs.declared.outcome.Trap.{Trap}
use Rattle.wa_ops.specs.declared.op.Op.{Op}
use Rattle.wa_ops.specs.declared.op.Op.TheVariants as op
use Rattle.wa_machine.specs.Machine.{Value, Region, Configuration, World, Step, next, ended, fault, act, onward}
use Rattle.wa_run.specs.Flat.{words_of, all_words, AllValues}
use Rattle.wa_run.specs.Room.{Words}
use Rattle.wa_run.specs.declared.store.Store.{Store}

-- the store of a configuration with these operands in the innermost region, these regions around it, these variables
-- and this memory
pub record Holds (around : List Region) (operands locals globals : List Value) (memory : List ℕ)
    (store : Store) : Type 0 where
  pub words : store.words.items ≡ words_of operands ++ all_words around
  pub operands_fit : AllValues operands
  pub locals_are : store.locals.items ≡ words_of locals
  pub locals_fit : AllValues locals
  pub globals_are : store.globals.items ≡ words_of globals
  pub globals_fit : AllValues globals
  pub memory_is : store.memory ≡ memory
  pub memory_fits : length store.memory ≤ 1048576

abbrev pub IsNoFault : {S : Type 0} → Step S → Type 0
IsNoFault (next c) = Unit {0}
IsNoFault (ended outcome c) = Unit {0}
IsNoFault fault = ⊥

-- the instructions on operands, variables and memory alone
abbrev pub IsPlain : Op → Type 0
IsPlain (op.Block result) = ⊥
IsPlain (op.Loop result) = ⊥
IsPlain (op.If result) = ⊥
IsPlain op.Else = ⊥
IsPlain op.End = ⊥
IsPlain (op.Br label) = ⊥
IsPlain (op.BrIf label) = ⊥
IsPlain (op.BrTable labels last) = ⊥
IsPlain op.Return = ⊥
IsPlain (op.Call function) = ⊥
IsPlain (op.CallIndirect index) = ⊥
IsPlain op.MemoryGrow = ⊥
IsPlain (op.Float opcode) = ⊥
IsPlain instruction = Unit {0}

-- a configuration in which the instruction meets this store and no fault
pub record Meets (S : Type 0) (instruction : Op) (store : Store) : Type 0 where
  pub world : World S
  pub region : Region
  pub around : List Region
  pub operands : List Value
  pub c : Configuration S
  pub holds : Holds around operands c.locals c.globals c.memory store
  pub sound : IsNoFault (act world instruction region around operands c)

-- the run goes on with this store; the guards and the host are as they were
pub record GoesOn {S : Type 0} (step : Step S) (region : Region) (around : List Region) (c : Configuration S)
    (store : Store) : Type 0 where
  pub operands : List Value
  pub after : Configuration S
  pub step_is : step ≡ onward region around operands after
  pub holds : Holds around operands after.locals after.globals after.memory store
  pub guards : after.guards ≡ c.guards
  pub host : after.host ≡ c.host

-- in each configuration that the store before is of, the instruction gives the store after
abbrev pub Acts : (S : Type 0) → Op → Store → Store → Type 0
Acts S instruction old new =
    (world : World S) (region : Region) (around : List Region) (operands : List Value) (c : Configuration S) →
    Holds around operands c.locals c.globals c.memory old → IsNoFault (act world instruction region around operands c) →
    GoesOn (act world instruction region around operands c) region around c new

-- it gives the store after, or traps
abbrev pub ActsOr : (S : Type 0) → Op → Store → Option Trap → Store → Type 0
ActsOr S instruction old None new = Acts S instruction old new
ActsOr S instruction old (Some cause) new =
    (world : World S) (region : Region) (around : List Region) (operands : List Value) (c : Configuration S) →
    Holds around operands c.locals c.globals c.memory old → IsNoFault (act world instruction region around operands c) →
    act world instruction region around operands c ≡ ended (Trapped cause) c

-- at most one word more, and no less room
pub record Grows (old new : Words) : Type 0 where
  pub items : length new.items ≤ length old.items + 1
  pub room : old.room ≤ new.room
