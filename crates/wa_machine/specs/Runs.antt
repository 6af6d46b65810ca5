-- The runs of a hook's exports (WebAssembly Core 1.0, "Execution", "Modules"; the exports and the bound are this
-- project's own).
use Rattle.std.specs.Prelude.{ℕ, zero, suc, ◌≡◌, ◌≤◌, Bool, List, Option, Some, None, length}
use Rattle.hk_base.specs.declared.outcome.Outcome.{Outcome}
use Rattle.wa_ops.specs.Bound.{bound_at}
use Rattle.wa_ops.specs.Contexts.{calls_of}
use Rattle.wa_ops.specs.Functions.{body_of, entry_of}
use Rattle.wa_ops.specs.Sequences.{Sequence}
use Rattle.wa_ops.specs.Typing.{and_then}
use Rattle.wa_ops.specs.declared.modules.Module.{Module}
use Rattle.wa_ops.specs.declared.modules.ModuleExport.{ModuleExport}
use Rattle.wa_machine.specs.Machine.{Configuration, World, HostMeaning, Step, next, ended, fault, step, Ends}
use Rattle.wa_machine.specs.Starts.{world_at, start_at}

-- The run of such an export with this argument, from a host of this state, ends so in the step of this number, and
-- leaves the host
-- in that state.
pub record IsRun {S : Type 0} (meaning : HostMeaning S) (m : Module) (is_named : ModuleExport → Bool) (argument : ℕ)
    (before : S) (outcome : Outcome) (count : ℕ) (after : S) : Type 0 where
  pub function : ℕ
  pub code : Sequence
  pub last : Configuration S
  pub entry : entry_of (length (calls_of m.imports)) is_named m.exports ≡ Some function
  pub body : body_of m function ≡ Some code
  pub ends : Ends (world_at meaning m function) count (start_at meaning m function code argument before) outcome last
  pub host : last.host ≡ after

-- ---- a run as a function

-- how a run ends: its outcome, its steps, and the host's state then
pub record Ending (S : Type 0) : Type 0 where
  pub outcome : Outcome
  pub count : ℕ
  pub host : S

abbrev pub or_on : {S : Type 0} → Step S → (Configuration S → Option (Ending S)) → Option (Ending S)
or_on (next c) go = go c
or_on (ended outcome c) go = Some (record { outcome = outcome; count = c.count; host = c.host })
or_on fault go = None

-- the ending that comes within so many steps; none where it doesn't, or at a fault
unfoldable pub run_for : {S : Type 0} → World S → ℕ → Configuration S → Option (Ending S)
run_for world zero c = None
run_for world (suc more) c = or_on (step world c) (λ later. run_for world more later)

-- within the bound of its body
abbrev pub run_body : {S : Type 0} → HostMeaning S → Module → ℕ → ℕ → Sequence → S → Option (Ending S)
run_body meaning m argument function code before =
    run_for (world_at meaning m function) (bound_at 1 code) (start_at meaning m function code argument before)

abbrev pub run_function : {S : Type 0} → HostMeaning S → Module → ℕ → S → ℕ → Option (Ending S)
run_function meaning m argument before function =
    and_then (body_of m function) (λ code. run_body meaning m argument function code before)

-- the ending of the run of such an export with this argument, from a host of this state
unfoldable pub run_of : {S : Type 0} → HostMeaning S → Module → (ModuleExport → Bool) → ℕ → S → Option (Ending S)
run_of meaning m is_named argument before =
    and_then (entry_of (length (calls_of m.imports)) is_named m.exports) (run_function meaning m argument before)

-- the bound of such an export in version 1
abbrev pub finest_bound : Module → (ModuleExport → Bool) → Option ℕ
finest_bound m is_named =
    and_then (entry_of (length (calls_of m.imports)) is_named m.exports)
    (λ function. and_then (body_of m function) (λ code. Some (bound_at 1 code)))

-- a run that ends within the bound is the function's
abbrev pub RunIs : Type 0 → Type 0
RunIs S =
    (meaning : HostMeaning S) (m : Module) (is_named : ModuleExport → Bool) (argument : ℕ) (before : S)
    (outcome : Outcome) (count n : ℕ) (after : S) →
    finest_bound m is_named ≡ Some n → count ≤ n → IsRun meaning m is_named argument before outcome count after →
    run_of meaning m is_named argument before ≡ Some (record { outcome = outcome; count = count; host = after })

-- what the function gives is a run, which ends within the bound
abbrev pub RunEnds : Type 0 → Type 0
RunEnds S =
    (meaning : HostMeaning S) (m : Module) (is_named : ModuleExport → Bool) (argument : ℕ) (before : S) (e : Ending S) →
    run_of meaning m is_named argument before ≡ Some e →
    (n : ℕ) × (finest_bound m is_named ≡ Some n) × (e.count ≤ n)
    × IsRun meaning m is_named argument before e.outcome e.count e.host
