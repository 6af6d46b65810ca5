-- The laws of the runs of a hook's exports (this project's own).
use Rattle.std.specs.Prelude.{ℕ, ◌≡◌, ◌≤◌, List, Bool, Option, Some}
use Rattle.hk_base.specs.declared.outcome.Outcome.{Outcome}
use Rattle.hk_bound.specs.Acceptance.{module_in}
use Rattle.hk_bound.specs.Bounds.{export_bound}
use Rattle.hk_bound.specs.Checks.{IsHook}
use Rattle.hk_bound.specs.declared.fault.Export.{Export}
use Rattle.hk_bound.specs.declared.fault.Export.TheVariants as «export»
use Rattle.wa_machine.specs.Machine.{HostMeaning}
use Rattle.wa_decode.specs.Versions.{SpellsIn}
use Rattle.wa_machine.specs.Runs.{Ending, IsRun, run_of}
use Rattle.wa_ops.specs.HookRules.{is_hook, is_cbak}
use Rattle.wa_ops.specs.Typing.{and_then}
use Rattle.wa_ops.specs.declared.modules.Module.{Module}
use Rattle.wa_ops.specs.declared.modules.ModuleExport.{ModuleExport}

-- the name of an export
abbrev pub named : Export → ModuleExport → Bool
named «export».Hook = is_hook
named «export».Cbak = is_cbak

-- it ends within so many steps, and no step before is a fault
pub record IsRunWithin {S : Type 0} (meaning : HostMeaning S) (m : Module) (is_named : ModuleExport → Bool)
    (argument : ℕ) (before : S) (most : ℕ) : Type 0 where
  pub outcome : Outcome
  pub count : ℕ
  pub after : S
  pub run : IsRun meaning m is_named argument before outcome count after
  pub within : count ≤ most

-- each run of such an export ends within its bound in each version, whatever the host makes of calls
abbrev pub RunsWithin : Type 0 → Module → (ModuleExport → Bool) → Type 0
RunsWithin S m is_named =
    (version : ℕ) (meaning : HostMeaning S) (argument : ℕ) (before : S) (n : ℕ) → version ≤ 1 →
    export_bound version is_named m ≡ Some n →
    IsRunWithin meaning m is_named argument before n

-- a run has one ending
abbrev pub OneEnding : Type 0 → Type 0
OneEnding S =
    (meaning : HostMeaning S) (m : Module) (is_named : ModuleExport → Bool) (argument : ℕ) (before : S) (o p : Outcome)
    (i j : ℕ) (after later : S) →
    IsRun meaning m is_named argument before o i after → IsRun meaning m is_named argument before p j later →
    (o ≡ p) × (i ≡ j) × (after ≡ later)

-- ---- the run of a code's bytes, as a function

-- the ending of the run of an export of the code, in a version, with this argument, from a host of this state
unfoldable pub code_run : {S : Type 0} → HostMeaning S → ℕ → List ℕ → Export → ℕ → S → Option (Ending S)
code_run meaning version code which argument before =
    and_then (module_in version code) (λ m. run_of meaning m (named which) argument before)

-- a run of accepted code is the function's
abbrev pub CodeRunIs : Type 0 → Type 0
CodeRunIs S =
    (meaning : HostMeaning S) (version : ℕ) (code : List ℕ) (m : Module) (which : Export) (argument : ℕ) (before : S)
    (outcome : Outcome) (count : ℕ) (after : S) →
    IsHook version code m → IsRun meaning m (named which) argument before outcome count after →
    code_run meaning version code which argument before
    ≡ Some (record { outcome = outcome; count = count; host = after })

-- what the function gives is the ending of a run of the module that the bytes spell
pub record IsRunOf {S : Type 0} (meaning : HostMeaning S) (version : ℕ) (code : List ℕ) (which : Export) (argument : ℕ)
    (before : S) (e : Ending S) : Type 0 where
  pub wasm : Module
  pub spelled : SpellsIn version wasm code
  pub run : IsRun meaning wasm (named which) argument before e.outcome e.count e.host

abbrev pub CodeRunEnds : Type 0 → Type 0
CodeRunEnds S =
    (meaning : HostMeaning S) (version : ℕ) (code : List ℕ) (which : Export) (argument : ℕ) (before : S) (e : Ending S)
    →
    code_run meaning version code which argument before ≡ Some e → IsRunOf meaning version code which argument before e

-- the function gives an ending, within so many steps
pub record CodeEnds {S : Type 0} (meaning : HostMeaning S) (version : ℕ) (code : List ℕ) (which : Export) (argument : ℕ)
    (before : S) (most : ℕ) : Type 0 where
  pub ending : Ending S
  pub is : code_run meaning version code which argument before ≡ Some ending
  pub within : ending.count ≤ most

-- for accepted code, within the export's bound, whatever the host makes of calls
abbrev pub CodesRun : Type 0 → Type 0
CodesRun S =
    (meaning : HostMeaning S) (version : ℕ) (code : List ℕ) (m : Module) (which : Export) (argument : ℕ) (before : S)
    (n : ℕ) →
    version ≤ 1 → IsHook version code m → export_bound version (named which) m ≡ Some n →
    CodeEnds meaning version code which argument before n
