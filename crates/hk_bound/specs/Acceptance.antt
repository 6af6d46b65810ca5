-- Acceptance of code as a function, in each version of the machine (this project's own).
use Rattle.std.specs.Prelude.{ℕ, ◌≡◌, ◌≢◌, ◌⊎◌, ◌==◌, ◌&&◌, nat_le, List, Bool, true, Option, Some, None, if◌then◌else◌}
use Rattle.std.specs.Prelude.{length}
use Rattle.wa_decode.specs.ModuleReading.{module_at}
use Rattle.wa_decode.specs.Versions.{has_extensions}
use Rattle.wa_ops.specs.declared.modules.Module.{Module}
use Rattle.wa_ops.specs.declared.modules.ModuleExport.{ModuleExport}
use Rattle.wa_ops.specs.HookRules.{is_cbak, is_hook}
use Rattle.wa_ops.specs.Typing.{and_then}
use Rattle.wa_validate.specs.AreTyped.{are_typed}
use Rattle.hk_rules.specs.Ruling.{is_ruled}
use Rattle.hk_bound.specs.Bounds.{export_bound}
use Rattle.hk_bound.specs.Checks.{IsHook, IsRefused, longest, most}
use Rattle.hk_bound.specs.declared.fault.CheckFault.{CheckFault}
use Rattle.hk_bound.specs.declared.fault.CheckFault.TheVariants as fault

-- the module, where the version has all of its operators
abbrev pub in_version : ℕ → Module → Option Module
in_version version m = if (version == 0) && has_extensions m then None else Some m

-- the module that the bytes spell in a version
unfoldable pub module_in : ℕ → List ℕ → Option Module
module_in version code = and_then (module_at code) (in_version version)

abbrev pub is_at_most : ℕ → Option ℕ → Bool
is_at_most limit None = true
is_at_most limit (Some n) = nat_le n limit

-- the bound of an export, where there is such an export, is small enough
abbrev pub is_within : ℕ → (ModuleExport → Bool) → Module → Bool
is_within version is_named m = is_at_most (most version) (export_bound version is_named m)

-- short enough, ruled, typed and bounded
abbrev pub is_allowed : ℕ → List ℕ → Module → Bool
is_allowed version code m =
    nat_le (length code) longest &&
    (is_ruled m && (are_typed m && (is_within version is_hook m && is_within version is_cbak m)))

abbrev pub if_allowed : ℕ → List ℕ → Module → Option Module
if_allowed version code m = if is_allowed version code m then Some m else None

-- the module of a code that is accepted in a version
unfoldable pub accepted : ℕ → List ℕ → Option Module
accepted version code = and_then (module_in version code) (if_allowed version code)

-- that function finds a module exactly of the code that is accepted
abbrev pub AcceptedIsHook : Type 0
AcceptedIsHook =
    (version : ℕ) (code : List ℕ) (m : Module) →
    (accepted version code ≡ Some m → IsHook version code m) × (IsHook version code m → accepted version code ≡ Some m)

-- a code is refused for a cause of its own, and not for want of memory
pub record IsFaulty (version : ℕ) (code : List ℕ) : Type 0 where
  pub found : CheckFault
  pub refused : IsRefused version code found
  pub apart : found ≢ fault.NoMemory

-- each code is accepted in a version or refused in it
abbrev pub SomeVerdict : Type 0
SomeVerdict = (version : ℕ) (code : List ℕ) → ((m : Module) × IsHook version code m) ⊎ IsFaulty version code
