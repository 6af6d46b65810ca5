-- What follows for a module that meets the rules, and for a code that is accepted (this project's own).
use Rattle.std.specs.Prelude.{ℕ, ◌≡◌, ◌≢◌, ◌⊎◌, ◌<◌, List, [], ◌∷◌, Some, length}
use Rattle.wa_ops.specs.declared.modules.Module.{Module}
use Rattle.wa_ops.specs.declared.op.ValueType.TheVariants.{I32, I64}
use Rattle.wa_ops.specs.Bound.{IsGuarded}
use Rattle.wa_ops.specs.Contexts.{calls_of, function_type, parameters_of, result_of}
use Rattle.wa_ops.specs.HookRules.{IsRuled, is_cbak, is_hook}
use Rattle.wa_ops.specs.Sequences.{Sequence}
use Rattle.wa_ops.specs.Functions.{body_of, entry_of}
use Rattle.wa_ops.specs.Soundness.{IsSound}
use Rattle.wa_validate.specs.Needs.{AllBodies, AllRowTypes, AreFew}
use Rattle.hk_bound.specs.Checks.{IsHook, IsRefused}
use Rattle.hk_bound.specs.declared.fault.CheckFault.{CheckFault}
use Rattle.hk_bound.specs.declared.fault.CheckFault.TheVariants as fault

-- each loop of a module that meets the rules begins with its guard
abbrev pub GuardedLoops : Type 0
GuardedLoops =
    (m : Module) (func : ℕ) (body : Sequence) → IsRuled m → body_of m func ≡ Some body →
    IsGuarded (calls_of m.imports) body

-- a defined function from i32 to i64
pub record IsEntryType (m : Module) (func : ℕ) : Type 0 where
  pub within : func < length m.functions
  pub parameters : parameters_of (function_type m func) ≡ I32 ∷ []
  pub result : result_of (function_type m func) ≡ Some I64

-- `hook` and `cbak` of a module that meets the rules are such functions
abbrev pub EntryTypes : Type 0
EntryTypes = (m : Module) (func : ℕ) → IsRuled m
    → (entry_of (length (calls_of m.imports)) is_hook m.exports ≡ Some func)
    ⊎ (entry_of (length (calls_of m.imports)) is_cbak m.exports ≡ Some func)
    → IsEntryType m func

-- all that `validate` of wa_validate needs of a module
pub record IsTypable (m : Module) : Type 0 where
  pub imports : AllRowTypes m.types m.imports
  pub bodies : AllBodies m.codes
  pub few : AreFew m.codes

-- a decoded module that meets the rules has it
abbrev pub Typables : Type 0
Typables = (m : Module) → IsSound m → IsRuled m → IsTypable m

-- no code that is accepted in a version is refused in it
abbrev pub OneVerdict : Type 0
OneVerdict =
    (version : ℕ) (code : List ℕ) (m : Module) (found : CheckFault) → found ≢ fault.NoMemory → IsHook version code m →
    IsRefused version code found → ⊥

-- a code that is refused in a version is refused in one way
abbrev pub OneRefusal : Type 0
OneRefusal =
    (version : ℕ) (code : List ℕ) (first second : CheckFault) → IsRefused version code first →
    IsRefused version code second
    → first ≢ fault.NoMemory → second ≢ fault.NoMemory → first ≡ second
