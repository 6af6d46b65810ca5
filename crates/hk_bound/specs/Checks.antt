-- The code that is accepted as a hook, in each version of the machine, and why other code is refused (this project's
-- own).
use Rattle.std.specs.Prelude.{ℕ, ◌≡◌, ◌≤◌, ◌<◌, ◌==◌, if◌then◌else◌, List, ◌∷◌, Bool, Option, Some, length}
use Rattle.hk_base.specs.declared.ids.Hash256.{Hash256}
use Rattle.hk_base.specs.Hashes.{sha512half}
use Rattle.wa_decode.specs.Versions.{SpellsIn}
use Rattle.wa_ops.specs.declared.modules.Module.{Module}
use Rattle.wa_ops.specs.declared.modules.ModuleExport.{ModuleExport}
use Rattle.wa_ops.specs.declared.rule_fault.RuleFault.{RuleFault}
use Rattle.wa_ops.specs.declared.rule_fault.RuleFault.TheVariants as rule_fault
use Rattle.wa_ops.specs.HookRules.{IsFirst, IsRuled, hook_rules, is_hook, is_cbak}
use Rattle.wa_ops.specs.Soundness.{IsSound}
use Rattle.wa_validate.specs.declared.depth.Typed.{Typed}
use Rattle.wa_validate.specs.Untyped.{IsTypedAt, IsUntyped, HasDepths}
use Rattle.hk_rules.specs.declared.guards.Guards.{Guards}
use Rattle.hk_rules.specs.Guards.{AreGuards}
use Rattle.hk_bound.specs.Bounds.{export_bound}
use Rattle.hk_bound.specs.Entries.{IsEntry, AreEntry}
use Rattle.hk_bound.specs.declared.entries.Entry.{Entry}
use Rattle.hk_bound.specs.declared.fault.Export.{Export}
use Rattle.hk_bound.specs.declared.fault.CheckFault.{CheckFault}
use Rattle.hk_bound.specs.declared.fault.CheckFault.TheVariants as fault
use Rattle.hk_bound.specs.declared.fault.Export.TheVariants as «export»

-- the longest code, in bytes
abbrev pub longest : ℕ
longest = 65535

-- the greatest bound of an export in a version, in turns
abbrev pub most : ℕ → ℕ
most version = if version == 0 then 65535 else 262143

-- short enough, and the bytes of this module in this version
pub record IsSpelled (version : ℕ) (code : List ℕ) (m : Module) : Type 0 where
  pub short : length code ≤ longest
  pub spelled : SpellsIn version m code

abbrev pub AllTyped : Module → Type 0
AllTyped m = (function : ℕ) → IsTypedAt m function

-- an export's bound, where there is such an export, is small enough
abbrev pub IsWithin : ℕ → (ModuleExport → Bool) → Module → Type 0
IsWithin version is_named m = (n : ℕ) → export_bound version is_named m ≡ Some n → n ≤ most version

-- the bound of an export is this, and too large
pub record IsPast (version : ℕ) (is_named : ModuleExport → Bool) (m : Module) (n : ℕ) : Type 0 where
  pub bound : export_bound version is_named m ≡ Some n
  pub large : most version < n

-- the code is accepted in a version: short enough, spelled, ruled, typed and bounded
pub record IsHook (version : ℕ) (code : List ℕ) (m : Module) : Type 0 where
  pub spelled : IsSpelled version code m
  pub ruled : IsRuled m
  pub typed : AllTyped m
  pub hook : IsWithin version is_hook m
  pub cbak : IsWithin version is_cbak m

-- what a code is known by: in version 1 two bytes stand before it with which no code begins
abbrev pub hash_of : ℕ → List ℕ → Hash256
hash_of version code = if version == 0 then sha512half code else sha512half (0x00 ∷ 0x01 ∷ code)

-- what is kept of a code that was checked
pub record Held : Type 0 where
  pub version : ℕ
  pub wasm : Module
  pub guards : Guards
  pub typed : Typed
  pub hash : Hash256
  pub bound_hook : ℕ
  pub bound_cbak : Option ℕ
  pub hook_entry : Entry
  pub cbak_entry : Option Entry

pub record Holds (version : ℕ) (code : List ℕ) (held : Held) : Type 0 where
  pub known : version ≤ 1
  pub version_is : held.version ≡ version
  pub hook : IsHook version code held.wasm
  pub sound : IsSound held.wasm
  pub guards : AreGuards held.wasm held.guards
  pub depths : HasDepths held.wasm held.typed.depths
  pub hash : held.hash ≡ hash_of version code
  pub bound_hook : export_bound version is_hook held.wasm ≡ Some held.bound_hook
  pub bound_cbak : export_bound version is_cbak held.wasm ≡ held.bound_cbak
  pub hook_entry : IsEntry held.wasm is_hook held.hook_entry
  pub cbak_entry : AreEntry held.wasm is_cbak held.cbak_entry

-- the name of an export
abbrev pub named : Export → ModuleExport → Bool
named «export».Hook = is_hook
named «export».Cbak = is_cbak

-- what is kept for runs of an export, where there is such an export
abbrev pub entry_in : Export → Held → Option Entry
entry_in «export».Hook held = Some held.hook_entry
entry_in «export».Cbak held = held.cbak_entry

-- it was made of some code, in its version
pub record IsHeld (held : Held) : Type 0 where
  pub code : List ℕ
  pub holds : Holds held.version code held

-- ---- refusals

abbrev pub IsUnspelled : ℕ → List ℕ → CheckFault → Type 0
IsUnspelled version code fault.Malformed = (m : Module) → SpellsIn version m code → ⊥
IsUnspelled version code fault.NoMemory = Unit {0}
IsUnspelled version code found = ⊥

abbrev pub fault_of : RuleFault → CheckFault
fault_of rule_fault.NoMemory = fault.NoMemory
fault_of found = fault.Rule found

abbrev pub BreaksRules : Module → CheckFault → Type 0
BreaksRules m (fault.Rule found) = IsFirst (hook_rules m) found
BreaksRules m fault.NoMemory = Unit {0}
BreaksRules m found = ⊥

abbrev pub FailsTyping : Module → CheckFault → Type 0
FailsTyping m (fault.Untyped func op) = IsUntyped m func op
FailsTyping m fault.NoMemory = Unit {0}
FailsTyping m found = ⊥

abbrev pub IsHookFault : ℕ → Module → CheckFault → Type 0
IsHookFault version m (fault.BoundTooLarge «export».Hook n) = IsPast version is_hook m n
IsHookFault version m found = ⊥

abbrev pub IsCbakFault : ℕ → Module → CheckFault → Type 0
IsCbakFault version m (fault.BoundTooLarge «export».Cbak n) = IsPast version is_cbak m n
IsCbakFault version m found = ⊥

pub record IsRuleBroken (version : ℕ) (code : List ℕ) (found : RuleFault) : Type 0 where
  pub wasm : Module
  pub spelled : IsSpelled version code wasm
  pub first : IsFirst (hook_rules wasm) found

pub record IsTypingFailed (version : ℕ) (code : List ℕ) (func op : ℕ) : Type 0 where
  pub wasm : Module
  pub spelled : IsSpelled version code wasm
  pub ruled : IsRuled wasm
  pub untyped : IsUntyped wasm func op

pub record IsHookPast (version : ℕ) (code : List ℕ) (n : ℕ) : Type 0 where
  pub wasm : Module
  pub spelled : IsSpelled version code wasm
  pub ruled : IsRuled wasm
  pub typed : AllTyped wasm
  pub past : IsPast version is_hook wasm n

pub record IsCbakPast (version : ℕ) (code : List ℕ) (n : ℕ) : Type 0 where
  pub wasm : Module
  pub spelled : IsSpelled version code wasm
  pub ruled : IsRuled wasm
  pub typed : AllTyped wasm
  pub hook : IsWithin version is_hook wasm
  pub past : IsPast version is_cbak wasm n

-- in a version, the first of these holds of the code
abbrev pub IsRefused : ℕ → List ℕ → CheckFault → Type 0
IsRefused version code fault.TooLong = longest < length code
IsRefused version code fault.Malformed = (length code ≤ longest) × ((m : Module) → SpellsIn version m code → ⊥)
IsRefused version code (fault.Rule found) = IsRuleBroken version code found
IsRefused version code (fault.Untyped func op) = IsTypingFailed version code func op
IsRefused version code (fault.BoundTooLarge «export».Hook n) = IsHookPast version code n
IsRefused version code (fault.BoundTooLarge «export».Cbak n) = IsCbakPast version code n
IsRefused version code fault.NoMemory = Unit {0}
