-- The checked hooks that are kept, by the keys of their Definitions (this project's own).
use Rattle.std.specs.Prelude.{ℕ, ◌≡◌, ◌≤◌, List, Option, Some}
use Rattle.std.specs.Coded.{Coded}
use Rattle.std.specs.FinMap as map
use Rattle.hk_base.specs.declared.ids.Hash256.{Hash256}
use Rattle.hk_bound.specs.Bounds.{export_bound}
use Rattle.hk_bound.specs.Checks.{Held, Holds, IsHook}
use Rattle.hk_bound.specs.contracts.checked.Checked as checked
use Rattle.hk_bound.specs.declared.fault.Export.{Export}
use Rattle.wa_exec.specs.Runs.{named}
use Rattle.wa_ops.specs.HookRules.{is_hook, is_cbak}
use Rattle.wa_ops.specs.declared.modules.Module.{Module}
use Rattle.hk_state.specs.declared.entry.Entry.TheVariants as entry
use Rattle.hk_state.specs.declared.key.Key.{Key}
use Rattle.hk_state.specs.declared.key.Key.TheVariants as key
use Rattle.hk_state.specs.Keys.{key_cmp, coded_key}
use Rattle.hk_state.specs.Entries.{Entries}

abbrev pub Kept : Type 0
Kept = map.FinMap key_cmp Held

abbrev pub coded_kept : Coded Kept
coded_kept = map.code coded_key checked.the_row.coded

-- under a hash stands the Definition of this code, in this version
pub record IsDefined (m : Entries) (hash : Hash256) (code : List ℕ) (version : ℕ) : Type 0 where
  pub bound_hook : ℕ
  pub bound_cbak : Option ℕ
  pub there : map.get m (key.Definition hash) ≡ Some (entry.Definition code version bound_hook bound_cbak)

-- the code is accepted in its version, with these bounds
pub record IsStored (code : List ℕ) (version bound_hook : ℕ) (bound_cbak : Option ℕ) : Type 0 where
  pub known : version ≤ 1
  pub wasm : Module
  pub hook : IsHook version code wasm
  pub bound_is : export_bound version is_hook wasm ≡ Some bound_hook
  pub cbak_is : export_bound version is_cbak wasm ≡ bound_cbak

-- each Definition is of accepted code and stores its bounds
abbrev pub AreStored : Entries → Type 0
AreStored m = (hash : Hash256) (code : List ℕ) (version bound_hook : ℕ) (bound_cbak : Option ℕ) →
    map.get m (key.Definition hash) ≡ Some (entry.Definition code version bound_hook bound_cbak) →
    IsStored code version bound_hook bound_cbak

-- what is kept there is the check of a Definition's code, under the hash of that Definition
pub record IsOf (m : Entries) (at : Key) (held : Held) : Type 0 where
  pub hash : Hash256
  pub at_hash : at ≡ key.Definition hash
  pub code : List ℕ
  pub version : ℕ
  pub defined : IsDefined m hash code version
  pub holds : Holds version code held

-- and so for all that is kept
abbrev pub AreOf : Entries → Kept → Type 0
AreOf m kept = (at : Key) (held : Held) → map.get kept at ≡ Some held → IsOf m at held

-- what was kept stays as it was
abbrev pub StayKept : Kept → Kept → Type 0
StayKept before after = (at : Key) (held : Held) → map.get before at ≡ Some held → map.get after at ≡ Some held

-- it was made of accepted code in this version, and an export of it has this bound
pub record IsReady (version : ℕ) (which : Export) (bound : ℕ) (held : Held) : Type 0 where
  pub code : List ℕ
  pub holds : Holds version code held
  pub bounded : export_bound version (named which) held.wasm ≡ Some bound
