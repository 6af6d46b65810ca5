-- The export that a rule says is there.
use Rattle.std.proofs.Common.{ℕ, ◌≡◌, ◌-◌, ◌||◌, List, [], ◌∷◌, not, Bool, true, false, Some, refl}
use Rattle.std.specs.List.{list_any}
use Rattle.std.specs.Prelude.{find, if◌then◌else◌, option_map, unwrap_or}
use Rattle.wa_ops.specs.declared.modules.ModuleExport.{ModuleExport}
use Rattle.wa_ops.specs.Functions.{entry_of}

-- the number that is kept is that of the export
pub entry_kept : (imported : ℕ) (is_named : ModuleExport → Bool) (exports : List ModuleExport) →
    list_any is_named exports ≡ true
    → entry_of imported is_named exports ≡ Some (unwrap_or (entry_of imported is_named exports) 0)
entry_kept imported is_named [] some = absurd (cc some)
entry_kept imported is_named (export ∷ exports) some =
    at (is_named export) (λ e. entry_kept imported is_named exports e) some
  where
    at : (b : Bool) →
        (list_any is_named exports ≡ true →
        entry_of imported is_named exports ≡ Some (unwrap_or (entry_of imported is_named exports) 0))
        → (b || list_any is_named exports) ≡ true →
        option_map (λ x. x.index - imported) (if b then Some export else find is_named exports)
        ≡ Some (unwrap_or (option_map (λ x. x.index - imported) (if b then Some export else find is_named exports)) 0)
    at true more e = refl
    at false more e = more e

-- no export is at fault, so one is `hook`
pub one_hook : (repeats some bad : Bool) → (repeats || (not some || bad)) ≡ false → some ≡ true
one_hook true some bad e = absurd (cc e)
one_hook false true bad e = refl
one_hook false false bad e = absurd (cc e)
