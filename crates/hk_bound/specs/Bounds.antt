-- The bounds of a module's functions and exports, in each version of the machine (this project's own).
use Rattle.std.specs.Prelude.{ℕ, Bool, Option, length, option_map}
use Rattle.wa_ops.specs.declared.modules.Module.{Module}
use Rattle.wa_ops.specs.declared.modules.ModuleExport.{ModuleExport}
use Rattle.wa_ops.specs.Bound.{bound_at}
use Rattle.wa_ops.specs.Contexts.{calls_of}
use Rattle.wa_ops.specs.Typing.{and_then}
use Rattle.wa_ops.specs.Functions.{body_of, entry_of}

-- in a version, of the defined function with this number
abbrev pub bound_of : ℕ → Module → ℕ → Option ℕ
bound_of version m func = option_map (bound_at version) (body_of m func)

-- in a version, of the function that is exported so
abbrev pub export_bound : ℕ → (ModuleExport → Bool) → Module → Option ℕ
export_bound version is_named m =
    and_then (entry_of (length (calls_of m.imports)) is_named m.exports) (bound_of version m)
