-- The functions that a module defines, counted from 0, and those that it exports (WebAssembly Core 1.0, "Functions" and
-- "Exports").
use Rattle.std.specs.Prelude.{ℕ, ◌-◌, Bool, List, Option, find, option_map, slice_get}
use Rattle.wa_ops.specs.declared.modules.Module.{Module}
use Rattle.wa_ops.specs.declared.modules.ModuleExport.{ModuleExport}
use Rattle.wa_ops.specs.Sequences.{Sequence, tree_of}
use Rattle.wa_ops.specs.Typing.{and_then}

-- the body of a function, as a tree
abbrev pub body_of : Module → ℕ → Option Sequence
body_of m function = and_then (slice_get m.codes function) (λ code. tree_of code.ops)

-- the function of such an export, where so many functions are imported: they are counted before the defined ones
abbrev pub entry_of : ℕ → (ModuleExport → Bool) → List ModuleExport → Option ℕ
entry_of imported is_named exports = option_map (λ export. export.index - imported) (find is_named exports)
