-- What is kept of a module that meets the rules (this project's own).
use Rattle.std.specs.Prelude.{◌≡◌, Some, length, map}
use Rattle.wa_ops.specs.declared.modules.Module.{Module}
use Rattle.wa_ops.specs.Contexts.{calls_of}
use Rattle.wa_ops.specs.Functions.{entry_of}
use Rattle.wa_ops.specs.HookRules.{is_hook, is_cbak}
use Rattle.hk_rules.specs.declared.guards.Guards.{Guards}
use Rattle.hk_rules.specs.Imports.{found_rows, rows_named}
use Rattle.hk_rules.specs.Loops.{code_guards}

-- the exported functions, the row of each import, and the loops of each function
pub record AreGuards (m : Module) (guards : Guards) : Type 0 where
  pub hook : entry_of (length (calls_of m.imports)) is_hook m.exports ≡ Some guards.hook
  pub cbak : entry_of (length (calls_of m.imports)) is_cbak m.exports ≡ guards.cbak
  pub imports : found_rows guards.imports ≡ rows_named m.imports
  pub functions : map (λ loops. Some loops) guards.functions ≡ code_guards m.codes
