-- The rows of a module's imports (this project's own).
use Rattle.std.specs.Prelude.{ℕ, ◌≡◌, List, Option, Some, true, map}
use Rattle.wa_ops.specs.declared.call_no.CallNo.{CallNo}
use Rattle.wa_ops.specs.declared.modules.FuncType.{FuncType}
use Rattle.wa_ops.specs.declared.modules.Import.{Import}
use Rattle.wa_ops.specs.Contexts.{calls_of, callees}
use Rattle.wa_ops.specs.HookRules.{AreKept, import_rules, is_api_import}
use Rattle.wa_ops.specs.Rows.{row_named}

abbrev pub rows_named : List Import → List (Option ℕ)
rows_named imports = map (λ import. row_named import.name) imports

abbrev pub found_rows : List CallNo → List (Option ℕ)
found_rows rows = map (λ row. Some row.0) rows

-- an API call of this row
pub record IsRowOf (types : List FuncType) (import : Import) (row : CallNo) : Type 0 where
  pub call : is_api_import types import ≡ true
  pub named : row_named import.name ≡ Some row.0

-- each import is an API call, and these are their rows
pub record AreRows (types : List FuncType) (imports : List Import) (rows : List CallNo) : Type 0 where
  pub kept : AreKept (import_rules types imports)
  pub named : found_rows rows ≡ rows_named imports
  pub calls : calls_of imports ≡ callees rows
