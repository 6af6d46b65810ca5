-- What the code of a module's function may name (WebAssembly Core 1.0, "Contexts" of validation; the rows of calls are
-- this project's own).
use Rattle.std.specs.Prelude.{ℕ, ◌==◌, List, [], ◌∷◌, ◌++◌, Option, Some, None, Bool, true, false, if◌then◌else◌, map}
use Rattle.std.specs.Prelude.{replicate, slice_get}
use Rattle.wa_ops.specs.declared.call_no.CallNo.{CallNo}
use Rattle.wa_ops.specs.declared.modules.Code.{Code}
use Rattle.wa_ops.specs.declared.modules.FuncType.{FuncType}
use Rattle.wa_ops.specs.declared.modules.Import.{Import}
use Rattle.wa_ops.specs.declared.modules.ImportItem.{ImportItem}
use Rattle.wa_ops.specs.declared.modules.ImportItem.TheVariants as item
use Rattle.wa_ops.specs.declared.modules.Module.{Module}
use Rattle.wa_ops.specs.declared.modules.ModuleGlobal.{ModuleGlobal}
use Rattle.wa_ops.specs.declared.op.ValueType.{ValueType}
use Rattle.wa_ops.specs.Callees.{Callee, guard, accept, rollback, host_call}
use Rattle.wa_ops.specs.Rows.{accept_row, guard_row, rollback_row, row_count, row_named, row_parameters}
use Rattle.wa_ops.specs.Typing.{Context, GlobalType, and_then}

-- what an import of this row is to the code; one of no row is a call past the table's end
abbrev pub callee_of_row : Option ℕ → Callee
callee_of_row None = host_call row_count []
callee_of_row (Some row) =
    if row == guard_row then guard else if row == accept_row then accept else
    if row == rollback_row then rollback else host_call row (row_parameters row)

-- what imports of these rows are to the code
abbrev pub callees : List CallNo → List Callee
callees [] = []
callees (row ∷ rows) = callee_of_row (Some row.0) ∷ callees rows

-- the functions that a module imports, in order; each other import has no place among them
abbrev pub called : ImportItem → Import → List Callee → List Callee
called (item.Function type_index) import more = callee_of_row (row_named import.name) ∷ more
called other import more = more

abbrev pub calls_of : List Import → List Callee
calls_of [] = []
calls_of (import ∷ imports) = called import.item import (calls_of imports)

-- the type of the defined function with this number, from 0
abbrev pub function_type : Module → ℕ → Option FuncType
function_type m function = and_then (slice_get m.functions function) (λ index. slice_get m.types index)

abbrev pub parameters_of : Option FuncType → List ValueType
parameters_of None = []
parameters_of (Some t) = t.parameters

abbrev pub first_of : List ValueType → Option ValueType
first_of [] = None
first_of (kind ∷ kinds) = Some kind

abbrev pub result_of : Option FuncType → Option ValueType
result_of None = None
result_of (Some t) = first_of t.results

-- a body's locals, run by run
abbrev pub expanded : List (ℕ × ValueType) → List ValueType
expanded [] = []
expanded (run ∷ runs) = replicate run.0 run.1 ++ expanded runs

abbrev pub locals_of : Option Code → List ValueType
locals_of None = []
locals_of (Some code) = expanded code.locals

abbrev pub global_types : List ModuleGlobal → List GlobalType
global_types [] = []
global_types (global ∷ globals) = record { kind = global.kind; is_mutable = global.mutable } ∷ global_types globals

abbrev pub has_items : {A : Type 0} → List A → Bool
has_items [] = false
has_items (x ∷ xs) = true

abbrev pub context_of : Module → ℕ → Context
context_of m function = record {
  calls = calls_of m.imports;
  locals = parameters_of (function_type m function) ++ locals_of (slice_get m.codes function);
  globals = global_types m.globals;
  has_memory = has_items m.memories;
  result = result_of (function_type m function);
}
