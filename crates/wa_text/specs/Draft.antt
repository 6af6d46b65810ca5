-- What lines of text make, line by line (this project's own).
use Rattle.std.specs.Prelude.{◌≡◌, ℕ, ◌+◌, ◌==◌, ◌&&◌, nat_le, nat_lt, List, [], ◌∷◌, ◌++◌, length, codes, Option, Some}
use Rattle.std.specs.Prelude.{None, Bool, true, false, if◌then◌else◌}
use Rattle.std.specs.List.{list_any, position}
use Rattle.std.specs.Str.{bytes_eq}
use Rattle.wa_ops.specs.Rows.{row_named, row_parameters, row_answer}
use Rattle.wa_ops.specs.declared.modules.Code.{Code}
use Rattle.wa_ops.specs.declared.modules.FuncType.{FuncType}
use Rattle.wa_ops.specs.declared.modules.Import.{Import}
use Rattle.wa_ops.specs.declared.modules.ImportItem.TheVariants.{Function}
use Rattle.wa_ops.specs.declared.modules.Limits.{Limits}
use Rattle.wa_ops.specs.declared.modules.Module.{Module}
use Rattle.wa_ops.specs.declared.modules.ModuleExport.{ModuleExport}
use Rattle.wa_ops.specs.declared.modules.ModuleGlobal.{ModuleGlobal}
use Rattle.wa_ops.specs.declared.modules.Segment.{Segment}
use Rattle.wa_ops.specs.declared.op.Op.{Op}
use Rattle.wa_ops.specs.declared.op.Op.TheVariants.{Call, End, I32Const, I64Const}
use Rattle.wa_ops.specs.declared.op.ValueType.{ValueType}
use Rattle.wa_ops.specs.declared.op.ValueType.TheVariants.{I32, I64}
use Rattle.wa_decode.specs.CodeReading.{opened}
use Rattle.wa_text.specs.declared.draft.Body.{Body}
use Rattle.wa_text.specs.declared.draft.Draft.{Draft}
use Rattle.wa_text.specs.declared.draft.Part.{Part}
use Rattle.wa_text.specs.declared.draft.Part.TheVariants as part
use Rattle.wa_text.specs.declared.draft.Turn.{Turn}
use Rattle.wa_text.specs.declared.draft.Turn.TheVariants as turn
use Rattle.wa_text.specs.declared.fault.AsmRule.{AsmRule}
use Rattle.wa_text.specs.declared.fault.AsmRule.TheVariants.{BadOrder, UnknownName, RepeatedName, Unbalanced}
use Rattle.wa_text.specs.declared.text_line.Constant.{Constant}
use Rattle.wa_text.specs.declared.text_line.Constant.TheVariants as constant
use Rattle.wa_text.specs.declared.text_line.TextLine.{TextLine}
use Rattle.wa_text.specs.declared.text_line.TextLine.TheVariants as line
use Rattle.wa_text.specs.Numbers.{signed_word}

-- what a line does: the text goes on with this draft, it means this module, or the line is wrong
pub data Step : Type 0 where
  goes : Draft → Step
  ends : Module → Step
  wrong : AsmRule → Step

-- the functions have type 0, from i32 to i64
abbrev pub hook_type : FuncType
hook_type = record { parameters = I32 ∷ []; results = I64 ∷ [] }

abbrev pub row_type : ℕ → FuncType
row_type row = record { parameters = row_parameters row; results = row_answer row ∷ [] }

abbrev pub first_module : Module
first_module = record {
  types = hook_type ∷ [];
  imports = [];
  functions = [];
  tables = [];
  memories = [];
  globals = [];
  exports = [];
  start = None;
  elements = [];
  codes = [];
  segments = [];
}

abbrev pub first_draft : Draft
first_draft = record { part = part.Imports; «module» = first_module; body = None }

-- ---- the order of lines

-- the places of the parts, in their order
abbrev pub rank : Part → ℕ
rank part.Imports = 0
rank part.Memory = 1
rank part.Globals = 2
rank part.Data = 3
rank part.Functions = 4

-- a line of this part comes, where no line of a later part came
abbrev pub in_part : Draft → Part → Step → Step
in_part draft most step = if nat_le (rank draft.part) (rank most) then step else wrong BadOrder

abbrev pub goes_in : Draft → Part → Module → Step
goes_in draft now m = goes (record draft { part = now; «module» = m })

abbrev pub is_closed : Option Body → Bool
is_closed None = true
is_closed (Some body) = false

abbrev pub body_step : Option Body → (Body → Step) → Step
body_step None step = wrong BadOrder
body_step (Some body) step = step body

abbrev pub with_body : Draft → Body → Step
with_body draft body = goes (record draft { body = Some body })

-- ---- imports

abbrev pub is_imported : List ℕ → List Import → Bool
is_imported name imports = list_any (λ i. bytes_eq i.name name) imports

-- import k has type k + 1
abbrev pub imported : List ℕ → ℕ → Import
imported name before = record { «module» = codes "env"; name = name; item = Function (before + 1) }

abbrev pub with_import : Module → List ℕ → ℕ → Module
with_import m name row = record m {
  types = m.types ++ row_type row ∷ [];
  imports = m.imports ++ imported name (length m.imports) ∷ [];
}

abbrev pub import_step : Draft → List ℕ → Option ℕ → Step
import_step draft name None = wrong UnknownName
import_step draft name (Some row) =
    if is_imported name draft.module.imports then wrong RepeatedName else
    goes_in draft part.Imports (with_import draft.module name row)

-- ---- memory, globals and data

abbrev pub memory_of : ℕ → Limits
memory_of min = record { min = min; max = None }

abbrev pub with_memory : Module → Limits → Module
with_memory m limits = record m { memories = m.memories ++ limits ∷ [] }

-- the memory comes where nothing but imports came
abbrev pub memory_step : Draft → ℕ → Step
memory_step draft min =
    in_part draft part.Imports (goes_in draft part.Memory (with_memory draft.module (memory_of min)))

abbrev pub kind_of : Constant → ValueType
kind_of (constant.I32 value) = I32
kind_of (constant.I64 value) = I64

abbrev pub constant_of : Constant → Op
constant_of (constant.I32 value) = I32Const value
constant_of (constant.I64 value) = I64Const value

abbrev pub global_of : Bool → Constant → ModuleGlobal
global_of mutable value = record { kind = kind_of value; mutable = mutable; init = constant_of value ∷ End ∷ [] }

abbrev pub with_global : Module → ModuleGlobal → Module
with_global m global = record m { globals = m.globals ++ global ∷ [] }

abbrev pub segment_of : ℕ → List ℕ → Segment
segment_of offset bytes = record { memory = 0; offset = I32Const (signed_word offset) ∷ End ∷ []; bytes = bytes }

abbrev pub with_segment : Module → Segment → Module
with_segment m segment = record m { segments = m.segments ++ segment ∷ [] }

-- ---- functions

abbrev pub function_export : List ℕ → Module → ModuleExport
function_export name m = record { name = name; kind = 0; index = length m.imports + length m.codes }

abbrev pub with_function : Module → List ℕ → Module
with_function m name = record m {
  functions = m.functions ++ 0 ∷ [];
  exports = m.exports ++ function_export name m ∷ [];
}

abbrev pub first_body : Body
first_body = record { locals = []; ops = []; regions = [] }

-- a function with this name opens, with so many before it
abbrev pub function_step : Draft → List ℕ → ℕ → Step
function_step draft name before =
    if is_closed draft.body && length draft.module.codes == before
    then goes (record { part = part.Functions; «module» = with_function draft.module name; body = Some first_body })
    else wrong BadOrder

abbrev pub is_empty : {A : Type 0} → List A → Bool
is_empty [] = true
is_empty (x ∷ xs) = false

-- each local is a run of its own
abbrev pub with_local : Body → ValueType → Body
with_local body kind = record body { locals = body.locals ++ (1, kind) ∷ [] }

abbrev pub local_step : Draft → ValueType → Body → Step
local_step draft kind body =
    if is_empty body.ops then with_body draft (with_local body kind) else wrong BadOrder

-- what is open behind an instruction that may stand there, or that it may not
abbrev pub Passes : Bool → List Bool → Option (List Bool) → Type 0
Passes true regions behind = behind ≡ Some regions
Passes false regions behind = behind ≡ None

abbrev pub with_op : Body → Op → List Bool → Body
with_op body op regions = record { locals = body.locals; ops = body.ops ++ op ∷ []; regions = regions }

abbrev pub plain_step : Draft → Body → Op → Option (List Bool) → Step
plain_step draft body op None = wrong Unbalanced
plain_step draft body op (Some regions) = with_body draft (with_op body op regions)

-- the imported function of this name
abbrev pub import_named : List Import → List ℕ → Option ℕ
import_named imports name = position (λ i. bytes_eq i.name name) imports

abbrev pub call_step : Draft → Body → Option ℕ → Step
call_step draft body None = wrong UnknownName
call_step draft body (Some index) = with_body draft (with_op body (Call index) body.regions)

abbrev pub code_of : Body → Code
code_of body = record { locals = body.locals; ops = body.ops ++ End ∷ [] }

abbrev pub with_code : Module → Code → Module
with_code m code = record m { codes = m.codes ++ code ∷ [] }

abbrev pub close_step : Draft → Body → Step
close_step draft body =
    if is_empty body.regions
    then goes (record draft { «module» = with_code draft.module (code_of body); body = None })
    else wrong Unbalanced

abbrev pub done_step : Draft → Step
done_step draft =
    if is_closed draft.body && nat_lt 0 (length draft.module.codes) then ends draft.module else wrong BadOrder

-- ---- one line

unfoldable pub step : Draft → TextLine → Step
step draft (line.Import name) = in_part draft part.Imports (import_step draft name (row_named name))
step draft (line.Memory min) = memory_step draft min
step draft (line.Global mutable value) =
    in_part draft part.Globals (goes_in draft part.Globals (with_global draft.module (global_of mutable value)))
step draft (line.Data offset bytes) =
    in_part draft part.Data (goes_in draft part.Data (with_segment draft.module (segment_of offset bytes)))
step draft line.Hook = function_step draft (codes "hook") 0
step draft line.Cbak = function_step draft (codes "cbak") 1
step draft (line.Local kind) = body_step draft.body (local_step draft kind)
step draft (line.Plain op) = body_step draft.body (λ body. plain_step draft body op (opened op body.regions))
step draft (line.Call name) =
    body_step draft.body (λ body. call_step draft body (import_named draft.module.imports name))
step draft line.Close = body_step draft.body (close_step draft)
step draft line.Done = done_step draft

-- ---- a draft in the code

-- what a line did to a draft, which is now this one
abbrev pub Turned : Turn → Draft → Step → Type 0
Turned turn.Goes now step = step ≡ goes now
Turned turn.Ends now step = step ≡ ends now.module
Turned (turn.Wrong rule) now step = step ≡ wrong rule
