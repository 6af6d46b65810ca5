-- The rules that make a module a hook (this project's own), each as a test of a place, in the order in which faults are
-- told.
-- An index counts the items of a section, a function's number the defined functions, and a place the instructions of a
-- body, each from 0.
use Rattle.std.specs.Prelude.{ℕ, ◌≡◌, ◌⊎◌, ◌+◌, ◌-◌, ◌*◌, ◌<◌, ◌==◌, ◌&&◌, ◌||◌, not, nat_lt, nat_le, List, [], ◌∷◌}
use Rattle.std.specs.Prelude.{◌++◌, Option, Some, None, is_some, is_none, Bool, true, false, if◌then◌else◌, length}
use Rattle.std.specs.Prelude.{slice_get, sum_by, codes}
use Rattle.std.specs.Int.{cast_unsigned, w32}
use Rattle.std.specs.List.{list_any}
use Rattle.std.specs.Option.{option_map_or}
use Rattle.std.specs.Str.{bytes_eq}
use Rattle.wa_ops.specs.declared.modules.Code.{Code}
use Rattle.wa_ops.specs.declared.modules.FuncType.{FuncType}
use Rattle.wa_ops.specs.declared.modules.Import.{Import}
use Rattle.wa_ops.specs.declared.modules.ImportItem.{ImportItem}
use Rattle.wa_ops.specs.declared.modules.ImportItem.TheVariants as item
use Rattle.wa_ops.specs.declared.modules.Limits.{Limits}
use Rattle.wa_ops.specs.declared.modules.Module.{Module}
use Rattle.wa_ops.specs.declared.modules.ModuleExport.{ModuleExport}
use Rattle.wa_ops.specs.declared.modules.Segment.{Segment}
use Rattle.wa_ops.specs.declared.op.Op.{Op}
use Rattle.wa_ops.specs.declared.op.Op.TheVariants as op
use Rattle.wa_ops.specs.declared.op.ValueType.{ValueType}
use Rattle.wa_ops.specs.declared.op.ValueType.TheVariants.{I32, I64, F32, F64}
use Rattle.wa_ops.specs.declared.rule_fault.RuleFault.{RuleFault}
use Rattle.wa_ops.specs.declared.rule_fault.RuleFault.TheVariants as fault
use Rattle.wa_ops.specs.Callees.{Callee, guard}
use Rattle.wa_ops.specs.Contexts.{calls_of, function_type, has_items, parameters_of}
use Rattle.wa_ops.specs.Rows.{row_answer, row_named, row_parameters}
use Rattle.wa_ops.specs.Typing.{is_same_type}

-- ---- a rule at a place

-- the list has an item at this index, and it passes the test
abbrev pub passes : {A : Type 0} → (A → Bool) → List A → ℕ → Bool
passes test xs i = option_map_or test (slice_get xs i) false

-- the function with this number has such an instruction at this place; the test sees all instructions of the body
abbrev pub in_code : (List Op → ℕ → Bool) → List Code → ℕ → ℕ → Bool
in_code test codes func at = passes (λ code. nat_lt at (length code.ops) && test code.ops at) codes func

-- ---- floats

abbrev pub is_float : ValueType → Bool
is_float F32 = true
is_float F64 = true
is_float I32 = false
is_float I64 = false

abbrev pub has_float : List ValueType → Bool
has_float kinds = list_any is_float kinds

abbrev pub is_float_type : FuncType → Bool
is_float_type t = has_float t.parameters || has_float t.results

abbrev pub has_float_locals : Code → Bool
has_float_locals code = list_any (λ run. is_float run.1) code.locals

abbrev pub is_float_result : Option ValueType → Bool
is_float_result result = option_map_or is_float result false

-- an instruction on floats, or a region with such a result
abbrev pub is_float_op : Op → Bool
is_float_op (op.Float opcode) = true
is_float_op (op.Block result) = is_float_result result
is_float_op (op.Loop result) = is_float_result result
is_float_op (op.If result) = is_float_result result
is_float_op instruction = false

-- ---- imports, types and functions

abbrev pub are_types : List ValueType → List ValueType → Bool
are_types [] [] = true
are_types (x ∷ xs) (y ∷ ys) = is_same_type x y && are_types xs ys
are_types xs ys = false

abbrev pub is_function_type : List ValueType → ValueType → FuncType → Bool
is_function_type parameters answer t = are_types t.parameters parameters && are_types t.results (answer ∷ [])

-- the type at this index is that of the call in this row
abbrev pub is_row_type : List FuncType → ℕ → Option ℕ → Bool
is_row_type types index None = false
is_row_type types index (Some row) = passes (is_function_type (row_parameters row) (row_answer row)) types index

abbrev pub is_row_item : List FuncType → Option ℕ → ImportItem → Bool
is_row_item types row (item.Function index) = is_row_type types index row
is_row_item types row other = false

-- a function of `env`, with the name and the type of a row
abbrev pub is_api_import : List FuncType → Import → Bool
is_api_import types import =
    bytes_eq import.module (codes "env") && is_row_item types (row_named import.name) import.item

-- ---- tables, memories and globals

-- the greatest size is this at least, and that at most, where it is given
abbrev pub is_max_within : ℕ → ℕ → Option ℕ → Bool
is_max_within low high None = true
is_max_within low high (Some max) = nat_le low max && nat_le max high

abbrev pub is_bad_table : Limits → Bool
is_bad_table limits = not (is_max_within limits.min 4294967295 limits.max)

abbrev pub is_bad_memory : Limits → Bool
is_bad_memory limits = nat_lt 16 limits.min || not (is_max_within limits.min 65536 limits.max)

abbrev pub is_constant : Op → Bool
is_constant (op.I32Const n) = true
is_constant instruction = false

abbrev pub is_constant_of : ValueType → Op → Bool
is_constant_of I32 (op.I32Const n) = true
is_constant_of I64 (op.I64Const n) = true
is_constant_of kind instruction = false

abbrev pub is_end : Op → Bool
is_end op.End = true
is_end instruction = false

-- one such instruction, and `end`
abbrev pub is_one : (Op → Bool) → List Op → Bool
is_one test ops = passes test ops 0 && ((length ops == 2) && passes is_end ops 1)

-- ---- exports

abbrev pub is_hook : ModuleExport → Bool
is_hook export = bytes_eq export.name (codes "hook")

abbrev pub is_cbak : ModuleExport → Bool
is_cbak export = bytes_eq export.name (codes "cbak")

abbrev pub has_repeats : List ModuleExport → Bool
has_repeats [] = false
has_repeats (export ∷ exports) = list_any (λ other. bytes_eq export.name other.name) exports || has_repeats exports

-- how many of its kind a module has: functions, tables, memories or globals; of these, functions alone are imported
abbrev pub count_of_kind : ℕ → Module → ℕ → ℕ
count_of_kind imported m kind =
    if kind == 0 then imported + length m.functions else
    if kind == 1 then length m.tables else
    if kind == 2 then length m.memories else length m.globals

-- a function that the module defines, from i32 to i64
abbrev pub is_entry : ℕ → Module → ModuleExport → Bool
is_entry imported m export =
    (export.kind == 0) && (nat_le imported export.index &&
    option_map_or (is_function_type (I32 ∷ []) I64) (function_type m (export.index - imported)) false)

-- where so many functions are imported: names nothing; `hook` or `cbak` that is no such function; or a function under
-- another name
abbrev pub is_bad_export : ℕ → Module → ModuleExport → Bool
is_bad_export imported m export =
    nat_le (count_of_kind imported m export.kind) export.index ||
    (if is_hook export || is_cbak export then not (is_entry imported m export) else export.kind == 0)

-- ---- data

-- the place that an `i32.const` gives
abbrev pub address_of : Op → ℕ
address_of (op.I32Const n) = cast_unsigned w32 n
address_of instruction = 0

-- from a constant place, the bytes lie in a memory of so many pages
abbrev pub lies_in : ℕ → Segment → Bool
lies_in pages segment =
    is_one is_constant segment.offset &&
    nat_le (option_map_or address_of (slice_get segment.offset 0) 0 + length segment.bytes) (pages * 65536)

abbrev pub is_in_memory : List Limits → Segment → Bool
is_in_memory memories segment =
    (segment.memory == 0) && option_map_or (λ limits. lies_in limits.min segment) (slice_get memories 0) false

-- ---- code

-- the parameters and the locals of a function
abbrev pub count_of_locals : Module → ℕ → Code → ℕ
count_of_locals m func code = length (parameters_of (function_type m func)) + sum_by (λ run. run.0) code.locals

abbrev pub is_indirect : Op → Bool
is_indirect (op.CallIndirect index) = true
is_indirect instruction = false

abbrev pub is_grow : Op → Bool
is_grow op.MemoryGrow = true
is_grow instruction = false

abbrev pub is_own_call : List Callee → Op → Bool
is_own_call calls (op.Call function) = is_none (slice_get calls function)
is_own_call calls instruction = false

abbrev pub is_guard : Option Callee → Bool
is_guard (Some guard) = true
is_guard callee = false

abbrev pub is_guard_call : List Callee → Op → Bool
is_guard_call calls (op.Call function) = is_guard (slice_get calls function)
is_guard_call calls instruction = false

abbrev pub is_loop : Op → Bool
is_loop (op.Loop result) = true
is_loop instruction = false

-- a call of `_g` without two constants directly before it
abbrev pub lacks_constants : List Callee → List Op → ℕ → Bool
lacks_constants calls ops at =
    passes (is_guard_call calls) ops at &&
    not (nat_le 2 at && (passes is_constant ops (at - 2) && passes is_constant ops (at - 1)))

-- a loop whose body doesn't begin with two constants and a call of `_g`
abbrev pub lacks_guard : List Callee → List Op → ℕ → Bool
lacks_guard calls ops at =
    passes is_loop ops at &&
    not
    (passes is_constant ops (at + 1) && (passes is_constant ops (at + 2) && passes (is_guard_call calls) ops (at + 3)))

-- ---- the rules in order

-- a rule: the fault that breaks it, and the places where it is broken
pub record Rule : Type 0 where
  pub fault : ℕ → ℕ → RuleFault
  pub broken : ℕ → ℕ → Bool

-- a rule about the items of a section, about the module, or about the instructions of functions
abbrev pub item_rule : (ℕ → RuleFault) → (ℕ → Bool) → Rule
item_rule fault_of broken = record { fault = λ index at. fault_of index; broken = λ index at. broken index }

abbrev pub module_rule : RuleFault → Bool → Rule
module_rule fault_of broken = record { fault = λ index at. fault_of; broken = λ index at. broken }

abbrev pub code_rule : (ℕ → ℕ → RuleFault) → (ℕ → ℕ → Bool) → Rule
code_rule fault_of broken = record { fault = fault_of; broken = broken }

abbrev pub float_rules : Module → List Rule
float_rules m =
    item_rule fault.FloatType (passes is_float_type m.types) ∷
    item_rule fault.FloatGlobal (passes (λ global. is_float global.kind) m.globals) ∷
    item_rule fault.FloatLocals (passes has_float_locals m.codes) ∷
    code_rule fault.FloatCode (in_code (passes is_float_op) m.codes) ∷ []

abbrev pub import_rules : List FuncType → List Import → List Rule
import_rules types imports =
    item_rule fault.BadImport (passes (λ import. not (is_api_import types import)) imports) ∷ []

abbrev pub section_rules : Module → List Rule
section_rules m =
    item_rule fault.BadType (passes (λ t. nat_lt 1 (length t.results)) m.types) ∷
    item_rule fault.BadFunction (passes (λ index. nat_le (length m.types) index) m.functions) ∷
    module_rule fault.BadTable (nat_lt 1 (length m.tables) || list_any is_bad_table m.tables) ∷
    module_rule fault.BadMemory (nat_lt 1 (length m.memories) || list_any is_bad_memory m.memories) ∷
    item_rule fault.BadGlobal (passes (λ global. not (is_one (is_constant_of global.kind) global.init)) m.globals) ∷ []

-- where so many functions are imported
abbrev pub link_rules : ℕ → Module → List Rule
link_rules imported m =
    module_rule fault.BadExport
    (has_repeats m.exports || (not (list_any is_hook m.exports) || list_any (is_bad_export imported m) m.exports)) ∷
    module_rule fault.Start (is_some m.start) ∷
    module_rule fault.Elements (has_items m.elements) ∷
    item_rule fault.BadData (passes (λ segment. not (is_in_memory m.memories segment)) m.segments) ∷ []

-- where the imports are these to the code
abbrev pub code_rules : List Callee → Module → List Rule
code_rules calls m =
    item_rule fault.TooManyLocals (λ func. passes (λ code. nat_lt 4096 (count_of_locals m func code)) m.codes func) ∷
    code_rule fault.IndirectCall (in_code (passes is_indirect) m.codes) ∷
    code_rule fault.Grow (in_code (passes is_grow) m.codes) ∷
    code_rule fault.OwnCall (in_code (passes (is_own_call calls)) m.codes) ∷ []

abbrev pub guard_rules : List Callee → Module → List Rule
guard_rules calls m =
    code_rule fault.GuardNotConstant (in_code (lacks_constants calls) m.codes) ∷
    code_rule fault.LoopWithoutGuard (in_code (lacks_guard calls) m.codes) ∷ []

-- the rules behind those about imports
abbrev pub other_rules : ℕ → List Callee → Module → List Rule
other_rules imported calls m = section_rules m ++ (link_rules imported m ++ (code_rules calls m ++ guard_rules calls m))

abbrev pub hook_rules : Module → List Rule
hook_rules m =
    float_rules m ++
    (import_rules m.types m.imports ++ other_rules (length (calls_of m.imports)) (calls_of m.imports) m)

-- ---- the answer

abbrev pub IsNowhere : (ℕ → ℕ → Bool) → Type 0
IsNowhere broken = (i at : ℕ) → broken i at ≡ false

abbrev pub Precedes : ℕ → ℕ → ℕ → ℕ → Type 0
Precedes i at j place = (i < j) ⊎ ((i ≡ j) × (at < place))

-- broken here, and at no lesser place
pub record IsLeast (broken : ℕ → ℕ → Bool) (i at : ℕ) : Type 0 where
  pub here : broken i at ≡ true
  pub before : (j place : ℕ) → Precedes j place i at → broken j place ≡ false

-- the fault of this rule, at its least place
pub record IsFault (rule : Rule) (found : RuleFault) : Type 0 where
  pub index : ℕ
  pub place : ℕ
  pub least : IsLeast rule.broken index place
  pub is : found ≡ rule.fault index place

-- the fault of the first rule that is broken anywhere
abbrev pub IsFirst : List Rule → RuleFault → Type 0
IsFirst [] found = ⊥
IsFirst (rule ∷ rules) found = IsFault rule found ⊎ (IsNowhere rule.broken × IsFirst rules found)

-- no rule is broken anywhere
abbrev pub AreKept : List Rule → Type 0
AreKept [] = Unit {0}
AreKept (rule ∷ rules) = IsNowhere rule.broken × AreKept rules

-- the module meets all rules
abbrev pub IsRuled : Module → Type 0
IsRuled m = AreKept (hook_rules m)

-- all rules, each by its name: at no place is it broken
pub record KeepsRules (m : Module) : Type 0 where
  pub float_types : (i : ℕ) → passes is_float_type m.types i ≡ false
  pub float_globals : (i : ℕ) → passes (λ global. is_float global.kind) m.globals i ≡ false
  pub float_locals : (func : ℕ) → passes has_float_locals m.codes func ≡ false
  pub float_code : (func at : ℕ) → in_code (passes is_float_op) m.codes func at ≡ false
  pub imports : (i : ℕ) → passes (λ import. not (is_api_import m.types import)) m.imports i ≡ false
  pub types : (i : ℕ) → passes (λ t. nat_lt 1 (length t.results)) m.types i ≡ false
  pub functions : (func : ℕ) → passes (λ index. nat_le (length m.types) index) m.functions func ≡ false
  pub tables : (nat_lt 1 (length m.tables) || list_any is_bad_table m.tables) ≡ false
  pub memories : (nat_lt 1 (length m.memories) || list_any is_bad_memory m.memories) ≡ false
  pub globals : (i : ℕ) → passes (λ global. not (is_one (is_constant_of global.kind) global.init)) m.globals i ≡ false
  pub exports : (has_repeats m.exports ||
      (not (list_any is_hook m.exports) || list_any (is_bad_export (length (calls_of m.imports)) m) m.exports)) ≡ false
  pub start : is_some m.start ≡ false
  pub elements : has_items m.elements ≡ false
  pub segments : (i : ℕ) → passes (λ segment. not (is_in_memory m.memories segment)) m.segments i ≡ false
  pub locals : (func : ℕ) → passes (λ code. nat_lt 4096 (count_of_locals m func code)) m.codes func ≡ false
  pub indirect_calls : (func at : ℕ) → in_code (passes is_indirect) m.codes func at ≡ false
  pub growth : (func at : ℕ) → in_code (passes is_grow) m.codes func at ≡ false
  pub own_calls : (func at : ℕ) → in_code (passes (is_own_call (calls_of m.imports))) m.codes func at ≡ false
  pub guard_constants : (func at : ℕ) → in_code (lacks_constants (calls_of m.imports)) m.codes func at ≡ false
  pub loop_guards : (func at : ℕ) → in_code (lacks_guard (calls_of m.imports)) m.codes func at ≡ false

-- the rules in order are these rules
abbrev pub RulesByName : Type 0
RulesByName = (m : Module) → IsRuled m → KeepsRules m
