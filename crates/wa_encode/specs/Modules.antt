-- The bytes of a module: every number as short as can be, no custom section, and a section exactly where there is
-- something in it (WebAssembly Core 1.0, binary format, "Types" and "Modules"; the choice among the spellings is
-- this project's own).
use Rattle.std.specs.Prelude.{ℕ, suc, Bool, List, [], ◌∷◌, ◌++◌, Option, Some, None, option_map}
use Rattle.wa_ops.specs.declared.modules.Code.{Code}
use Rattle.wa_ops.specs.declared.modules.Element.{Element}
use Rattle.wa_ops.specs.declared.modules.FuncType.{FuncType}
use Rattle.wa_ops.specs.declared.modules.Import.{Import}
use Rattle.wa_ops.specs.declared.modules.ImportItem.{ImportItem}
use Rattle.wa_ops.specs.declared.modules.ImportItem.TheVariants.{Function, Table, Memory, Global}
use Rattle.wa_ops.specs.declared.modules.Limits.{Limits}
use Rattle.wa_ops.specs.declared.modules.Module.{Module}
use Rattle.wa_ops.specs.declared.modules.ModuleExport.{ModuleExport}
use Rattle.wa_ops.specs.declared.modules.ModuleGlobal.{ModuleGlobal}
use Rattle.wa_ops.specs.declared.modules.Segment.{Segment}
use Rattle.wa_ops.specs.declared.op.ValueType.{ValueType}
use Rattle.wa_decode.specs.Instructions.{type_byte}
use Rattle.wa_decode.specs.Modules.{mutable_byte, header}
use Rattle.wa_encode.specs.Instructions.{expression}
use Rattle.wa_encode.specs.Numbers.{number}
use Rattle.wa_encode.specs.Vectors.{vector, text}

abbrev pub value_type : ValueType → List ℕ
value_type kind = type_byte kind ∷ []

abbrev pub func_type : FuncType → List ℕ
func_type t = 0x60 ∷ (vector value_type t.parameters ++ vector value_type t.results)

abbrev pub range : ℕ → Option ℕ → List ℕ
range min None = 0x00 ∷ number min
range min (Some max) = 0x01 ∷ (number min ++ number max)

abbrev pub limits : Limits → List ℕ
limits l = range l.min l.max

abbrev pub table : Limits → List ℕ
table l = 0x70 ∷ limits l

abbrev pub global_type : ValueType → Bool → List ℕ
global_type kind mutable = type_byte kind ∷ mutable_byte mutable ∷ []

abbrev pub item : ImportItem → List ℕ
item (Function index) = 0x00 ∷ number index
item (Table l) = 0x01 ∷ table l
item (Memory l) = 0x02 ∷ limits l
item (Global kind mutable) = 0x03 ∷ global_type kind mutable

abbrev pub import : Import → List ℕ
import i = text i.module ++ (text i.name ++ item i.item)

abbrev pub global : ModuleGlobal → List ℕ
global g = global_type g.kind g.mutable ++ expression g.init

abbrev pub export : ModuleExport → List ℕ
export e = text e.name ++ e.kind ∷ number e.index

abbrev pub element : Element → List ℕ
element e = number e.table ++ (expression e.offset ++ vector number e.functions)

-- a run of locals of one type
abbrev pub locals : ℕ × ValueType → List ℕ
locals run = number run.0 ++ value_type run.1

abbrev pub body : Code → List ℕ
body c = vector locals c.locals ++ expression c.ops

abbrev pub code : Code → List ℕ
code c = text (body c)

abbrev pub segment : Segment → List ℕ
segment s = number s.memory ++ (expression s.offset ++ text s.bytes)

-- ---- sections

-- what a section of these items has in it; none where there are no items
abbrev pub filled : {A : Type 0} → (A → List ℕ) → List A → Option (List ℕ)
filled spell [] = None
filled spell (x ∷ xs) = Some (vector spell (x ∷ xs))

-- what the sections 1 to 11 have in them
abbrev pub contents : Module → List (Option (List ℕ))
contents m =
    filled func_type m.types ∷
    filled import m.imports ∷
    filled number m.functions ∷
    filled table m.tables ∷
    filled limits m.memories ∷
    filled global m.globals ∷
    filled export m.exports ∷
    option_map number m.start ∷
    filled element m.elements ∷
    filled code m.codes ∷
    filled segment m.segments ∷
    []

abbrev pub section : ℕ → Option (List ℕ) → List ℕ
section id None = []
section id (Some inside) = id ∷ text inside

-- the sections with these contents, with this id and those behind it
abbrev pub sections : ℕ → List (Option (List ℕ)) → List ℕ
sections id [] = []
sections id (inside ∷ others) = section id inside ++ sections (suc id) others

-- the bytes of a module
abbrev pub encoded : Module → List ℕ
encoded m = header ++ sections 1 (contents m)
