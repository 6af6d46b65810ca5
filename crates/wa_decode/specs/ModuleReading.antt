-- Reading modules from left to right.
use Rattle.std.specs.Prelude.{ℕ, zero, suc, ◌≡◌, Bool, true, false, ◌==◌, ◌&&◌, nat_lt, nat_le, if◌then◌else◌, List, []}
use Rattle.std.specs.Prelude.{◌∷◌, length, Option, Some, None}
use Rattle.wa_ops.specs.declared.modules.Code.{Code}
use Rattle.wa_ops.specs.declared.modules.Element.{Element}
use Rattle.wa_ops.specs.declared.modules.FuncType.{FuncType}
use Rattle.wa_ops.specs.declared.modules.Import.{Import}
use Rattle.wa_ops.specs.declared.modules.ImportItem.{ImportItem}
use Rattle.wa_ops.specs.declared.modules.ImportItem.TheVariants.{Function, Table, Memory, Global}
use Rattle.wa_ops.specs.declared.modules.Limits.{Limits}
use Rattle.wa_ops.specs.declared.modules.Module.{Module}
use Rattle.wa_ops.specs.declared.modules.ModuleExport.{ModuleExport}
use Rattle.wa_ops.specs.declared.modules.ModuleGlobal.{ModuleGlobal}
use Rattle.wa_ops.specs.declared.modules.Segment.{Segment}
use Rattle.wa_ops.specs.declared.op.Op.{Op}
use Rattle.wa_ops.specs.declared.op.ValueType.{ValueType}
use Rattle.wa_decode.specs.CodeReading.{value_type_at, expression_at}
use Rattle.wa_decode.specs.Modules.{Section, Spells, body_of, header}
use Rattle.wa_decode.specs.Reading.{◌>>=◌, made_at, both_at, tag_at, whole_at, unsigned_at, bytes_at, vector_at}
use Rattle.wa_decode.specs.Reading.{sized_at}

-- ---- types

abbrev pub func_type : List ValueType × List ValueType → FuncType
func_type t = record { parameters = t.0; results = t.1 }

unfoldable pub func_type_at : List ℕ → Option (FuncType × List ℕ)
func_type_at bytes = tag_at 0x60 (made_at func_type (both_at (vector_at value_type_at) (vector_at value_type_at))) bytes

abbrev pub from_min : ℕ → Limits
from_min min = record { min = min; max = None }

abbrev pub between : ℕ × ℕ → Limits
between l = record { min = l.0; max = Some l.1 }

unfoldable pub limits_at : List ℕ → Option (Limits × List ℕ)
limits_at [] = None
limits_at (b ∷ bs) =
    if b == 0x00 then made_at from_min (unsigned_at 32) bs else
    if b == 0x01 then made_at between (both_at (unsigned_at 32) (unsigned_at 32)) bs else
    None

unfoldable pub table_type_at : List ℕ → Option (Limits × List ℕ)
table_type_at bytes = tag_at 0x70 limits_at bytes

unfoldable pub mutable_at : List ℕ → Option (Bool × List ℕ)
mutable_at [] = None
mutable_at (b ∷ bs) = if b == 0x00 then Some (false, bs) else (if b == 0x01 then Some (true, bs) else None)

unfoldable pub global_type_at : List ℕ → Option ((ValueType × Bool) × List ℕ)
global_type_at bytes = both_at value_type_at mutable_at bytes

-- ---- what the sections have in them

abbrev pub global_item : ValueType × Bool → ImportItem
global_item g = Global g.0 g.1

unfoldable pub item_at : List ℕ → Option (ImportItem × List ℕ)
item_at [] = None
item_at (b ∷ bs) =
    if b == 0x00 then made_at Function (unsigned_at 32) bs else
    if b == 0x01 then made_at Table table_type_at bs else
    if b == 0x02 then made_at Memory limits_at bs else
    if b == 0x03 then made_at global_item global_type_at bs else
    None

abbrev pub import : List ℕ × (List ℕ × ImportItem) → Import
import i = record { «module» = i.0; name = i.1.0; item = i.1.1 }

unfoldable pub import_at : List ℕ → Option (Import × List ℕ)
import_at bytes = made_at import (both_at bytes_at (both_at bytes_at item_at)) bytes

abbrev pub global : (ValueType × Bool) × List Op → ModuleGlobal
global g = record { kind = g.0.0; mutable = g.0.1; init = g.1 }

unfoldable pub global_at : List ℕ → Option (ModuleGlobal × List ℕ)
global_at bytes = made_at global (both_at global_type_at expression_at) bytes

unfoldable pub kind_at : List ℕ → Option (ℕ × List ℕ)
kind_at [] = None
kind_at (b ∷ bs) = if nat_le b 3 then Some (b, bs) else None

abbrev pub export : List ℕ × (ℕ × ℕ) → ModuleExport
export e = record { name = e.0; kind = e.1.0; index = e.1.1 }

unfoldable pub export_at : List ℕ → Option (ModuleExport × List ℕ)
export_at bytes = made_at export (both_at bytes_at (both_at kind_at (unsigned_at 32))) bytes

abbrev pub element : ℕ × (List Op × List ℕ) → Element
element e = record { table = e.0; offset = e.1.0; functions = e.1.1 }

unfoldable pub element_at : List ℕ → Option (Element × List ℕ)
element_at bytes = made_at element (both_at (unsigned_at 32) (both_at expression_at (vector_at (unsigned_at 32)))) bytes

unfoldable pub locals_at : List ℕ → Option ((ℕ × ValueType) × List ℕ)
locals_at bytes = both_at (unsigned_at 32) value_type_at bytes

abbrev pub code : List (ℕ × ValueType) × List Op → Code
code c = record { locals = c.0; ops = c.1 }

unfoldable pub body_at : List ℕ → Option (Code × List ℕ)
body_at bytes = made_at code (both_at (vector_at locals_at) expression_at) bytes

unfoldable pub code_at : List ℕ → Option (Code × List ℕ)
code_at bytes = sized_at body_at bytes

abbrev pub segment : ℕ × (List Op × List ℕ) → Segment
segment s = record { memory = s.0; offset = s.1.0; bytes = s.1.1 }

unfoldable pub segment_at : List ℕ → Option (Segment × List ℕ)
segment_at bytes = made_at segment (both_at (unsigned_at 32) (both_at expression_at bytes_at)) bytes

unfoldable pub start_at : List ℕ → Option (Option ℕ × List ℕ)
start_at bytes = made_at Some (unsigned_at 32) bytes

-- ---- sections

abbrev pub section : ℕ → List ℕ → Section
section id body = record { id = id; body = body }

unfoldable pub section_at : List ℕ → Option (Section × List ℕ)
section_at [] = None
section_at (id ∷ bytes) = bytes_at bytes >>= λ b. Some (section id b.0, b.1)

-- at most so many sections, to the end of the bytes
unfoldable pub sections_at : ℕ → List ℕ → Option (List Section)
sections_at n [] = Some []
sections_at zero (b ∷ bs) = None
sections_at (suc n) (b ∷ bs) = section_at (b ∷ bs) >>= λ s. sections_at n s.1 >>= λ ss. Some (s.0 ∷ ss)

-- the highest id, where the sections stand in order behind one of the first id
unfoldable pub highest_at : ℕ → List Section → Option ℕ
highest_at last [] = Some last
highest_at last (s ∷ ss) =
    if s.id == 0 then (bytes_at s.body >>= λ name. highest_at last ss) else
    if nat_lt last s.id && nat_le s.id 11 then highest_at s.id ss else
    None

-- ---- modules

abbrev pub part_of : {A : Type 0} → (List ℕ → Option (A × List ℕ)) → A → Option (List ℕ) → Option A
part_of read empty None = Some empty
part_of read empty (Some body) = whole_at read body

unfoldable pub part_at : {A : Type 0} → ℕ → (List ℕ → Option (A × List ℕ)) → A → List Section → Option A
part_at id read empty sections = part_of read empty (body_of id sections)

abbrev pub paired : Module → Option Module
paired m = if length m.codes == length m.functions then Some m else None

unfoldable pub parts_at : List Section → Option Module
parts_at sections =
    part_at 1 (vector_at func_type_at) [] sections >>= λ types.
    part_at 2 (vector_at import_at) [] sections >>= λ imports.
    part_at 3 (vector_at (unsigned_at 32)) [] sections >>= λ functions.
    part_at 4 (vector_at table_type_at) [] sections >>= λ tables.
    part_at 5 (vector_at limits_at) [] sections >>= λ memories.
    part_at 6 (vector_at global_at) [] sections >>= λ globals.
    part_at 7 (vector_at export_at) [] sections >>= λ exports.
    part_at 8 start_at None sections >>= λ start.
    part_at 9 (vector_at element_at) [] sections >>= λ elements.
    part_at 10 (vector_at code_at) [] sections >>= λ codes.
    part_at 11 (vector_at segment_at) [] sections >>= λ segments.
    paired (record {
      types = types;
      imports = imports;
      functions = functions;
      tables = tables;
      memories = memories;
      globals = globals;
      exports = exports;
      start = start;
      elements = elements;
      codes = codes;
      segments = segments;
    })

-- what stands behind this prefix
unfoldable pub behind : List ℕ → List ℕ → Option (List ℕ)
behind [] bytes = Some bytes
behind (x ∷ xs) [] = None
behind (x ∷ xs) (b ∷ bs) = if b == x then behind xs bs else None

unfoldable pub module_at : List ℕ → Option Module
module_at bytes =
    behind header bytes >>= λ rest.
    sections_at (length rest) rest >>= λ sections.
    highest_at 0 sections >>= λ last.
    parts_at sections

-- that function finds a module exactly where the bytes spell it
abbrev pub ModuleReads : Type 0
ModuleReads =
    (m : Module) (bytes : List ℕ) →
    (Spells m bytes → module_at bytes ≡ Some m) × (module_at bytes ≡ Some m → Spells m bytes)
