-- Modules as bytes (WebAssembly Core 1.0, binary format, "Types" and "Modules").
use Rattle.std.specs.Prelude.{ℕ, ◌≡◌, ◌<◌, ◌≤◌, ◌==◌, ◌⊎◌, Bool, true, false, if◌then◌else◌, List, [], ◌∷◌, ◌++◌}
use Rattle.std.specs.Prelude.{length, Option, Some, None, MatchOption}
use Rattle.wa_ops.specs.declared.modules.Code.{Code}
use Rattle.wa_ops.specs.declared.modules.Element.{Element}
use Rattle.wa_ops.specs.declared.modules.FuncType.{FuncType}
use Rattle.wa_ops.specs.declared.modules.Import.{Import}
use Rattle.wa_ops.specs.declared.modules.ImportItem.{ImportItem}
use Rattle.wa_ops.specs.declared.modules.ImportItem.TheVariants.{Function, Table, Memory, Global}
use Rattle.wa_ops.specs.declared.modules.Limits.{Limits}
use Rattle.wa_ops.specs.declared.modules.Module.{Module}
use Rattle.wa_ops.specs.declared.modules.ModuleExport.{ModuleExport}
use Rattle.wa_ops.specs.declared.modules.ModuleGlobal.{ModuleGlobal}
use Rattle.wa_ops.specs.declared.modules.Segment.{Segment}
use Rattle.wa_ops.specs.declared.op.ValueType.{ValueType}
use Rattle.wa_decode.specs.Grammar.{IsUnsigned, Then, After, SpellsAll, SpellsVector, SpellsBytes, SpellsSized}
use Rattle.wa_decode.specs.Instructions.{SpellsValueType, SpellsExpression}

-- ---- types

-- 60, the types of the parameters, those of the results
abbrev pub SpellsFuncType : FuncType → List ℕ → Type 0
SpellsFuncType t bytes =
    After 0x60 (Then (SpellsVector SpellsValueType t.parameters) (SpellsVector SpellsValueType t.results)) bytes

-- 00 and the least size, or 01, the least and the greatest
abbrev pub SpellsRange : ℕ → Option ℕ → List ℕ → Type 0
SpellsRange min None bytes = After 0x00 (IsUnsigned 32 min) bytes
SpellsRange min (Some max) bytes = After 0x01 (Then (IsUnsigned 32 min) (IsUnsigned 32 max)) bytes

abbrev pub SpellsLimits : Limits → List ℕ → Type 0
SpellsLimits l bytes = SpellsRange l.min l.max bytes

-- 70, for functions as elements, and limits
abbrev pub SpellsTable : Limits → List ℕ → Type 0
SpellsTable l bytes = After 0x70 (SpellsLimits l) bytes

abbrev pub mutable_byte : Bool → ℕ
mutable_byte false = 0x00
mutable_byte true = 0x01

abbrev pub SpellsGlobalType : ValueType → Bool → List ℕ → Type 0
SpellsGlobalType kind mutable bytes = Then (SpellsValueType kind) (λ rest. rest ≡ mutable_byte mutable ∷ []) bytes

-- ---- what the sections have in them

abbrev pub SpellsItem : ImportItem → List ℕ → Type 0
SpellsItem (Function index) bytes = After 0x00 (IsUnsigned 32 index) bytes
SpellsItem (Table l) bytes = After 0x01 (SpellsTable l) bytes
SpellsItem (Memory l) bytes = After 0x02 (SpellsLimits l) bytes
SpellsItem (Global kind mutable) bytes = After 0x03 (SpellsGlobalType kind mutable) bytes

abbrev pub SpellsImport : Import → List ℕ → Type 0
SpellsImport i bytes = Then (SpellsBytes i.module) (Then (SpellsBytes i.name) (SpellsItem i.item)) bytes

abbrev pub SpellsGlobal : ModuleGlobal → List ℕ → Type 0
SpellsGlobal g bytes = Then (SpellsGlobalType g.kind g.mutable) (SpellsExpression g.init) bytes

-- 00 for a function, 01 for a table, 02 for a memory, 03 for a global
abbrev pub SpellsKind : ℕ → List ℕ → Type 0
SpellsKind kind bytes = (kind ≤ 3) × (bytes ≡ kind ∷ [])

abbrev pub SpellsExport : ModuleExport → List ℕ → Type 0
SpellsExport e bytes = Then (SpellsBytes e.name) (Then (SpellsKind e.kind) (IsUnsigned 32 e.index)) bytes

abbrev pub SpellsElement : Element → List ℕ → Type 0
SpellsElement e bytes =
    Then (IsUnsigned 32 e.table) (Then (SpellsExpression e.offset) (SpellsVector (IsUnsigned 32) e.functions)) bytes

-- a run of locals of one type
abbrev pub SpellsLocals : ℕ × ValueType → List ℕ → Type 0
SpellsLocals run bytes = Then (IsUnsigned 32 run.0) (SpellsValueType run.1) bytes

-- a body: its size, and in exactly so many bytes its locals and its code
abbrev pub SpellsCode : Code → List ℕ → Type 0
SpellsCode c bytes = SpellsSized (Then (SpellsVector SpellsLocals c.locals) (SpellsExpression c.ops)) bytes

abbrev pub SpellsSegment : Segment → List ℕ → Type 0
SpellsSegment s bytes = Then (IsUnsigned 32 s.memory) (Then (SpellsExpression s.offset) (SpellsBytes s.bytes)) bytes

abbrev pub SpellsStart : Option ℕ → List ℕ → Type 0
SpellsStart None bytes = ⊥
SpellsStart (Some index) bytes = IsUnsigned 32 index bytes

-- ---- sections

pub record Section : Type 0 where
  pub id : ℕ
  pub body : List ℕ

-- an id, a size, and exactly so many bytes
abbrev pub SpellsSection : Section → List ℕ → Type 0
SpellsSection s bytes = After s.id (SpellsBytes s.body) bytes

-- a custom section holds a name and any bytes
abbrev pub IsCustom : List ℕ → Type 0
IsCustom body = Then (λ front. (name : List ℕ) × SpellsBytes name front) (λ rest. Unit {0}) body

-- the sections behind one of this id: custom ones, of id 0, stand anywhere; the others come in rising order, each at
-- most once
abbrev pub IsOrdered : ℕ → List Section → Type 0
IsOrdered last [] = Unit {0}
IsOrdered last (s ∷ ss) =
    ((s.id ≡ 0) × IsCustom s.body × IsOrdered last ss)
    ⊎ ((last < s.id) × (s.id ≤ 11) × IsOrdered s.id ss)

-- the bytes of the section with this id
abbrev pub body_of : ℕ → List Section → Option (List ℕ)
body_of id [] = None
body_of id (s ∷ ss) = if s.id == id then Some s.body else body_of id ss

-- the section with this id spells x; without such a section x is empty
abbrev pub Part : {A : Type 0} → ℕ → (A → List ℕ → Type 0) → A → A → List Section → Type 0
Part id Spelling empty x sections = MatchOption (body_of id sections) (x ≡ empty) (λ body. Spelling x body)

-- the parts of a module stand in its sections
pub record HasParts (m : Module) (sections : List Section) : Type 0 where
  pub types : Part 1 (SpellsVector SpellsFuncType) [] m.types sections
  pub imports : Part 2 (SpellsVector SpellsImport) [] m.imports sections
  pub functions : Part 3 (SpellsVector (IsUnsigned 32)) [] m.functions sections
  pub tables : Part 4 (SpellsVector SpellsTable) [] m.tables sections
  pub memories : Part 5 (SpellsVector SpellsLimits) [] m.memories sections
  pub globals : Part 6 (SpellsVector SpellsGlobal) [] m.globals sections
  pub exports : Part 7 (SpellsVector SpellsExport) [] m.exports sections
  pub start : Part 8 SpellsStart None m.start sections
  pub elements : Part 9 (SpellsVector SpellsElement) [] m.elements sections
  pub codes : Part 10 (SpellsVector SpellsCode) [] m.codes sections
  pub segments : Part 11 (SpellsVector SpellsSegment) [] m.segments sections
  pub paired : length m.codes ≡ length m.functions

-- the magic number and the version
abbrev pub header : List ℕ
header = 0x00 ∷ 0x61 ∷ 0x73 ∷ 0x6D ∷ 0x01 ∷ 0x00 ∷ 0x00 ∷ 0x00 ∷ []

-- The bytes spell this module.
pub record Spells (m : Module) (bytes : List ℕ) : Type 0 where
  pub sections : List Section
  pub behind : List ℕ
  pub spelled : SpellsAll SpellsSection sections behind
  pub whole : bytes ≡ header ++ behind
  pub ordered : IsOrdered 0 sections
  pub parts : HasParts m sections

-- no bytes spell two modules
abbrev pub OneModule : Type 0
OneModule = (bytes : List ℕ) (a b : Module) → Spells a bytes → Spells b bytes → a ≡ b
