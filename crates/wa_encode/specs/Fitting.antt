-- The modules that bytes can spell: what a module in the code has by its types, and code that is nested.
use Rattle.std.specs.Prelude.{ℕ, ◌≡◌, ◌^◌, ◌<◌, ◌≤◌, List, length, Option, Some, None}
use Rattle.wa_ops.specs.Sequences.{IsNested}
use Rattle.wa_ops.specs.Soundness.{Each, IsSoundOp}
use Rattle.wa_ops.specs.declared.modules.Code.{Code}
use Rattle.wa_ops.specs.declared.modules.Element.{Element}
use Rattle.wa_ops.specs.declared.modules.ImportItem.{ImportItem}
use Rattle.wa_ops.specs.declared.modules.ImportItem.TheVariants.{Function, Table, Memory, Global}
use Rattle.wa_ops.specs.declared.modules.Limits.{Limits}
use Rattle.wa_ops.specs.declared.modules.Module.{Module}
use Rattle.wa_ops.specs.declared.modules.ModuleExport.{ModuleExport}
use Rattle.wa_ops.specs.declared.modules.Segment.{Segment}
use Rattle.wa_ops.specs.declared.op.Op.{Op}
use Rattle.wa_ops.specs.declared.op.Op.TheVariants.{Br, BrIf, BrTable, Call, CallIndirect, LocalGet, LocalSet, LocalTee}
use Rattle.wa_ops.specs.declared.op.Op.TheVariants.{GlobalGet, GlobalSet, Load, Store, I32Const, I64Const}
use Rattle.wa_decode.specs.Modules.{Spells}
use Rattle.wa_decode.specs.Ranges.{InBits}
use Rattle.wa_encode.specs.Modules.{encoded}

-- a number of 32 bits
abbrev pub IsWord : ℕ → Type 0
IsWord n = n < 2 ^ 32

abbrev pub IsWordIfThere : Option ℕ → Type 0
IsWordIfThere None = Unit {0}
IsWordIfThere (Some n) = IsWord n

-- the numbers of an instruction have their bits
abbrev pub FitsNumbers : Op → Type 0
FitsNumbers (Br label) = IsWord label
FitsNumbers (BrIf label) = IsWord label
FitsNumbers (BrTable labels last) = Each IsWord labels × IsWord last
FitsNumbers (Call index) = IsWord index
FitsNumbers (CallIndirect index) = IsWord index
FitsNumbers (LocalGet index) = IsWord index
FitsNumbers (LocalSet index) = IsWord index
FitsNumbers (LocalTee index) = IsWord index
FitsNumbers (GlobalGet index) = IsWord index
FitsNumbers (GlobalSet index) = IsWord index
FitsNumbers (Load opcode align offset) = IsWord align × IsWord offset
FitsNumbers (Store opcode align offset) = IsWord align × IsWord offset
FitsNumbers (I32Const n) = InBits 32 n
FitsNumbers (I64Const n) = InBits 64 n
FitsNumbers instruction = Unit {0}

-- and an opcode that it keeps is one of its form
pub record FitsOp (instruction : Op) : Type 0 where
  pub numbers : FitsNumbers instruction
  pub sound : IsSoundOp instruction

pub record FitsCode (ops : List Op) : Type 0 where
  pub nested : IsNested ops
  pub each : Each FitsOp ops

pub record FitsLimits (l : Limits) : Type 0 where
  pub min : IsWord l.min
  pub max : IsWordIfThere l.max

abbrev pub FitsItem : ImportItem → Type 0
FitsItem (Function index) = IsWord index
FitsItem (Table l) = FitsLimits l
FitsItem (Memory l) = FitsLimits l
FitsItem (Global kind mutable) = Unit {0}

pub record FitsExport (e : ModuleExport) : Type 0 where
  pub kind : e.kind ≤ 3
  pub index : IsWord e.index

pub record FitsElement (e : Element) : Type 0 where
  pub table : IsWord e.table
  pub offset : FitsCode e.offset
  pub functions : Each IsWord e.functions

pub record FitsBody (c : Code) : Type 0 where
  pub locals : Each (λ run. IsWord run.0) c.locals
  pub ops : FitsCode c.ops

pub record FitsSegment (s : Segment) : Type 0 where
  pub memory : IsWord s.memory
  pub offset : FitsCode s.offset

-- A body for each function, and so few bytes that 32 bits give the size of each part.
pub record Fits (m : Module) : Type 0 where
  pub imports : Each (λ i. FitsItem i.item) m.imports
  pub functions : Each IsWord m.functions
  pub tables : Each FitsLimits m.tables
  pub memories : Each FitsLimits m.memories
  pub globals : Each (λ g. FitsCode g.init) m.globals
  pub exports : Each FitsExport m.exports
  pub start : IsWordIfThere m.start
  pub elements : Each FitsElement m.elements
  pub codes : Each FitsBody m.codes
  pub segments : Each FitsSegment m.segments
  pub paired : length m.codes ≡ length m.functions
  pub size : IsWord (length (encoded m))

-- its bytes spell it, so that they decode to it alone
abbrev pub EncodedSpells : Type 0
EncodedSpells = (m : Module) → Fits m → Spells m (encoded m)
