-- What each decoded module meets beyond its types, and what calls need that take flat code or a module.
use Rattle.std.specs.List.{AllByRecursion}
use Rattle.std.specs.Prelude.{◌≡◌, ◌^◌, ◌<◌, ◌≤◌, ◌⊎◌, List, length}
use Rattle.wa_ops.specs.Opcodes.{form_at}
use Rattle.wa_ops.specs.Sequences.{IsNested}
use Rattle.wa_ops.specs.declared.modules.Code.{Code}
use Rattle.wa_ops.specs.declared.modules.Element.{Element}
use Rattle.wa_ops.specs.declared.modules.FuncType.{FuncType}
use Rattle.wa_ops.specs.declared.modules.Import.{Import}
use Rattle.wa_ops.specs.declared.modules.Module.{Module}
use Rattle.wa_ops.specs.declared.modules.ModuleExport.{ModuleExport}
use Rattle.wa_ops.specs.declared.modules.Segment.{Segment}
use Rattle.wa_ops.specs.declared.op.Op.{Op}
use Rattle.wa_ops.specs.declared.op.Op.TheVariants.{BrTable, Load, Store, Number, Float}
use Rattle.wa_ops.specs.declared.opcode.Form.TheVariants as forms

-- a list that a 32-bit count can count
abbrev pub IsCounted : {A : Type 0} → List A → Type 0
IsCounted xs = length xs < 2 ^ 32

-- each item of a list is sound
abbrev pub Each : {A : Type 0} → (A → Type 0) → List A → Type 0
Each Holds xs = AllByRecursion Holds xs

-- a counted list of items that are sound
pub record AreSound {A : Type 0} (Holds : A → Type 0) (xs : List A) : Type 0 where
  pub counted : IsCounted xs
  pub each : Each Holds xs

-- an instruction that keeps an opcode keeps one of its form, and labels are counted
abbrev pub IsSoundOp : Op → Type 0
IsSoundOp (BrTable labels last) = IsCounted labels
IsSoundOp (Load opcode align offset) = form_at opcode ≡ forms.Load
IsSoundOp (Store opcode align offset) = form_at opcode ≡ forms.Store
IsSoundOp (Number opcode) = form_at opcode ≡ forms.Number
IsSoundOp (Float opcode) =
    (form_at opcode ≡ forms.FloatAccess) ⊎ (form_at opcode ≡ forms.FloatNumber) ⊎ (form_at opcode ≡ forms.FloatConstant)
IsSoundOp op = Unit {0}

-- flat code that is nested, counted and made of sound instructions
pub record IsSoundCode (ops : List Op) : Type 0 where
  pub nested : IsNested ops
  pub sound : AreSound IsSoundOp ops

pub record IsSoundType (t : FuncType) : Type 0 where
  pub parameters : IsCounted t.parameters
  pub results : IsCounted t.results

pub record IsSoundImport (i : Import) : Type 0 where
  pub from : IsCounted i.module
  pub name : IsCounted i.name

pub record IsSoundExport (e : ModuleExport) : Type 0 where
  pub name : IsCounted e.name
  pub kind : e.kind ≤ 3

pub record IsSoundElement (e : Element) : Type 0 where
  pub offset : AreSound IsSoundOp e.offset
  pub functions : IsCounted e.functions

pub record IsSoundBody (c : Code) : Type 0 where
  pub locals : IsCounted c.locals
  pub ops : IsSoundCode c.ops

pub record IsSoundSegment (s : Segment) : Type 0 where
  pub offset : AreSound IsSoundOp s.offset
  pub bytes : IsCounted s.bytes

pub record IsSound (m : Module) : Type 0 where
  pub types : AreSound IsSoundType m.types
  pub imports : AreSound IsSoundImport m.imports
  pub functions : IsCounted m.functions
  pub tables : IsCounted m.tables
  pub memories : IsCounted m.memories
  pub globals : AreSound (λ g. AreSound IsSoundOp g.init) m.globals
  pub exports : AreSound IsSoundExport m.exports
  pub elements : AreSound IsSoundElement m.elements
  pub codes : AreSound IsSoundBody m.codes
  pub segments : AreSound IsSoundSegment m.segments
  pub paired : length m.codes ≡ length m.functions
