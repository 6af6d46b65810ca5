-- The modules that bytes spell in a version of the machine (this project's own): version 0 has no sign extension
-- operators.
use Rattle.std.specs.Prelude.{ℕ, ◌≡◌, ◌||◌, List, Bool, false}
use Rattle.std.specs.List.{list_any}
use Rattle.wa_ops.specs.declared.modules.Module.{Module}
use Rattle.wa_ops.specs.declared.op.Op.{Op}
use Rattle.wa_ops.specs.declared.op.Op.TheVariants as op
use Rattle.wa_ops.specs.Opcodes as opcodes
use Rattle.wa_decode.specs.Modules.{Spells}

-- a sign extension operator
abbrev pub is_extension : Op → Bool
is_extension (op.Number opcode) = opcodes.is_extension opcode
is_extension instruction = false

abbrev pub extends : List Op → Bool
extends ops = list_any is_extension ops

-- a body or another expression of the module has such an operator
abbrev pub has_extensions : Module → Bool
has_extensions m =
    list_any (λ global. extends global.init) m.globals || (list_any (λ element. extends element.offset) m.elements
    || (list_any (λ code. extends code.ops) m.codes || list_any (λ segment. extends segment.offset) m.segments))

-- the bytes spell this module, and in version 0 it has none of these operators
pub record SpellsIn (version : ℕ) (m : Module) (bytes : List ℕ) : Type 0 where
  pub spelled : Spells m bytes
  pub plain : version ≡ 0 → has_extensions m ≡ false
