-- What the types that the check keeps are in the definition of typing (this project's own).
use Rattle.std.specs.Prelude.{ℕ, List, [], ◌∷◌, Option, Some, None, Bool, true, false, if◌then◌else◌}
use Rattle.wa_ops.specs.declared.op.ValueType.{ValueType}
use Rattle.wa_ops.specs.Typing.{Stack, loosened, known, any}
use Rattle.wa_ops.specs.Typing as typing
use Rattle.wa_validate.specs.declared.operands.Slot.{Slot}
use Rattle.wa_validate.specs.declared.operands.Slot.TheVariants.{Known, Any}

abbrev pub slot_of : Slot → typing.Slot
slot_of (Known kind) = known kind
slot_of Any = any

-- the first operand, whatever its type, and what is below it
abbrev pub top_of : List typing.Slot → Bool → Option (typing.Slot × Stack)
top_of [] true = Some (any, loosened)
top_of [] false = None
top_of (slot ∷ slots) loose = Some (slot, record { slots = slots; loose = loose })

abbrev pub slot_in : Option Slot → Option typing.Slot
slot_in None = None
slot_in (Some slot) = Some (slot_of slot)

-- the operands of a numeric instruction: of one type, one or two
abbrev pub operands_of : ValueType × Bool → List ValueType
operands_of (kind, false) = kind ∷ []
operands_of (kind, true) = kind ∷ kind ∷ []
