use Rattle.std.proofs.Common.{take}
use Rattle.xo_fields.specs.Field.{number}
use Rattle.xo_list.specs.Builder.{puts}
use Rattle.xo_list.specs.Located.{AllBelow}
use Rattle.xo_list.proofs.builder.slot_of.Given as goal

abbrev pub invariant-loop-index : goal.invariant-loop-index
invariant-loop-index l = AllBelow (number l.fn.field) (puts (take l.index l.fields))
