use Rattle.std.proofs.Common.{None, refl}
use Rattle.wa_ops.specs.declared.op.Op.TheVariants.{Nop}
use Rattle.wa_ops.specs.Sequences.{done, plain, block, loop, if_then, if_else}
use Rattle.wa_ops.proofs.tests.the_end_of_every_region.Goals as goal

pub matching_ends-requires-clause-nested : goal.matching_ends-requires-clause-nested
matching_ends-requires-clause-nested g c = (
  block None (loop None done done) (if_else None (plain Nop done) done (if_then None done done)),
  record { instructions = refl; tree = ((tt, tt), ((refl, tt), tt, (tt, tt))) },
)
