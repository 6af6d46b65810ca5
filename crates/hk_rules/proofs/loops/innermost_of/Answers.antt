use Rattle.std.proofs.Common.{arith}
use Rattle.hk_rules.proofs.Looping.{marked_all}
use Rattle.hk_rules.proofs.loops.innermost_of.Goals as goal

pub returns : goal.returns
returns c = record {
  innermost =
      λ body reads.
      marked_all c.args.ops.now c.loop-op.op-index c.loop-op.found c.loop-op.open body (omega arith) c.loop-op.invariant
      reads;
}
