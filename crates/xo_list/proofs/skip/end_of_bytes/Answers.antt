use Rattle.std.proofs.Common.{length, ap, arith, length-drop}
use Rattle.xo_list.proofs.skip.end_of_bytes.Goals as goal

pub returns-else-at-bytes-clause-ends : goal.returns-else-at-bytes-clause-ends
returns-else-at-bytes-clause-ends c rest e = grind (arith, length-drop c.args.at c.args.bytes.now, ap length e.0)
