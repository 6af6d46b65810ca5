use Rattle.std.proofs.Common.{arith}
use Rattle.wa_run.proofs.Branching.{label_within, label_past}
use Rattle.wa_run.proofs.running.label_of.Goals as goal

pub returns-then-index-labels : goal.returns-then-index-labels
returns-then-index-labels c = record { label = label_within c.args.labels.now c.args.last c.args.index (omega arith) }

pub returns-else-index-labels : goal.returns-else-index-labels
returns-else-index-labels c = record { label = label_past c.args.labels.now c.args.last c.args.index (omega arith) }
