use Rattle.wa_ops.proofs.Parsing.{tree_reads}
use Rattle.wa_ops.proofs.sequence.tree_reads.Goals as goal

pub returns : goal.returns
returns c = record { law = tree_reads }
