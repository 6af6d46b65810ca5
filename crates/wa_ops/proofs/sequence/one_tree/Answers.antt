use Rattle.wa_ops.proofs.Parsing.{one_tree}
use Rattle.wa_ops.proofs.sequence.one_tree.Goals as goal

pub returns : goal.returns
returns c = record { law = one_tree }
