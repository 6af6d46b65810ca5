use Rattle.wa_ops.proofs.Marking.{behind_by_size}
use Rattle.wa_ops.proofs.ends.behind_by_size.Goals as goal

pub returns : goal.returns
returns c = record { law = behind_by_size }
