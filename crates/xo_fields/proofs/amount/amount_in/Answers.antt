use Rattle.xo_fields.proofs.AmountBytes.{nothing_cut}
use Rattle.xo_fields.proofs.amount.amount_in.Goals as goal

pub returns-in-empty : goal.returns-in-empty
returns-in-empty c = nothing_cut c.args.bytes.now c.in-empty.len_below
