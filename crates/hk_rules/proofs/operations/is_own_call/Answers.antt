use Rattle.std.proofs.Common.{◌∙◌, sym, ap, not}
use Rattle.hk_rules.proofs.RowsOfCalls.{own_row}
use Rattle.hk_rules.proofs.operations.is_own_call.Goals as goal

pub returns-in-Call : goal.returns-in-Call
returns-in-Call c = record { own = rw c.in-Call.is (ap not c.has_row.ensures.row ∙ sym (own_row c.args.rows.now _)) }
