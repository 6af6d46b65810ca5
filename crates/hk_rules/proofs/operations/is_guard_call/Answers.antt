use Rattle.std.proofs.Common.{◌∙◌, sym}
use Rattle.hk_rules.proofs.RowsOfCalls.{guard_row}
use Rattle.hk_rules.proofs.operations.is_guard_call.Goals as goal

pub returns-in-Call : goal.returns-in-Call
returns-in-Call c = record {
  guard = rw c.in-Call.is (c.has_guard_row.ensures.guard ∙ sym (guard_row c.args.rows.now _));
}
