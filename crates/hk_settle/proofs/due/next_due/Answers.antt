use Rattle.std.proofs.Common.{◌∙◌, ap, arith, sym}
use Rattle.std.specs.FinMap.{get}
use Rattle.hk_settle.proofs.due.next_due.Goals as goal

pub overflow_add-next : goal.overflow_add-next
overflow_add-next c =
    let found = c.in-Some-Emitted-default in
    let low = (c.requires.queue found.number found.entry.now
    (ap (get c.args.ledger.now.entries) (sym found.field-0-0-is) ∙ found.ensures.least.there)).0 in
    let most = c.requires.next in omega (arith, low, most)
