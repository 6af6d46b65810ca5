use Rattle.std.proofs.Common.{sym, subst}
use Rattle.hk_items.specs.Needs.{AreRight}
use Rattle.hk_items.proofs.Right.{transactions_right}
use Rattle.hk_perform.proofs.acting.act.Goals as goal

pub set_hooks-requires-clause-right : goal.set_hooks-requires-clause-right
set_hooks-requires-clause-right g c =
    let t = c.args.transaction.now in
    subst AreRight (sym c.as_slice-items.ensures.items)
    (transactions_right c.requires.read.fields t.blob c.requires.read.emitted t c.requires.read.is)
