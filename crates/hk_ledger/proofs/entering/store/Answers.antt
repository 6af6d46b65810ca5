use Rattle.std.proofs.lemmas.Result.{on_ok_weaker}
use Rattle.hk_ledger.proofs.Entered.{stored}
use Rattle.hk_ledger.proofs.entering.store.Goals as goal

pub returns-clause-ok : goal.returns-clause-ok
returns-clause-ok c =
    on_ok_weaker c.commit.result
    (λ made.
    stored c.args.ledger.now c.commit.new.self c.args.overlay c.in_ok-queued.queued c.args.emissions
    c.next_number.result c.len-count.result c.args.fee c.next_number.ensures.next c.len-count.ensures.length
    c.in_ok-queued.ensures.queued made)
    c.commit.ensures.ok
