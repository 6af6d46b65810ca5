use Rattle.hk_ledger.proofs.Entered.{entered_settled}
use Rattle.hk_ledger.proofs.entering.enter_settled.Goals as goal

pub returns-clause-ok : goal.returns-clause-ok
returns-clause-ok c =
    entered_settled c.args.ledger.now c.store.new.ledger c.args.settled c.in_ok-store.ensures.ok
