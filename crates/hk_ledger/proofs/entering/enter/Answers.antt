use Rattle.hk_ledger.proofs.Entered.{entered_event}
use Rattle.hk_ledger.proofs.entering.enter.Goals as goal

pub returns-clause-ok : goal.returns-clause-ok
returns-clause-ok c =
    entered_event c.args.ledger.now c.store.new.ledger c.args.performed c.next_number.result
    c.push_states.new.lines c.push_emits.new.lines c.as_slice.result.now
    c.next_number.ensures.next c.as_slice.ensures.items
    c.in_ok-store.ensures.ok c.in_ok-push_states.ensures.ok c.in_ok-push_emits.ensures.ok
