use Rattle.hk_state.specs.contracts.key.KeyPartialEq.TheImpl.{eq-value}
use Rattle.hk_state.proofs.Kept.{alike}
use Rattle.hk_state.proofs.Listing.{one_copied}
use Rattle.hk_state.proofs.overlay.copied.Goals as goal

pub loop-key-preserved : goal.loop-key-preserved
loop-key-preserved c =
    one_copied eq-value.it alike c.args.writes.now.entries c.loop-key.copied.entries c.add_write.new.writes.entries
    c.loop-key.key-iterator c.next.new.self c.in-Some.key.now c.in-Some.change.now c.in_ok-copied_change.field-0
    c.in-Some.ensures.steps c.in_ok-copied_change.ensures.same c.in_ok-add_write.ensures.ok
    c.iter-key-items.ensures.unique c.loop-key.invariant
