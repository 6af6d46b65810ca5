use Rattle.std.proofs.Common.{◌∙◌}
use Rattle.hk_state.specs.declared.key.Key.TheVariants as key
use Rattle.hk_events.specs.Items.{put_entry}
use Rattle.hk_items.proofs.creating.put_checked.Goals as goal

pub returns : goal.returns
returns c = record {
  put = λ es. c.in_ok-after.ensures.put c.args.ledger.now.entries es
      ∙ (λ i. put_entry (key.Install c.args.place.owner c.args.place.position)
      (c.in_ok-install.ensures.install i)
      (c.in_ok-defined.ensures.defined es i));
}
