use Rattle.std.proofs.Common.{subst, sym}
use Rattle.hk_state.specs.declared.transactor.Done.TheVariants.{Kept}
use Rattle.hk_draft.specs.Drafted.{draft_of}
use Rattle.hk_events.specs.Items.{item_end}
use Rattle.hk_items.specs.Endings.{Means, plain}
use Rattle.hk_items.proofs.performing.perform.Goals as goal

pub returns-in_ok-after-in-Delete : goal.returns-in_ok-after-in-Delete
returns-in_ok-after-in-Delete c = record {
  end = λ es.
      subst (λ i. Means c.args.ledger.now.entries es (Kept c.in_ok-after-in-Delete.after)
      (item_end plain c.args.place.owner c.args.place.position i
      (draft_of c.args.ledger.now.entries c.args.overlay es)))
      (sym c.in-Delete.is) (c.in_ok-after-in-Delete.ensures.cut c.args.ledger.now.entries es);
}
