use Rattle.std.proofs.Common.{◌∙◌, ap, sym}
use Rattle.std.specs.FinMap.{get}
use Rattle.hk_state.specs.Writes.{with_writes}
use Rattle.hk_items.specs.Endings.{changed}
use Rattle.hk_items.proofs.Created.{update_none, update_kept}
use Rattle.hk_items.proofs.installing.update.Goals as goal

pub returns-in-None : goal.returns-in-None
returns-in-None c = record {
  end =
      λ es. update_none c.args.ledger.now.entries c.args.overlay es c.args.place.owner c.args.place.position c.args.on
      c.args.namespace c.args.parameters.now c.args.grants.now
      (sym c.in-None.is ∙ c.in_ok-changed.ensures.changed
      ∙ ap (changed c.args.on c.args.namespace c.args.parameters.now c.args.grants.now) (c.get-was.ensures.entry
      ∙ ap (get (with_writes c.args.ledger.now.entries c.args.overlay)) c.key.ensures.key));
}

pub returns-in_ok-after-in-Some : goal.returns-in_ok-after-in-Some
returns-in_ok-after-in-Some c = record {
  end =
      λ es. update_kept c.args.ledger.now.entries c.args.overlay es c.args.place.owner c.args.place.position c.args.on
      c.args.namespace c.args.parameters.now c.args.grants.now c.in-Some.install
      (sym c.in-Some.is ∙ c.in_ok-changed.ensures.changed
      ∙ ap (changed c.args.on c.args.namespace c.args.parameters.now c.args.grants.now) (c.get-was.ensures.entry
      ∙ ap (get (with_writes c.args.ledger.now.entries c.args.overlay)) c.key.ensures.key))
      c.in_ok-after-in-Some.after (c.in_ok-after-in-Some.ensures.put c.args.ledger.now.entries es);
}
