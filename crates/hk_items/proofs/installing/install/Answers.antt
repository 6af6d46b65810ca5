use Rattle.std.proofs.Common.{◌∙◌, ap, sym}
use Rattle.hk_state.specs.declared.key.Key.TheVariants as key
use Rattle.hk_draft.specs.Drafted.{draft_of}
use Rattle.hk_events.specs.Items.{put_entry}
use Rattle.hk_items.proofs.Created.{install_occupied, install_undefined, install_kept}
use Rattle.hk_items.proofs.installing.install.Goals as goal

pub returns-then-is_occupied : goal.returns-then-is_occupied
returns-then-is_occupied c = record {
  end =
      λ es. install_occupied c.args.ledger.now.entries c.args.overlay es c.args.place.owner c.args.place.position
      c.args.hash c.args.terms.on c.args.terms.namespace c.args.terms.parameters.now c.args.terms.grants.now
      c.args.terms.replace c.if-is_occupied.ensures.occupied;
}

pub returns-then-not-has : goal.returns-then-not-has
returns-then-not-has c = record {
  end =
      λ es. install_undefined c.args.ledger.now.entries c.args.overlay es c.args.place.owner c.args.place.position
      c.args.hash c.args.terms.on c.args.terms.namespace c.args.terms.parameters.now c.args.terms.grants.now
      c.args.terms.replace c.if-is_occupied.ensures.occupied c.if-not-has.ensures.has;
}

pub returns : goal.returns
returns c = record {
  end =
      λ es. install_kept c.args.ledger.now.entries c.args.overlay es c.args.place.owner c.args.place.position
      c.args.hash c.args.terms.on c.args.terms.namespace c.args.terms.parameters.now c.args.terms.grants.now
      c.args.terms.replace c.if-is_occupied.ensures.occupied c.if-not-has.ensures.has c.in_ok-after.after
      (c.in_ok-after.ensures.put c.args.ledger.now.entries es
      ∙ (λ i. put_entry (key.Install c.args.place.owner c.args.place.position) (c.in_ok-install.ensures.install i)
      (draft_of c.args.ledger.now.entries c.args.overlay es)));
}
