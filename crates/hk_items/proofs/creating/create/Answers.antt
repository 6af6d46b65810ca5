use Rattle.std.proofs.Common.{◌∙◌, ap, sym}
use Rattle.std.specs.Option.{option_map}
use Rattle.hk_state.specs.declared.entry.Entry.TheVariants as entry
use Rattle.hk_state.specs.declared.key.Key.TheVariants as key
use Rattle.hk_draft.specs.Drafted.{draft_of}
use Rattle.hk_events.specs.Items.{put_entry, defined}
use Rattle.hk_items.specs.declared.creating.Found.{Found}
use Rattle.hk_items.specs.Checks.{checked, checked_in}
use Rattle.hk_items.proofs.Created.{create_occupied, create_refused, create_kept}
use Rattle.hk_items.proofs.creating.create.Goals as goal

pub returns-then-is_occupied : goal.returns-then-is_occupied
returns-then-is_occupied c = record {
  end =
      λ es. create_occupied c.args.ledger.now.entries c.args.overlay es c.args.place.owner c.args.place.position
      c.args.code.now c.args.version c.args.terms.on c.args.terms.namespace c.args.terms.parameters.now
      c.args.terms.grants.now c.args.terms.replace c.if-is_occupied.ensures.occupied;
}

pub returns-in-None : goal.returns-in-None
returns-in-None c = record {
  end =
      λ es. create_refused c.args.ledger.now.entries c.args.overlay es c.args.place.owner c.args.place.position
      c.args.code.now c.args.version c.args.terms.on c.args.terms.namespace c.args.terms.parameters.now
      c.args.terms.grants.now c.args.terms.replace c.if-is_occupied.ensures.occupied
      (sym (ap (option_map (λ (f : Found). checked f.hash f.bound_hook f.bound_cbak)) c.in-None.is)
      ∙ c.in_ok-found_in.ensures.found ∙ ap (checked_in c.args.version) c.as_slice.ensures.items);
}

pub returns-in_ok-after-in-Some : goal.returns-in_ok-after-in-Some
returns-in_ok-after-in-Some c = record {
  end = λ es. create_kept c.args.ledger.now.entries c.args.overlay es c.args.place.owner c.args.place.position
      c.args.code.now c.args.version c.args.terms.on c.args.terms.namespace c.args.terms.parameters.now
      c.args.terms.grants.now c.args.terms.replace c.if-is_occupied.ensures.occupied
      (checked c.in-Some.found.hash c.in-Some.found.bound_hook c.in-Some.found.bound_cbak)
      (sym (ap (option_map (λ (f : Found). checked f.hash f.bound_hook f.bound_cbak)) c.in-Some.is)
      ∙ c.in_ok-found_in.ensures.found
      ∙ ap (checked_in c.args.version) c.as_slice.ensures.items) c.in_ok-after-in-Some.after
      (c.in_ok-after-in-Some.ensures.put es);
}

pub found_in-requires : goal.found_in-requires
found_in-requires c = record { known = c.requires.known }
