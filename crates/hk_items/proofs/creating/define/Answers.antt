use Rattle.std.proofs.Common.{refl}
use Rattle.hk_state.specs.declared.entry.Entry.TheVariants as entry
use Rattle.hk_items.specs.Checks.{checked}
use Rattle.hk_items.proofs.Created.{defined_there, defined_new}
use Rattle.hk_items.proofs.creating.define.Goals as goal

pub returns-then-has : goal.returns-then-has
returns-then-has c = record {
  defined =
      λ es. defined_there c.args.ledger.now.entries c.args.overlay es c.args.version c.args.code.now
      (checked c.args.found.hash c.args.found.bound_hook c.args.found.bound_cbak) c.args.found.hash refl
      c.if-has.ensures.has;
}

pub returns : goal.returns
returns c = record {
  defined =
      λ es. defined_new c.args.ledger.now.entries c.args.overlay es c.args.version c.args.code.now
      (checked c.args.found.hash c.args.found.bound_hook c.args.found.bound_cbak) c.args.found.hash refl
      c.if-has.ensures.has
      c.put.new.self _ c.in_ok-put.ensures.ok
      (λ i. entry.Definition (c.in_ok-own.ensures.same i) c.args.version c.args.found.bound_hook
      c.args.found.bound_cbak);
}
