use Rattle.std.proofs.Common.{subst, arith, ◌*◌, [], length}
use Rattle.hk_lines.specs.declared.result_name.ResultName.TheVariants.{Reserve}
use Rattle.hk_state.specs.declared.transactor.Done.TheVariants.{Kept, Failed}
use Rattle.hk_draft.specs.Drafted.{draft_of}
use Rattle.hk_events.specs.Items.{items_end}
use Rattle.hk_items.specs.Endings.{Means, plain}
use Rattle.hk_items.proofs.Alike.{before_reserve, short, covered, kept_grows, hooks_alike}
use Rattle.hk_items.proofs.Grown.{items_grow}
use Rattle.hk_items.proofs.performing.set_hooks.Goals as goal

pub is_short-requires : goal.is_short-requires
is_short-requires c =
    let d = draft_of c.args.ledger.now.entries c.args.overlay [] in
    let more =
    kept_grows c.args.ledger.now.entries [] c.args.account.now (4000000 * length c.args.items.now) d
    (items_end plain c.args.account.now 0 c.args.items.now d) c.in-Kept.after
    (subst (λ done. Means c.args.ledger.now.entries [] done
    (items_end plain c.args.account.now 0 c.args.items.now (draft_of c.args.ledger.now.entries c.args.overlay [])))
    c.in-Kept.is (c.in_ok-name.ensures.end []))
    (items_grow c.args.account.now c.args.account.now 0 c.args.items.now d) in
    let few = c.requires.right.few in
    let small = c.requires.reserve in
    record { fits = omega (arith, more, few, small) }

pub returns-in-Failed : goal.returns-in-Failed
returns-in-Failed c = record {
  end =
      λ e checks reserves es. subst (Means c.args.ledger.now.entries es (Failed c.in-Failed.name))
      (hooks_alike e checks reserves c.args.account.now c.args.items.now
      (draft_of c.args.ledger.now.entries c.args.overlay es))
      (before_reserve c.args.ledger.now.entries es c.args.account.now
      (items_end plain c.args.account.now 0 c.args.items.now (draft_of c.args.ledger.now.entries c.args.overlay es))
      c.in-Failed.name (subst (λ done. Means c.args.ledger.now.entries es done
      (items_end plain c.args.account.now 0 c.args.items.now (draft_of c.args.ledger.now.entries c.args.overlay es)))
      c.in-Failed.is (c.in_ok-name.ensures.end es)));
}

pub returns-then-is_short : goal.returns-then-is_short
returns-then-is_short c = record {
  end =
      λ e checks reserves es. subst (Means c.args.ledger.now.entries es (Failed Reserve))
      (hooks_alike e checks reserves c.args.account.now c.args.items.now
      (draft_of c.args.ledger.now.entries c.args.overlay es))
      (short c.args.ledger.now.entries es c.args.account.now
      (items_end plain c.args.account.now 0 c.args.items.now (draft_of c.args.ledger.now.entries c.args.overlay es))
      c.in-Kept.after c.if-is_short.ensures.short
      (subst (λ done. Means c.args.ledger.now.entries es done
      (items_end plain c.args.account.now 0 c.args.items.now (draft_of c.args.ledger.now.entries c.args.overlay es)))
      c.in-Kept.is (c.in_ok-name.ensures.end es)));
}

pub returns-else-is_short : goal.returns-else-is_short
returns-else-is_short c = record {
  end =
      λ e checks reserves es. subst (Means c.args.ledger.now.entries es (Kept c.in-Kept.after))
      (hooks_alike e checks reserves c.args.account.now c.args.items.now
      (draft_of c.args.ledger.now.entries c.args.overlay es))
      (covered c.args.ledger.now.entries es c.args.account.now
      (items_end plain c.args.account.now 0 c.args.items.now (draft_of c.args.ledger.now.entries c.args.overlay es))
      c.in-Kept.after c.if-is_short.ensures.short
      (subst (λ done. Means c.args.ledger.now.entries es done
      (items_end plain c.args.account.now 0 c.args.items.now (draft_of c.args.ledger.now.entries c.args.overlay es)))
      c.in-Kept.is (c.in_ok-name.ensures.end es)));
}
