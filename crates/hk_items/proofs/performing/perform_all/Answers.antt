use Rattle.std.proofs.Common.{arith, refl, subst}
use Rattle.std.proofs.lemmas.List.{drop_all}
use Rattle.wa_ops.proofs.Places.{each_at, read_drop}
use Rattle.hk_draft.specs.Drafted.{draft_of}
use Rattle.hk_events.specs.Items.{item_end, items_end}
use Rattle.hk_items.specs.Endings.{Means, plain}
use Rattle.hk_items.specs.Needs.{IsKnown}
use Rattle.hk_items.proofs.Alike.{next_item, failed_item, no_more}
use Rattle.hk_items.proofs.performing.perform_all.Goals as goal

pub perform-requires : goal.perform-requires
perform-requires c =
    record {
      known = each_at IsKnown c.args.items.now c.loop-item.item-index c.item-item.result c.loop-item-test.true
          c.item-item.is c.requires.right.known;
    }

pub loop-item-init : goal.loop-item-init
loop-item-init c = (refl, λ es. refl)

pub overflow_add-position : goal.overflow_add-position
overflow_add-position c =
    let at = c.loop-item.invariant.0 in
    let within = c.loop-item-test.true in
    let few = c.requires.right.few in
    omega (arith, at, within, few)

pub returns-in-Failed : goal.returns-in-Failed
returns-in-Failed c = record {
  end =
      λ es. failed_item c.args.ledger.now.entries es c.args.account.now c.loop-item.position c.args.items.now
      c.loop-item.item-index c.item-item.result
      (read_drop c.args.items.now c.loop-item.item-index c.item-item.result c.loop-item-test.true c.item-item.is)
      c.loop-item.after (items_end plain c.args.account.now 0 c.args.items.now
      (draft_of c.args.ledger.now.entries c.args.overlay es)) (c.loop-item.invariant.1 es) c.in-Failed.name
      (subst (λ done. Means c.args.ledger.now.entries es done
      (item_end plain c.args.account.now c.loop-item.position c.item-item.result
      (draft_of c.args.ledger.now.entries c.loop-item.after es))) c.in-Failed.is (c.in_ok-name.ensures.end es));
}

pub loop-item-preserved : goal.loop-item-preserved
loop-item-preserved c =
    let at = c.loop-item.invariant.0 in (
      omega (arith, at),
      λ es. next_item c.args.ledger.now.entries es c.args.account.now c.loop-item.position c.args.items.now
          c.loop-item.item-index c.item-item.result
          (read_drop c.args.items.now c.loop-item.item-index c.item-item.result c.loop-item-test.true c.item-item.is)
          c.loop-item.after (items_end plain c.args.account.now 0 c.args.items.now
          (draft_of c.args.ledger.now.entries c.args.overlay es)) (c.loop-item.invariant.1 es) c.in-Kept.kept
          (subst (λ done. Means c.args.ledger.now.entries es done
          (item_end plain c.args.account.now c.loop-item.position c.item-item.result
          (draft_of c.args.ledger.now.entries c.loop-item.after es))) c.in-Kept.is (c.in_ok-name.ensures.end es)),
    )

pub returns : goal.returns
returns c = record {
  end =
      λ es. no_more c.args.ledger.now.entries es c.args.account.now c.loop-item.position _
      (drop_all c.loop-item.item-index c.args.items.now c.loop-item-test.false) c.loop-item.after
      (items_end plain c.args.account.now 0 c.args.items.now (draft_of c.args.ledger.now.entries c.args.overlay es))
      (c.loop-item.invariant.1 es);
}
