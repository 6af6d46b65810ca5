use Rattle.std.proofs.Common.{sym, subst}
use Rattle.std.specs.Option.{option_map}
use Rattle.std.specs.Map.Iter.{deref_pair}
use Rattle.hk_items.proofs.Walked.{Walking, begun, turned_once, one_fewer, all_walked}
use Rattle.hk_items.proofs.namespaces.empty.Goals as goal

pub loop-next-init : goal.loop-next-init
loop-next-init c =
    subst (Walking c.args.owner.now c.args.namespace.now c.args.ledger.now.entries c.args.overlay c.args.overlay)
    (sym c.found_in-next.ensures.found)
    (begun c.args.owner.now c.args.namespace.now c.args.ledger.now.entries c.args.overlay
    (option_map deref_pair c.least_from.result) c.least_from.ensures.least)

pub loop-next-smaller : goal.loop-next-smaller
loop-next-smaller c =
    one_fewer c.args.owner.now c.args.namespace.now c.args.ledger.now.entries c.args.overlay c.loop-next.after
    c.remove.new.self c.loop-next.next c.found_in-next-in-Some.result c.in-Some.state c.as_key-key.result
    (option_map deref_pair c.least_after.result)
    c.in-Some.is c.as_key-key.ensures.key c.in_ok-remove.ensures.ok c.least_after.ensures.least
    c.found_in-next-in-Some.ensures.found c.loop-next.invariant

pub loop-next-preserved : goal.loop-next-preserved
loop-next-preserved c =
    turned_once c.args.owner.now c.args.namespace.now c.args.ledger.now.entries c.args.overlay c.loop-next.after
    c.remove.new.self c.loop-next.next c.found_in-next-in-Some.result c.in-Some.state c.as_key-key.result
    (option_map deref_pair c.least_after.result)
    c.in-Some.is c.as_key-key.ensures.key c.in_ok-remove.ensures.ok c.least_after.ensures.least
    c.found_in-next-in-Some.ensures.found c.loop-next.invariant

pub returns : goal.returns
returns c = record {
  emptied = all_walked c.args.owner.now c.args.namespace.now c.args.ledger.now.entries c.args.overlay c.loop-next.after
      c.loop-next.next c.in_default.is c.loop-next.invariant;
}
