use Rattle.std.proofs.Common.{◌∙◌, sym, ap, is_some}
use Rattle.std.specs.BTreeMap.Range.{is_from_start}
use Rattle.std.specs.Range.Bound.{bound_map}
use Rattle.hk_state.specs.contracts.key.KeyPartialEq.TheImpl.{eq-value}
use Rattle.hk_state.specs.Keys.{key_cmp}
use Rattle.hk_state.proofs.Kept.{alike, find_kept}
use Rattle.hk_state.proofs.Ordered.{in_order}
use Rattle.hk_state.proofs.Told.{is_none}
use Rattle.hk_state.proofs.Leasts.{in_range, one_left, least_left}
use Rattle.hk_state.proofs.least.least_unwritten.Goals as goal

pub loop-key-init : goal.loop-key-init
loop-key-init c =
    in_range c.args.entries.now c.args.writes.now.entries (bound_map (λ key. key.now) c.args.start)
    c.entries.inside.kept.entries c.into_iter-key-iterator.result
    (in_order c.entries.inside.kept.entries c.range-key-items.ensures.ordered) c.entries.view_is
    (c.into_iter-key-iterator.ensures.into_iter_gives ∙ c.range-key-items.ensures.between tt)

pub returns-then-not-contains_key : goal.returns-then-not-contains_key
returns-then-not-contains_key c = record {
  least =
      least_left c.args.entries.now c.args.writes.now.entries
      (is_from_start key_cmp (bound_map (λ key. key.now) c.args.start)) c.loop-key.key-iterator c.next.new.self
      c.in-Some.key.now c.in-Some.entry.now c.in-Some.ensures.steps
      (find_kept eq-value.it alike c.args.writes.now.entries c.in-Some.key.now
      ∙ is_none _ (sym c.contains_key.ensures ∙ c.if-not-contains_key.true)) c.loop-key.invariant;
}

pub loop-key-preserved : goal.loop-key-preserved
loop-key-preserved c =
    one_left c.args.entries.now c.args.writes.now.entries
    (is_from_start key_cmp (bound_map (λ key. key.now) c.args.start)) c.loop-key.key-iterator c.next.new.self
    c.in-Some.key.now c.in-Some.entry.now c.in-Some.ensures.steps
    (ap is_some (find_kept eq-value.it alike c.args.writes.now.entries c.in-Some.key.now)
    ∙ sym c.contains_key.ensures
    ∙ c.if-not-contains_key.false) c.loop-key.invariant
