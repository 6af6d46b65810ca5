use Rattle.std.specs.Map.Iter.{deref_pair}
use Rattle.std.specs.BTreeMap.Range.{is_from_start}
use Rattle.std.specs.Range.Bound.{bound_map}
use Rattle.hk_state.specs.Keys.{key_cmp}
use Rattle.hk_state.proofs.Ordered.{in_order}
use Rattle.hk_state.proofs.Leasts.{least_first, in_range}
use Rattle.hk_state.proofs.least.least_entry.Goals as goal

pub returns : goal.returns
returns c = record {
  least =
      least_first c.args.entries.now (is_from_start key_cmp (bound_map (λ key. key.now) c.args.start)) deref_pair
      c.range.result c.next.new.self c.next.result c.next.ensures.steps
      (in_range c.args.entries.now _ (bound_map (λ key. key.now) c.args.start) c.entries.inside.kept.entries
      c.range.result (in_order c.entries.inside.kept.entries c.range.ensures.ordered) c.entries.view_is
      (c.range.ensures.between tt));
}
