use Rattle.std.proofs.Common.{sym, subst}
use Rattle.std.specs.Option.{option_map}
use Rattle.std.specs.Map.Iter.{deref_pair}
use Rattle.std.specs.BTreeMap.Range.{is_from_start}
use Rattle.std.specs.Range.Bound.{bound_map}
use Rattle.hk_state.specs.Keys.{key_cmp}
use Rattle.hk_state.specs.Entries.{with_all}
use Rattle.hk_state.specs.Least.{Least}
use Rattle.hk_state.proofs.Leasts.{least_written}
use Rattle.hk_state.proofs.least.least_with.Goals as goal

pub returns : goal.returns
returns c = record {
  least =
      subst (Least (with_all c.args.entries.now c.args.writes.now.entries)
      (is_from_start key_cmp (bound_map (λ key. key.now) c.args.start))) (sym c.lesser.ensures.lesser)
      (least_written c.args.entries.now c.args.writes.now.entries
      (is_from_start key_cmp (bound_map (λ key. key.now) c.args.start))
      (option_map deref_pair c.least_unwritten-kept.result) (option_map deref_pair c.least_put-put.result)
      c.least_unwritten-kept.ensures.least c.least_put-put.ensures.least);
}
