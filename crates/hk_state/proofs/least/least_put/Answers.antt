use Rattle.std.proofs.Common.{◌∙◌, sym, ap, subst}
use Rattle.std.specs.Option.{option_map}
use Rattle.std.specs.FinMap.{find}
use Rattle.std.specs.Map.Iter.{deref_pair}
use Rattle.std.specs.BTreeMap.Range.{is_from_start}
use Rattle.std.specs.Range.Bound.{bound_map}
use Rattle.hk_state.specs.contracts.key.KeyPartialEq.TheImpl.{eq-value}
use Rattle.hk_state.specs.Keys.{key_cmp, is_key}
use Rattle.std.specs.List.{list_any}
use Rattle.hk_state.specs.LeastWrites.{put_of}
use Rattle.hk_state.proofs.Kept.{alike}
use Rattle.hk_state.proofs.Listing.{all_end, less_end, found_end}
use Rattle.hk_state.proofs.Leasts.{LeastBut, nothing_put, one_so_far}
use Rattle.hk_state.proofs.least.least_put.Goals as goal

pub loop-key-init : goal.loop-key-init
loop-key-init c =
    let all = c.into_iter-key-iterator.ensures.into_iter_gives ∙ c.iter-key-items.ensures.rest in (
      λ q passes none. nothing_put q c.args.writes.now.entries (ap (list_any (λ w. is_key q w.0)) (sym all) ∙ none),
      all_end eq-value.it alike c.into_iter-key-iterator.result c.args.writes.now.entries all,
    )

pub loop-key-preserved : goal.loop-key-preserved
loop-key-preserved c =
    let es = c.args.writes.now.entries in
    let key = c.in-Some.key.now in
    let change = c.in-Some.change.now in
    let test = is_from_start key_cmp (bound_map (λ k. k.now) c.args.start) in (
      subst (LeastBut (λ q. put_of (find key_cmp q es)) test c.next.new.self) (sym c.lesser_put-least.ensures.lesser)
          (one_so_far (λ q. put_of (find key_cmp q es)) test c.loop-key.key-iterator c.next.new.self key change
          c.in-Some.ensures.steps
          (ap put_of (found_end eq-value.it alike c.loop-key.key-iterator c.next.new.self es key change
          c.in-Some.ensures.steps c.iter-key-items.ensures.unique c.loop-key.invariant.1))
          (option_map deref_pair c.loop-key.least) c.loop-key.invariant.0),
      less_end eq-value.it alike c.loop-key.key-iterator c.next.new.self es (key, change) c.in-Some.ensures.steps
          c.loop-key.invariant.1,
    )
