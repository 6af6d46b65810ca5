use Rattle.std.specs.Option.{option_map}
use Rattle.std.specs.FinMap.{find}
use Rattle.std.specs.Map.Iter.{deref_pair}
use Rattle.std.specs.BTreeMap.Range.{is_from_start}
use Rattle.std.specs.Range.Bound.{bound_map}
use Rattle.hk_state.specs.contracts.key.KeyPartialEq.TheImpl.{eq-value}
use Rattle.hk_state.specs.Keys.{key_cmp}
use Rattle.hk_state.specs.LeastWrites.{put_of}
use Rattle.hk_state.proofs.Kept.{alike}
use Rattle.hk_state.proofs.Listing.{IsEnd}
use Rattle.hk_state.proofs.Leasts.{LeastBut}
use Rattle.hk_state.proofs.least.least_put.Given as goal

-- the least of what the writes before those that are left put
abbrev pub invariant-loop-key : goal.invariant-loop-key
invariant-loop-key l =
    LeastBut (λ q. put_of (find key_cmp q l.writes.entries))
    (is_from_start key_cmp (bound_map (λ key. key.now) l.start)) l.key-iterator (option_map deref_pair l.least)
    × IsEnd eq-value.it alike l.key-iterator l.writes.entries
