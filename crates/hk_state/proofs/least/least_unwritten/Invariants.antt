use Rattle.std.specs.BTreeMap.Range.{is_from_start}
use Rattle.std.specs.Range.Bound.{bound_map}
use Rattle.hk_state.specs.Keys.{key_cmp}
use Rattle.hk_state.proofs.Leasts.{IsLeft}
use Rattle.hk_state.proofs.least.least_unwritten.Given as goal

-- what isn't changed stands among the entries that are left
abbrev pub invariant-loop-key : goal.invariant-loop-key
invariant-loop-key l =
    IsLeft l.entries l.writes.entries (is_from_start key_cmp (bound_map (λ key. key.now) l.start)) l.key-iterator
