use Rattle.std.proofs.Common.{◌≡◌, drop}
use Rattle.std.specs.List.{list_any}
use Rattle.hk_state.specs.Grants.{is_granted}
use Rattle.hk_state.proofs.grants.is_granted.Given as goal

abbrev pub invariant-loop-grant : goal.invariant-loop-grant
invariant-loop-grant l =
    list_any (is_granted l.hash l.actor) (drop l.grant-index l.grants) ≡ list_any (is_granted l.hash l.actor) l.grants
