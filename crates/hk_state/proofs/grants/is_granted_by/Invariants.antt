use Rattle.std.proofs.Common.{◌≡◌, ◌&&◌, length}
use Rattle.std.specs.List.{list_any}
use Rattle.std.specs.Option.{option_map}
use Rattle.std.specs.FinMap.{entries}
use Rattle.std.specs.Map.Iter.{deref_pair}
use Rattle.hk_state.specs.Grants.{has_grant}
use Rattle.hk_state.specs.Reserves.{first_install, is_own}
use Rattle.hk_state.proofs.Walks.{run, on_from}
use Rattle.hk_state.proofs.grants.is_granted_by.Given as goal

-- the answer is that of the entries from the next one on
abbrev pub invariant-loop-next : goal.invariant-loop-next
invariant-loop-next l =
    list_any (λ e. has_grant l.hash l.actor l.namespace e.1)
    (run (is_own (first_install l.owner)) (on_from (entries l.ledger.entries) (option_map deref_pair l.next)))
    ≡ list_any (λ e. is_own (first_install l.owner) e.0 && has_grant l.hash l.actor l.namespace e.1)
    (entries l.ledger.entries)

abbrev pub decreases-loop-next : goal.decreases-loop-next
decreases-loop-next l = length (on_from (entries l.ledger.entries) (option_map deref_pair l.next))
