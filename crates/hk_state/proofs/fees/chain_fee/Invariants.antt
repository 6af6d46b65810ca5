use Rattle.std.proofs.Common.{◌≡◌}
use Rattle.hk_state.specs.Fees.{bounds_below}
use Rattle.hk_state.specs.Installs.{IsNext}
use Rattle.hk_state.proofs.fees.chain_fee.Given as goal

abbrev pub invariant-loop-position : goal.invariant-loop-position
invariant-loop-position l = record {
  fee : l.fee ≡ bounds_below l.ledger.entries l.kind l.account l.position;
  next : IsNext l.ledger.entries l.account l.position l.next;
}
