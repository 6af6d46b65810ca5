use Rattle.std.proofs.Common.{◌≡◌, ◌+◌, drop}
use Rattle.hk_state.specs.Fees.{code_fee}
use Rattle.hk_state.proofs.fees.code_fee.Given as goal

-- the fee so far, and that of the items that are left
abbrev pub invariant-loop-item : goal.invariant-loop-item
invariant-loop-item l = l.fee + code_fee (drop l.item-index l.items) ≡ code_fee l.items
