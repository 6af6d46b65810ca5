use Rattle.std.proofs.Common.{◌-◌, ◌≡◌, ◌≤◌}
use Rattle.hk_demo.specs.DemoLines.{payments}
use Rattle.hk_demo.specs.Summary.{plays}
use Rattle.hk_demo.proofs.demo_lines.pay.Given as goal

-- the Payments so far are made
abbrev pub invariant-loop-paid : goal.invariant-loop-paid
invariant-loop-paid l = (l.play ≡ plays l.fn.play (payments l.paid)) × (l.paid ≤ l.n)

abbrev pub decreases-loop-paid : goal.decreases-loop-paid
decreases-loop-paid l = l.n - l.paid
