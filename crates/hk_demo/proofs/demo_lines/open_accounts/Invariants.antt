use Rattle.std.proofs.Common.{◌-◌, ◌≡◌, ◌≤◌}
use Rattle.hk_demo.specs.DemoLines.{accounts}
use Rattle.hk_demo.specs.Summary.{plays}
use Rattle.hk_demo.proofs.demo_lines.open_accounts.Given as goal

-- the accounts so far are opened
abbrev pub invariant-loop-k : goal.invariant-loop-k
invariant-loop-k l = (l.play ≡ plays l.fn.play (accounts l.k)) × (l.k ≤ 10)

abbrev pub decreases-loop-k : goal.decreases-loop-k
decreases-loop-k l = 10 - l.k
