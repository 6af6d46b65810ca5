use Rattle.std.proofs.Common.{◌≡◌, ℕ, ◌<◌, false}
use Rattle.wa_ops.specs.Contexts.{callees}
use Rattle.hk_rules.proofs.finding.first_broken.Given as goal

abbrev pub invariant-loop-place : goal.invariant-loop-place
invariant-loop-place g l = (j : ℕ) → j < l.place → g.R.OpRule.broken (callees l.rows) l.ops j ≡ false
