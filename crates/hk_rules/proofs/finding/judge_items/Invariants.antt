use Rattle.std.proofs.Common.{◌≡◌, ℕ, ◌<◌, false}
use Rattle.wa_ops.specs.HookRules.{passes}
use Rattle.hk_rules.proofs.finding.judge_items.Given as goal

abbrev pub invariant-loop-index : goal.invariant-loop-index
invariant-loop-index g l = (j : ℕ) → j < l.index → passes (g.R.ItemRule.broken l.module j) l.items j ≡ false
