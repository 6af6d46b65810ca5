use Rattle.std.proofs.Common.{◌≡◌, ℕ, ◌<◌, false}
use Rattle.wa_ops.specs.HookRules.{in_code}
use Rattle.wa_ops.specs.Contexts.{callees}
use Rattle.hk_rules.proofs.finding.judge_codes.Given as goal

abbrev pub invariant-loop-func : goal.invariant-loop-func
invariant-loop-func g l =
    (j : ℕ) → j < l.func → (p : ℕ) → in_code (g.R.OpRule.broken (callees l.rows)) l.codes j p ≡ false
