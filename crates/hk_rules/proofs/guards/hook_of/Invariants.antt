use Rattle.std.proofs.Common.{◌≡◌, drop}
use Rattle.std.specs.Prelude.{find}
use Rattle.wa_ops.specs.HookRules.{is_hook}
use Rattle.hk_rules.proofs.guards.hook_of.Given as goal

abbrev pub invariant-loop-export : goal.invariant-loop-export
invariant-loop-export l = find is_hook (drop l.export-index l.exports) ≡ find is_hook l.exports
