use Rattle.std.proofs.Common.{◌≡◌, drop}
use Rattle.wa_ops.specs.HookRules.{are_types}
use Rattle.hk_rules.proofs.imports.are_types.Given as goal

abbrev pub invariant-loop-index : goal.invariant-loop-index
invariant-loop-index l = are_types (drop l.index l.kinds) (drop l.index l.wanted) ≡ are_types l.kinds l.wanted
