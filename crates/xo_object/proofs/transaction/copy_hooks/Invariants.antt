use Rattle.std.proofs.Common.{◌≡◌, take}
use Rattle.xo_object.proofs.transaction.copy_hooks.Given as goal

abbrev pub invariant-loop-hook : goal.invariant-loop-hook
invariant-loop-hook l = l.copied ≡ take l.hook-index l.hooks
