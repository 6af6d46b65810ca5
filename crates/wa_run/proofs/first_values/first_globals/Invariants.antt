use Rattle.std.proofs.Common.{◌≡◌, take}
use Rattle.wa_ops.specs.Soundness.{Each}
use Rattle.wa_run.specs.Starts.{first_globals, HasWidth}
use Rattle.wa_run.proofs.first_values.first_globals.Given as goal

abbrev pub invariant-loop-global : goal.invariant-loop-global
invariant-loop-global l = record {
  words : l.words.items ≡ first_globals (take l.global-index l.globals);
  width : Each (λ global. HasWidth global.init) (take l.global-index l.globals);
}
