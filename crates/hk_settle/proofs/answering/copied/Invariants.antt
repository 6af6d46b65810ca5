use Rattle.std.proofs.Common.{◌≡◌, take}
use Rattle.hk_settle.proofs.answering.copied.Given as goal

abbrev pub invariant-loop-emission : goal.invariant-loop-emission
invariant-loop-emission l = l.copied ≡ take l.emission-index l.emissions
