use Rattle.std.proofs.Common.{◌≡◌, drop}
use Rattle.xo_object.specs.Transaction.{is_among}
use Rattle.xo_object.proofs.reading.is_one_of.Given as goal

abbrev pub invariant-loop-other : goal.invariant-loop-other
invariant-loop-other l = is_among l.field (drop l.other-index l.allowed) ≡ is_among l.field l.allowed
