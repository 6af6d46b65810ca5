use Rattle.std.proofs.Common.{◌≡◌, ℕ, List, drop}
use Rattle.xo_list.specs.Span.{items_of}
use Rattle.xo_object.specs.Transaction.{only}
use Rattle.xo_object.proofs.reading.all_among.Given as goal

abbrev pub invariant-loop-field : goal.invariant-loop-field
invariant-loop-field l =
    (bytes : List ℕ) →
    only l.allowed (items_of bytes (drop l.field-index l.spans)) ≡ only l.allowed (items_of bytes l.spans)
