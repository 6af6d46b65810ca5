use Rattle.std.proofs.Common.{◌≡◌, drop}
use Rattle.xo_list.specs.Item.{lookup}
use Rattle.xo_list.specs.Span.{items_of}
use Rattle.xo_list.proofs.object.value_of.Given as goal

abbrev pub invariant-loop-found : goal.invariant-loop-found
invariant-loop-found l =
    lookup l.field (items_of l.bytes (drop l.found-index l.spans)) ≡ lookup l.field (items_of l.bytes l.spans)
