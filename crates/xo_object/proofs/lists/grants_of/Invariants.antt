use Rattle.std.proofs.Common.{take}
use Rattle.xo_object.specs.Names.{hook_grant}
use Rattle.xo_list.specs.Span.{items_of}
use Rattle.xo_object.specs.Transaction.{Each, IsElement, GrantIs}
use Rattle.xo_object.proofs.lists.grants_of.Given as goal

abbrev pub invariant-loop-element : goal.invariant-loop-element
invariant-loop-element l =
    Each (IsElement hook_grant GrantIs) (items_of l.bytes (take l.element-index l.elements)) l.grants
