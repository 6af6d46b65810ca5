use Rattle.std.proofs.Common.{[], take}
use Rattle.xo_object.specs.Names.{hook_parameter}
use Rattle.xo_list.specs.Span.{items_of}
use Rattle.xo_object.specs.Transaction.{Each, IsElement, ParameterIs, AllDiffer}
use Rattle.xo_object.proofs.lists.parameters_of.Given as goal

abbrev pub invariant-loop-element : goal.invariant-loop-element
invariant-loop-element l = record {
  each : Each (IsElement hook_parameter ParameterIs) (items_of l.bytes (take l.element-index l.elements)) l.parameters;
  differ : AllDiffer [] l.parameters;
}
