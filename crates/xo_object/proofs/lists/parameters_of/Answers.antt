use Rattle.std.proofs.Common.{subst, [], sym, refl}
use Rattle.xo_object.specs.Names.{hook_parameter}
use Rattle.xo_object.specs.Transaction.{ParameterIs, AllDiffer, Differs}
use Rattle.xo_object.proofs.Elements.{too_many, more_read, refused_there, twice_there, whole_read, differ_push}
use Rattle.xo_list.proofs.OneList.{never_true}
use Rattle.xo_object.proofs.lists.parameters_of.Goals as goal

pub returns-then-elements-gt-MOST-clause-malformed : goal.returns-then-elements-gt-MOST-clause-malformed
returns-then-elements-gt-MOST-clause-malformed c e parameters r =
    too_many c.one_reading.ensures.law hook_parameter ParameterIs 16 c.args.bytes.now c.args.elements.now
    c.requires.array parameters r.0 c.if-elements-gt-MOST.true

pub loop-element-preserved : goal.loop-element-preserved
loop-element-preserved c = record {
  each =
      more_read hook_parameter ParameterIs c.args.bytes.now c.args.elements.now c.loop-element.element-index _
      c.loop-element.parameters c.push.new.self c.in-Ok.parameter c.loop-element-test.true c.loop-element.invariant.each
      c.in-Ok.ensures.ok c.in_default.ensures.ok;
  differ =
      let other : Differs c.in-Ok.parameter.name c.loop-element.parameters =
      subst (λ n. Differs n c.loop-element.parameters) c.as_slice-in-Ok.ensures.items
      (subst (λ ps. Differs c.as_slice-in-Ok.result.now ps) c.as_slice.ensures.items
      (c.if-has_name.ensures.absent never_true)) in
      subst (AllDiffer []) (sym c.in_default.ensures.ok)
      (differ_push [] c.loop-element.parameters c.in-Ok.parameter c.loop-element.invariant.differ other);
}

pub returns-in-Err-clause-malformed : goal.returns-in-Err-clause-malformed
returns-in-Err-clause-malformed c e parameters r =
    refused_there c.one_reading.ensures.law hook_parameter ParameterIs 16 c.args.bytes.now c.args.elements.now
    c.loop-element.element-index _ c.requires.array c.loop-element-test.true (c.in-Err.ensures.malformed (cc))
    parameters r.0

pub returns-then-has_name-clause-malformed : goal.returns-then-has_name-clause-malformed
returns-then-has_name-clause-malformed c e parameters r =
    twice_there c.one_reading.ensures.law c.args.bytes.now c.args.elements.now c.loop-element.element-index _
    c.loop-element.parameters c.in-Ok.parameter c.requires.array c.loop-element-test.true c.loop-element.invariant.each
    c.in-Ok.ensures.ok
    (λ d.
    c.if-has_name.ensures.found refl (subst (λ n. Differs n c.as_slice.result.now) (sym c.as_slice-in-Ok.ensures.items)
    (subst (λ ps. Differs c.in-Ok.parameter.name ps) (sym c.as_slice.ensures.items) d))) parameters r

pub returns-clause-ok : goal.returns-clause-ok
returns-clause-ok c = (
  whole_read hook_parameter ParameterIs 16 c.args.bytes.now c.args.elements.now c.loop-element.element-index
      c.loop-element.parameters c.requires.array c.if-elements-gt-MOST.false c.loop-element-test.false
      c.loop-element.invariant.each,
  c.loop-element.invariant.differ,
)
