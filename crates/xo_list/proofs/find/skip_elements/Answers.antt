use Rattle.std.proofs.Common.{arith}
use Rattle.xo_list.proofs.Walk.{before_none, before_more, no_element_head_fault, no_element_body_fault, passes_all}
use Rattle.xo_list.proofs.Walk.{passes_enough}
use Rattle.xo_list.proofs.find.skip_elements.Goals as goal

pub elements-init : goal.elements-init
elements-init c = record {
  within = omega arith;
  few = omega arith;
  before = λ elements h. before_none c.args.bytes.now elements h;
}

pub returns-then-at-bytes : goal.returns-then-at-bytes
returns-then-at-bytes c = record {
  passed =
      λ elements h.
      passes_all c.args.bytes.now elements c.elements.passed c.elements.at c.args.count
      (c.elements.invariant.before elements h) c.elements.invariant.few c.if-at-bytes.true;
}

pub returns-in-Err : goal.returns-in-Err
returns-in-Err c = record {
  passed = λ elements h.
      absurd (no_element_head_fault c.one_field.ensures.law c.args.bytes.now elements c.elements.passed c.elements.at
      c.in-Err.field-0 (c.elements.invariant.before elements h)
      (grind (arith, c.elements.invariant.within, c.if-at-bytes.false)) c.in-Err.ensures.start);
}

pub returns-in-Err-skip_value : goal.returns-in-Err-skip_value
returns-in-Err-skip_value c = record {
  passed = λ elements h.
      absurd (no_element_body_fault c.one_field.ensures.law c.args.bytes.now elements c.elements.passed c.elements.at
      c.in-Ok.start.field c.in-Ok.start.form _ c.in-Err-skip_value.field-0 (c.elements.invariant.before elements h)
      (grind (arith, c.elements.invariant.within, c.if-at-bytes.false)) c.in-Ok.ensures.start
      c.in-Err-skip_value.ensures.value);
}

pub elements-preserved : goal.elements-preserved
elements-preserved c = record {
  within = omega (arith, c.in-Ok-skip_value.ensures.within);
  few = omega (arith, c.elements-test.true);
  before =
      λ elements h.
      before_more c.one_field.ensures.law c.args.bytes.now elements c.elements.passed c.elements.at c.in-Ok.start.field
      c.in-Ok.start.form _ _ c.in-Ok-skip_value.value.next (c.elements.invariant.before elements h)
      (grind (arith, c.elements.invariant.within, c.if-at-bytes.false)) c.in-Ok.ensures.start
      c.in-Ok-skip_value.ensures.value (omega (arith, c.in-Ok-skip_value.ensures.within));
}

pub returns : goal.returns
returns c = record {
  passed =
      λ elements h.
      passes_enough c.args.bytes.now elements c.elements.passed c.elements.at c.args.count
      (c.elements.invariant.before elements h) c.elements.invariant.few c.elements-test.false;
}
