use Rattle.std.proofs.Common.{sym, subst, arith}
use Rattle.xo_list.proofs.Walk.{Behind, behind_none, behind_more, no_head_fault, no_body_fault, absent_before}
use Rattle.xo_list.proofs.Walk.{absent_at_end, found_here}
use Rattle.xo_list.proofs.find.locate.Goals as goal

pub fields-init : goal.fields-init
fields-init c items h = behind_none c.args.bytes.now c.args.field items h

pub returns-in-Err : goal.returns-in-Err
returns-in-Err c = record {
  located =
      λ items h.
      absurd (no_head_fault c.one_field.ensures.law c.args.bytes.now c.args.field items c.fields.last c.fields.at
      c.in-Err.field-0 (c.fields.invariant items h) c.fields-test.true c.in-Err.ensures.start);
}

pub returns-then-wanted-number : goal.returns-then-wanted-number
returns-then-wanted-number c = record {
  located = λ items h.
      absent_before c.one_header.ensures.law c.args.bytes.now c.args.field items c.fields.last c.fields.at
      c.in-Ok.start.field c.in-Ok.start.form _ (c.fields.invariant items h) c.fields-test.true c.in-Ok.ensures.start
      (omega (arith, c.number-wanted.ensures.number, c.number-number.ensures.number, c.if-wanted-number.true));
}

pub returns-in-Err-skip_value : goal.returns-in-Err-skip_value
returns-in-Err-skip_value c = record {
  located = λ items h.
      absurd (no_body_fault c.one_field.ensures.law c.args.bytes.now c.args.field items c.fields.last c.fields.at
      c.in-Ok.start.field c.in-Ok.start.form _ c.in-Err-skip_value.field-0 (c.fields.invariant items h)
      c.fields-test.true
      c.in-Ok.ensures.start c.in-Err-skip_value.ensures.value);
}

pub returns-then-wanted-number-2 : goal.returns-then-wanted-number-2
returns-then-wanted-number-2 c = let w : _ = c.in-Ok-skip_value.ensures.within in record {
  located = λ items h.
      found_here c.one_field.ensures.law c.args.bytes.now c.args.field items c.fields.last c.fields.at
      c.in-Ok.start.field c.in-Ok.start.form c.in-Ok.start.from
      (record { from = c.in-Ok-skip_value.value.from; to = c.in-Ok-skip_value.value.to }) c.in-Ok-skip_value.value.next
      (c.fields.invariant items h) c.fields-test.true c.in-Ok.ensures.start c.in-Ok-skip_value.ensures.value
      (omega (arith, c.in-Ok.ensures.within)) w.1 (omega (arith, w)) w.3 c.in-Ok-skip_value.ensures.place
      c.number-wanted.ensures.bytes.1
      (omega (arith, c.number-wanted.ensures.number, c.number-number.ensures.number, c.if-wanted-number-2.true));
}

pub fields-preserved : goal.fields-preserved
fields-preserved c items h = let w : _ = c.in-Ok-skip_value.ensures.within in
    subst (λ n. Behind c.args.bytes.now c.args.field items n c.in-Ok-skip_value.value.next)
    (sym c.number-number.ensures.number)
    (behind_more c.one_field.ensures.law c.args.bytes.now c.args.field items c.fields.last c.fields.at
    c.in-Ok.start.field c.in-Ok.start.form _ _ c.in-Ok-skip_value.value.next
    (c.fields.invariant items h) c.fields-test.true c.in-Ok.ensures.start c.in-Ok-skip_value.ensures.value w.3
    (omega (
      arith,
      c.number-wanted.ensures.number,
      c.number-number.ensures.number,
      c.if-wanted-number.false,
      c.if-wanted-number-2.false,
    )))

pub returns : goal.returns
returns c = record {
  located =
      λ items h.
      absent_at_end c.args.bytes.now c.args.field items c.fields.last c.fields.at (c.fields.invariant items h)
      c.fields-test.false;
}
