use Rattle.std.proofs.Common.{ap, arith}
use Rattle.xo_fields.specs.Field.{number}
use Rattle.xo_list.specs.declared.builder.Put.{Put}
use Rattle.xo_list.proofs.Building.{free_before, put_before, below_more}
use Rattle.xo_list.proofs.builder.slot_of.Goals as goal

pub returns-then-wanted-number : goal.returns-then-wanted-number
returns-then-wanted-number c = record {
  slot =
      free_before c.args.field c.args.fields.now c.loop-index.index c.index-fields-index.result c.requires
      c.loop-index-test.true c.loop-index.invariant
      (omega (
        arith,
        c.number-wanted.ensures.number,
        c.number-number.ensures.number,
        ap (λ (p : Put). number p.field) c.index-fields-index.is,
        c.if-wanted-number.true,
      ));
}

pub returns-then-wanted-number-2 : goal.returns-then-wanted-number-2
returns-then-wanted-number-2 c = record {
  slot =
      put_before c.args.field c.args.fields.now c.loop-index.index c.index-fields-index.result c.loop-index-test.true
      c.number-wanted.ensures.bytes.1
      (omega (arith, c.number-number.ensures.bytes, ap (λ (p : Put). p.field.code) c.index-fields-index.is))
      (omega (
        arith,
        c.number-wanted.ensures.number,
        c.number-number.ensures.number,
        ap (λ (p : Put). number p.field) c.index-fields-index.is,
        c.if-wanted-number-2.true,
      ));
}

pub loop-index-preserved : goal.loop-index-preserved
loop-index-preserved c =
    below_more c.args.field c.args.fields.now c.loop-index.index c.index-fields-index.result c.loop-index-test.true
    c.loop-index.invariant
    (omega (
      arith,
      c.number-wanted.ensures.number,
      c.number-number.ensures.number,
      ap (λ (p : Put). number p.field) c.index-fields-index.is,
      c.if-wanted-number.false,
      c.if-wanted-number-2.false,
    ))
