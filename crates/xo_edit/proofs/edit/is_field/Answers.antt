use Rattle.std.proofs.Common.{length, refl}
use Rattle.xo_list.specs.Value.{HasFields}
use Rattle.xo_fields.proofs.Cases.{same_size, size_same}
use Rattle.xo_list.proofs.OneList.{never_true}
use Rattle.xo_edit.proofs.Splices.{one_whole, whole_one, absent_one, has_fields}
use Rattle.xo_edit.proofs.edit.is_field.Goals as goal

pub returns-then-not-validate : goal.returns-then-not-validate
returns-then-not-validate c = record {
  field = (
    λ t.
        absurd (never_true t),
    λ is. c.if-not-validate.ensures.object.1 (has_fields c.args.bytes.now c.args.field is),
  );
}

pub returns-in-Absent : goal.returns-in-Absent
returns-in-Absent c =
    let o : HasFields c.args.bytes.now = c.if-not-validate.ensures.object.0 refl in
    record {
      field = (
        λ t.
            absurd (never_true t),
        λ is.
            absurd (absent_one c.one_reading.ensures.law c.args.bytes.now c.args.field o.0 c.in-Absent.at o.1
            (c.in-Absent.ensures.located o.0 o.1) is),
      );
    }

pub returns-then-from-eq0 : goal.returns-then-from-eq0
returns-then-from-eq0 c =
    let o : HasFields c.args.bytes.now = c.if-not-validate.ensures.object.0 refl in
    record {
      field = (
        λ t.
            one_whole c.args.bytes.now c.args.field o.0 c.in-Found.from c.in-Found.value c.in-Found.to o.1
            (c.in-Found.ensures.located o.0 o.1) c.if-from-eq0.true
            (same_size c.in-Found.to (length c.args.bytes.now) t),
        λ is.
            size_same c.in-Found.to (length c.args.bytes.now) (whole_one c.one_reading.ensures.law c.args.bytes.now
            c.args.field o.0 c.in-Found.from c.in-Found.value c.in-Found.to o.1 (c.in-Found.ensures.located o.0 o.1)
            is).1,
      );
    }

pub returns-else-from-eq0 : goal.returns-else-from-eq0
returns-else-from-eq0 c =
    let o : HasFields c.args.bytes.now = c.if-not-validate.ensures.object.0 refl in
    record {
      field = (
        λ t. absurd (c.if-from-eq0.false (same_size c.in-Found.from 0 t)),
        λ is.
            size_same c.in-Found.from 0 (whole_one c.one_reading.ensures.law c.args.bytes.now c.args.field o.0
            c.in-Found.from c.in-Found.value c.in-Found.to o.1 (c.in-Found.ensures.located o.0 o.1) is).0,
      );
    }
