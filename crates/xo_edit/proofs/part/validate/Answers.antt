use Rattle.xo_list.proofs.OneList.{fields_or_fault, never_true}
use Rattle.xo_edit.proofs.part.validate.Goals as goal

pub returns-in-Err : goal.returns-in-Err
returns-in-Err c = record {
  object = (
    λ t.
        absurd (never_true t),
    λ h.
        absurd
        (fields_or_fault c.one_reading.ensures.law 10 c.args.bytes.now c.in-Err.field-0 c.in-Err.ensures.fault h),
  );
}
