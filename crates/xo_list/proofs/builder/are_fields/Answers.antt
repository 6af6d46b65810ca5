use Rattle.std.proofs.Common.{refl}
use Rattle.xo_list.proofs.OneList.{never_true, fields_whole, fields_or_fault}
use Rattle.xo_list.proofs.builder.are_fields.Goals as goal

pub returns-in-Err : goal.returns-in-Err
returns-in-Err c = record {
  whole = (
    λ t.
        absurd (never_true t),
    λ h.
        absurd (fields_or_fault c.one_reading.ensures.law 9 c.args.value.now c.in-Err.field-0 c.in-Err.ensures.reads h),
  );
}

pub returns-in-Ok : goal.returns-in-Ok
returns-in-Ok c = record { whole = (λ t. fields_whole 9 c.args.value.now _ c.in-Ok.ensures.reads, λ h. refl) }
