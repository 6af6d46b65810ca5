use Rattle.std.proofs.Common.{refl}
use Rattle.xo_list.proofs.OneList.{elements_or_fault, elements_whole, never_true}
use Rattle.xo_edit.proofs.part.are_elements.Goals as goal

pub returns-in-Err : goal.returns-in-Err
returns-in-Err c = record {
  array = (
    λ t.
        absurd (never_true t),
    λ h.
        absurd (elements_or_fault c.one_reading.ensures.law c.args.bytes.now c.in-Err.field-0 c.in-Err.ensures.reads h),
  );
}

pub returns-in-Ok : goal.returns-in-Ok
returns-in-Ok c = record { array = (λ t. elements_whole c.args.bytes.now _ c.in-Ok.ensures.reads, λ h. refl) }
