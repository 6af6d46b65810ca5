use Rattle.std.proofs.Common.{inr, refl}
use Rattle.xo_list.proofs.OneList.{fields_or_fault}
use Rattle.hk_emit.proofs.accept.object_of.Goals as goal

pub returns-in_default : goal.returns-in_default
returns-in_default c = record {
  ok = tt;
  same = tt;
  fault =
      inr (
        refl,
        fields_or_fault c.one_reading.ensures.law 10 c.args.blob.now c.in-Err.fault
            (c.in-Err.ensures.fault c.in_default.not-NoMemory),
      );
}
