use Rattle.std.proofs.Common.{ap}
use Rattle.std.specs.Prelude.{Err}
use Rattle.hk_bound.proofs.checking.spelled.Goals as goal

pub returns-in-Err-Malformed-clause-fault : goal.returns-in-Err-Malformed-clause-fault
returns-in-Err-Malformed-clause-fault c =
    λ version m s. c.in-Err-Malformed.ensures.malformed (ap Err c.in-Err-Malformed.field-0-is) m s.spelled
