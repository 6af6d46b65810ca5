use Rattle.std.proofs.Common.{ap, Err}
use Rattle.hk_api_pure.proofs.Edits.{subarray_fails, subarray_lacks, subarray_is}
use Rattle.hk_api_pure.proofs.editing.subarray.Goals as goal

pub returns-in-Ok-clause-part : goal.returns-in-Ok-clause-part
returns-in-Ok-clause-part c = subarray_is c.args.bytes.now c.args.index _ c.in-Ok.ensures.found

pub returns-in-Err-ParseError-clause-part : goal.returns-in-Err-ParseError-clause-part
returns-in-Err-ParseError-clause-part c =
    let never = c.in-Err-ParseError.ensures.parse_error.0 (ap Err c.in-Err-ParseError.field-0-is) in
    subarray_fails c.args.bytes.now c.args.index never

pub returns-in-Err-DoesntExist-clause-part : goal.returns-in-Err-DoesntExist-clause-part
returns-in-Err-DoesntExist-clause-part c =
    let lacks = c.in-Err-DoesntExist.ensures.doesnt_exist.0 (ap Err c.in-Err-DoesntExist.field-0-is) in
    subarray_lacks c.args.bytes.now c.args.index lacks
