use Rattle.std.proofs.Common.{◌<◌, ◌≤◌, length, ap, Err}
use Rattle.hk_api_pure.proofs.Edits.{erased_is, erased_fails, erased_lacks, not_long}
use Rattle.hk_api_pure.proofs.editing.erased.Goals as goal

pub returns-in-Ok : goal.returns-in-Ok
returns-in-Ok c =
    let short : length c.args.bytes.now ≤ 16384 =
    not_long 16384 _ (λ long. absurd cc (c.in-Ok.ensures.too_big.1 long)) in
    erased_is c.one_spelling.ensures.law c.args.bytes.now c.args.field _ short c.in-Ok.ensures.erased

pub returns-in-Err-ParseError : goal.returns-in-Err-ParseError
returns-in-Err-ParseError c =
    let (short, never) = c.in-Err-ParseError.ensures.parse_error.0 (ap Err c.in-Err-ParseError.field-0-is) in
    erased_fails c.args.bytes.now c.args.field short never

pub returns-in-Err-DoesntExist : goal.returns-in-Err-DoesntExist
returns-in-Err-DoesntExist c =
    let (short, lacks) = c.in-Err-DoesntExist.ensures.doesnt_exist.0 (ap Err c.in-Err-DoesntExist.field-0-is) in
    erased_lacks c.args.bytes.now c.args.field short lacks
