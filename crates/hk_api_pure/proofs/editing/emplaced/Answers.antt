use Rattle.std.proofs.Common.{◌≡◌, ◌<◌, ◌⊎◌, length, ap, Err}
use Rattle.hk_api_pure.proofs.Edits.{emplaced_is, emplaced_fails}
use Rattle.hk_api_pure.proofs.editing.emplaced.Goals as goal

pub returns-in-Ok : goal.returns-in-Ok
returns-in-Ok c =
    let short : (16384 < length c.args.bytes.now) ⊎ (4096 < length c.args.put.now) → ⊥ =
    λ long. absurd cc (c.in-Ok.ensures.too_big.1 long) in
    emplaced_is c.one_spelling.ensures.law c.args.bytes.now c.args.put.now c.args.field _ short c.in-Ok.ensures.emplaced

pub returns-in-Err-ParseError : goal.returns-in-Err-ParseError
returns-in-Err-ParseError c =
    let (first, second, never) = c.in-Err-ParseError.ensures.parse_error.0 (ap Err c.in-Err-ParseError.field-0-is) in
    emplaced_fails c.args.bytes.now c.args.put.now c.args.field first second never
