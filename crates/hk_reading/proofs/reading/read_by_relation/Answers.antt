use Rattle.std.proofs.Common.{◌≡◌, ap, Err}
use Rattle.xo_list.specs.Span.{items}
use Rattle.xo_list.specs.Value.{IsObject}
use Rattle.hk_reading.proofs.OneReading.{at_some, refused}
use Rattle.hk_reading.proofs.reading.read_by_relation.Goals as goal

pub returns-in-Err-Malformed-clause-relation : goal.returns-in-Err-Malformed-clause-relation
returns-in-Err-Malformed-clause-relation c = (
  (c.is_too_long.ensures.short c.if-is_too_long.false),
  refused c.args.bytes.now c.in-Some.object.bytes (items c.in-Some.object)
      (c.is_too_long.ensures.short c.if-is_too_long.false)
      (at_some (λ object. IsObject (items object) c.args.bytes.now) c.in_ok-object_of.field-0 c.in-Some.object
      c.in-Some.is c.in_ok-object_of.ensures.some)
      (at_some (λ object. object.bytes ≡ c.args.bytes.now) c.in_ok-object_of.field-0 c.in-Some.object c.in-Some.is
      c.in_ok-object_of.ensures.same)
      (c.in-Err-Malformed.ensures.malformed (ap Err c.in-Err-Malformed.field-0-is)),
)
