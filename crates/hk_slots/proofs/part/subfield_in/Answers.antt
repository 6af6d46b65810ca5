use Rattle.std.proofs.Common.{sym, ◌∙◌}
use Rattle.hk_slots.proofs.Finding.{field_missing, field_found}
use Rattle.hk_slots.proofs.part.subfield_in.Goals as goal

pub returns-in-None-clause-part : goal.returns-in-None-clause-part
returns-in-None-clause-part c =
    field_missing c.more_room.ensures.law c.args.blobs.now c.args.whole.now c.requires c.bytes_of.result.now
    c.bytes_of.ensures.bytes (sym c.is_object.ensures.object ∙ c.if-not-is_object.false) c.args.field
    c.in-None.ensures.found

pub returns-in-Some-clause-part : goal.returns-in-Some-clause-part
returns-in-Some-clause-part c =
    (field_found c.more_room.ensures.law c.args.blobs.now c.args.whole.now c.requires c.bytes_of.result.now
    c.bytes_of.ensures.bytes (sym c.is_object.ensures.object ∙ c.if-not-is_object.false) c.args.field c.in-Some.span
    c.inner.result c.in-Some.ensures.found c.inner.ensures.inner).0

pub returns-in-Some-clause-fits : goal.returns-in-Some-clause-fits
returns-in-Some-clause-fits c =
    (field_found c.more_room.ensures.law c.args.blobs.now c.args.whole.now c.requires c.bytes_of.result.now
    c.bytes_of.ensures.bytes (sym c.is_object.ensures.object ∙ c.if-not-is_object.false) c.args.field c.in-Some.span
    c.inner.result c.in-Some.ensures.found c.inner.ensures.inner).1
