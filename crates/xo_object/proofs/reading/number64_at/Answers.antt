use Rattle.std.proofs.Common.{ap}
use Rattle.xo_fields.specs.Form.{form_at}
use Rattle.xo_object.proofs.reading.number64_at.Goals as goal

pub value_at-requires : goal.value_at-requires
value_at-requires c = ap form_at c.requires
