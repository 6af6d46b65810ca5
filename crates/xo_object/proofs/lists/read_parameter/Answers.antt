use Rattle.std.proofs.Common.{subst}
use Rattle.xo_list.specs.Span.{items}
use Rattle.xo_object.specs.Transaction.{ParameterIs}
use Rattle.xo_list.proofs.OneList.{same_fields}
use Rattle.xo_object.proofs.lists.read_parameter.Goals as goal

pub returns-clause-malformed : goal.returns-clause-malformed
returns-clause-malformed c e own r =
    c.parameter_of.ensures.malformed e own (subst (λ fields. ParameterIs fields own)
    (same_fields c.one_reading.ensures.law r.fields (items c.in_ok-object.object) c.args.bytes.now r.object
    c.in_ok-object.ensures.ok) r.is)
