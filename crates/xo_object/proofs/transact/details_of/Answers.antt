use Rattle.std.proofs.Common.{subst}
use Rattle.xo_list.specs.Span.{items}
use Rattle.xo_object.specs.Transaction.{DetailsIn}
use Rattle.xo_list.proofs.OneList.{same_fields}
use Rattle.xo_object.proofs.transact.details_of.Goals as goal

pub returns-clause-malformed : goal.returns-clause-malformed
returns-clause-malformed c e generation burden r =
    c.details_in.ensures.malformed e generation burden
    (subst (λ fields. DetailsIn fields generation burden) (same_fields c.one_reading.ensures.law r.fields
    (items c.in_ok-object.object) c.args.bytes.now r.object c.in_ok-object.ensures.ok) r.is)
