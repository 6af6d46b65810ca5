use Rattle.std.proofs.Common.{subst, true, Some}
use Rattle.xo_list.specs.Item.{lookup}
use Rattle.xo_object.specs.Names.{emit_details}
use Rattle.xo_list.specs.Span.{items}
use Rattle.xo_object.specs.Transaction.{EmissionIs}
use Rattle.xo_object.proofs.transact.emission_of.Goals as goal

pub returns-else-sequence-ne0-clause-malformed : goal.returns-else-sequence-ne0-clause-malformed
returns-else-sequence-ne0-clause-malformed c e generation burden h =
    let there : EmissionIs true (Some c.in-Some.details.now) c.args.sequence generation burden =
    subst (λ found. EmissionIs true found c.args.sequence generation burden) c.in-Some.ensures.found
    (subst
    (λ emitted. EmissionIs emitted (lookup emit_details (items c.args.object.now)) c.args.sequence generation burden)
    c.if-not-emitted.false h) in
    c.details_of.ensures.malformed e generation burden there.1
