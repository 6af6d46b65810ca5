use Rattle.std.proofs.Common.{Some, None, Err, sym, ap, ◌∙◌}
use Rattle.xo_list.specs.Span.{items}
use Rattle.hk_emit.proofs.Judging.{by_number, by_details, by_reading, later_judged}
use Rattle.hk_emit.proofs.accept.emission_in.Goals as goal

pub returns-then-has_number : goal.returns-then-has_number
returns-then-has_number c = record {
  judged =
      by_number c.args.context.now c.args.nonces.now (items c.args.object.now)
      (sym c.has_number.ensures.number ∙ c.if-has_number.true);
}

pub returns-in-None : goal.returns-in-None
returns-in-None c = record {
  judged =
      by_details c.args.context.now c.args.nonces.now (items c.args.object.now)
      (sym c.has_number.ensures.number ∙ c.if-has_number.false) (sym c.in-None.ensures.nonce);
}

pub returns-in-Err-Malformed : goal.returns-in-Err-Malformed
returns-in-Err-Malformed c = record {
  judged = (
    None,
    c.in-Err-Malformed.ensures.malformed (ap Err c.in-Err-Malformed.field-0-is),
    by_reading c.args.context.now c.args.nonces.now (items c.args.object.now) c.in-Some.nonce.now
        (sym c.has_number.ensures.number ∙ c.if-has_number.false) (sym c.in-Some.ensures.nonce) None,
  );
}

pub returns-in-Ok : goal.returns-in-Ok
returns-in-Ok c = record {
  judged =
      later_judged (items c.args.object.now) c.args.object.now.bytes c.args.context.now c.args.nonces.now
      c.emission_of.result c.emission_of.ensures.later (Some c.in-Ok.transaction) c.in-Ok.ensures.ok
      (by_reading c.args.context.now c.args.nonces.now (items c.args.object.now) c.in-Some.nonce.now
      (sym c.has_number.ensures.number ∙ c.if-has_number.false) (sym c.in-Some.ensures.nonce) (Some c.in-Ok.transaction)
      ∙ sym c.emission_of.ensures.emission);
}
