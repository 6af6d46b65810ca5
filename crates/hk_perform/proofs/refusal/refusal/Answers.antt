use Rattle.std.proofs.Common.{◌∙◌, sym}
use Rattle.hk_perform.proofs.Paying.{badly_signed, well_signed}
use Rattle.hk_perform.proofs.refusal.refusal.Goals as goal

pub returns-then-has_bad_signature : goal.returns-then-has_bad_signature
returns-then-has_bad_signature c = record {
  rows = λ rules.
      badly_signed rules c.args.ledger.now c.args.origin c.args.transaction.now
      (sym c.has_bad_signature.ensures.bad ∙ c.if-has_bad_signature.true);
}

pub returns-in-None : goal.returns-in-None
returns-in-None c = record {
  rows = λ rules.
      well_signed rules c.args.ledger.now c.args.origin c.args.transaction.now
      (sym c.has_bad_signature.ensures.bad ∙ c.if-has_bad_signature.false) _
      (sym c.holding.ensures.holding ∙ c.in-None.is);
}

pub returns-in-Some : goal.returns-in-Some
returns-in-Some c = record {
  rows = λ rules.
      c.account_refusal.ensures.rows
      ∙ well_signed rules c.args.ledger.now c.args.origin c.args.transaction.now
      (sym c.has_bad_signature.ensures.bad ∙ c.if-has_bad_signature.false) _
      (sym c.holding.ensures.holding ∙ c.in-Some.is);
}
