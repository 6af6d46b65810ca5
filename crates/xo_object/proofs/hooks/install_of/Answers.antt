use Rattle.xo_object.proofs.Values.{same_refusal}
use Rattle.xo_object.proofs.hooks.install_of.Goals as goal

pub returns-in-Err-clause-malformed : goal.returns-in-Err-clause-malformed
returns-in-Err-clause-malformed c e item r = c.in-Err.ensures.malformed (same_refusal _ _ _ _ e) r.terms r.said
