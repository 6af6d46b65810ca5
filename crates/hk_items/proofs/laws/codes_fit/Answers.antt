use Rattle.hk_items.proofs.Codes.{codes_fit}
use Rattle.hk_items.proofs.laws.codes_fit.Goals as goal

pub returns : goal.returns
returns c = record { law = codes_fit }
