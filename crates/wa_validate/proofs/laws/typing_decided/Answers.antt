use Rattle.wa_validate.proofs.AreTyped.{typing_decided}
use Rattle.wa_validate.proofs.laws.typing_decided.Goals as goal

pub returns : goal.returns
returns c = record { law = typing_decided }
